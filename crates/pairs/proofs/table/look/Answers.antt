-- Each place that is read lies in the lent numbers.
use mathlib.Core.Path.{refl}
use Prim.Native.Nat.{◌+◌, ◌*◌}
use native.Mathlib.Omega.{arith}
use Rattle.pairs.proofs.table.look.Goals as goal

pub start-x-requires : goal.start-x-requires
start-x-requires c = (c.requires.0, omega (arith, c.requires.1))

pub loop-x-init : goal.loop-x-init
loop-x-init c = (c.start-x.ensures.0, refl)

pub overflow_cast-number : goal.overflow_cast-number
overflow_cast-number c =
    omega (arith, c.type_inv.work (c.loop-x.x + 3 * c.args.size))

pub loop-x-preserved : goal.loop-x-preserved
loop-x-preserved c =
    (omega (arith, c.loop-x.invariant.0), c.loop-x.invariant.1)
