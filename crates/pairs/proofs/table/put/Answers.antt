-- Only numbers behind the table are written.
use mathlib.Core.Path.{refl, ◌∙◌}
use Prim.Native.Nat.{◌+◌, ◌*◌}
use native.Mathlib.Omega.{arith}
use lib.ListN.{set, length-set}
use Rattle.pairs.proofs.Tables.{kept_set}
use Rattle.pairs.proofs.table.put.Goals as goal

pub start-x-requires : goal.start-x-requires
start-x-requires c = (c.requires.size_nonzero.0, omega (arith, c.requires.size_nonzero.1))

pub loop-x-init : goal.loop-x-init
loop-x-init c = ((c.start-x.ensures.0, refl), (refl, λ k h. refl))

pub bounds-work-x : goal.bounds-work-x
bounds-work-x c =
    omega (arith, c.loop-x-test.true, c.loop-x.invariant, c.requires.size_nonzero.1)

pub bounds-work-x-then-work-x-eq0 : goal.bounds-work-x-then-work-x-eq0
bounds-work-x-then-work-x-eq0 c =
    omega (arith, c.loop-x-test.true, c.loop-x.invariant.0.1, c.loop-x.invariant.1.0, c.requires.size_nonzero.1)

pub bounds-work-x-then-work-x-eq0-2 : goal.bounds-work-x-then-work-x-eq0-2
bounds-work-x-then-work-x-eq0-2 c =
    omega (arith, length-set c.loop-x.work c.loop-x.x c.args.v, c.loop-x-test.true, c.loop-x.invariant.0.1, c.loop-x.invariant.1.0, c.requires.size_nonzero.1)

pub shape_of-work-then-work-x-eq0 : goal.shape_of-work-then-work-x-eq0
shape_of-work-then-work-x-eq0 c =
    length-set (set c.loop-x.work c.loop-x.x c.args.v) (c.loop-x.x + 3 * c.args.size) c.args.number ∙ length-set c.loop-x.work c.loop-x.x c.args.v ∙ c.loop-x.invariant.1.0

pub returns-then-work-x-eq0 : goal.returns-then-work-x-eq0
returns-then-work-x-eq0 c =
    kept_set c.args.size c.args.work.now (set c.loop-x.work c.loop-x.x c.args.v) (c.loop-x.x + 3 * c.args.size)
    c.args.number (omega (arith, c.loop-x.invariant.0.0))
    (kept_set c.args.size c.args.work.now c.loop-x.work c.loop-x.x c.args.v c.loop-x.invariant.0.0 c.loop-x.invariant.1.1)

pub loop-x-preserved : goal.loop-x-preserved
loop-x-preserved c =
    ((omega (arith, c.loop-x.invariant.0.0), c.loop-x.invariant.0.1), c.loop-x.invariant.1)

pub shape_of-work : goal.shape_of-work
shape_of-work c = c.loop-x.invariant.1.0

pub returns : goal.returns
returns c = c.loop-x.invariant.1.1
