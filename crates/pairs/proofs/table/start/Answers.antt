-- The rest of a division is less than what is divided by.
use Prim.Native.Nat.{ℕ, ◌*◌, ◌<◌}
use native.Mathlib.Omega.{arith}
use native.Mathlib.Nat.{mod-lt}
use Rattle.pairs.proofs.table.start.Goals as goal

two : (n : ℕ) → 0 < n → 0 < 2 * n
two n h = omega arith

pub overflow_add-result : goal.overflow_add-result
overflow_add-result c =
    let h = mod-lt c.args.v (two c.args.size c.requires.0) in
    omega (arith, h, c.requires.1)

pub returns : goal.returns
returns c =
    let h = mod-lt c.args.v (two c.args.size c.requires.0) in
    (omega arith, omega (arith, h))
