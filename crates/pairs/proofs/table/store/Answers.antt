-- One position, or nothing is left.
use mathlib.Core.Path.{refl}
use mathlib.Core.Logic.{inl}
use native.Mathlib.Omega.{arith}
use Rattle.pairs.proofs.Tables.{left_set}
use Rattle.pairs.proofs.table.store.Goals as goal

pub bounds-work-number : goal.bounds-work-number
bounds-work-number c = omega (arith, c.if-number-size.true, c.requires)

pub returns-then-at-le4294967295 : goal.returns-then-at-le4294967295
returns-then-at-le4294967295 c =
    left_set c.args.size c.args.at c.args.number c.args.work.now (omega (arith, c.if-number-size.true, c.requires))

pub returns-else-at-le4294967295 : goal.returns-else-at-le4294967295
returns-else-at-le4294967295 c = λ k h. inl refl

pub returns-else-number-size : goal.returns-else-number-size
returns-else-number-size c = λ k h. inl refl
