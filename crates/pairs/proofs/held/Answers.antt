-- What the table holds for a number is 0 or a position.
use mathlib.Core.Logic.{⊎_elim}
use native.Mathlib.Omega.{arith}
use Rattle.pairs.proofs.held.Goals as goal

pub returns-then-size-number : goal.returns-then-size-number
returns-then-size-number c = tt

pub bounds-work-number : goal.bounds-work-number
bounds-work-number c =
    omega (arith, c.if-size-number.false, c.requires.size_in_bounds)

pub returns-then-q-eq0 : goal.returns-then-q-eq0
returns-then-q-eq0 c = tt

pub overflow_cast-q : goal.overflow_cast-q
overflow_cast-q c =
    omega (arith, c.type_inv.work c.args.number)

pub near-requires : goal.near-requires
near-requires c =
    record {
      spot = ⊎_elim (λ e. absurd (c.if-q-eq0.false e)) (λ spot. spot) (c.requires.table (omega (arith, c.if-size-number.false)) c.args.number (omega (arith, c.if-size-number.false)));
      at_in_bounds = c.requires.at_in_bounds;
    }

pub returns : goal.returns
returns c = c.near.ensures
