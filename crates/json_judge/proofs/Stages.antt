-- A stage's refusal as a number.
use mathlib.Core.Path.{◌≡◌, refl, sym}
use mathlib.Core.Bool.{Bool, true, false, cond}
use Prim.Native.Nat.{ℕ}
use lib.Dec.{eqb}
use borrow.Author.Tests.{eqb-true}
use Rattle.prelude.specs.Refusals.{stage_of}
use Rattle.prelude.specs.Refusals.{Passed, Refused}
use Rattle.jwe.specs.Answers.{refused_by}

pub refused_stage : (n k : ℕ) → refused_by (stage_of n k) ≡ n
unfolding stage_of
refused_stage n k = cases (eqb n 0) refl
  where
    cases : (b : Bool) → eqb n 0 ≡ b → refused_by (cond b (Passed k) (Refused n)) ≡ n
    cases true e = sym (eqb-true n 0 e)
    cases false e = refl
