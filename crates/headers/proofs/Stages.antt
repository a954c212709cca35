-- For callers of a stage, and of the rules on a recipient: what the answer tells of the refusals, and that their numbers
-- are none of them 0, so that orders can be put one behind the other (jose's `first_append`).
use mathlib.Core.Path.{◌≡◌, refl, ap, sym, ◌∙◌}
use mathlib.Core.Bool.{Bool, true, false, cond}
use mathlib.Core.List.{List, ◌++◌}
use Prim.Native.Nat.{ℕ, ◌<◌}
use native.Mathlib.Omega.{arith}
use lib.Dec.{eqb}
use borrow.Author.Tests.{eqb-true, eqb-false, ne_eqb}
use Rattle.rows.specs.Rows.{Entry}
use Rattle.prelude.specs.Refusals.{Test, first, stage_of}
use Rattle.prelude.proofs.Refusals.{nonzero, first_stop}
use Rattle.headers.specs.Headers.{too_long, unread, text_order, object_order}
use Rattle.prelude.specs.Refusals.{Passed, Refused}

module _ (n refusal passes : ℕ) where
  pub passed_is : Passed n ≡ stage_of refusal passes → (refusal ≡ 0) × (n ≡ passes)
  unfolding stage_of
  passed_is e = cases (eqb refusal 0) refl e
    where
      cases : (b : Bool) → eqb refusal 0 ≡ b → Passed n ≡ cond b (Passed passes) (Refused refusal) →
          (refusal ≡ 0) × (n ≡ passes)
      cases true t e = (eqb-true refusal 0 t, cc)
      cases false t e = let z : ◌≡◌ {A = ℕ} 0 1 = cc in absurd (omega arith)

  pub refused_is : Refused n ≡ stage_of refusal passes → (refusal ≡ n) × (0 < n)
  unfolding stage_of
  refused_is e = cases (eqb refusal 0) refl e
    where
      cases : (b : Bool) → eqb refusal 0 ≡ b → Refused n ≡ cond b (Passed passes) (Refused refusal) →
          (refusal ≡ n) × (0 < n)
      cases true t e = let z : ◌≡◌ {A = ℕ} 0 1 = cc in absurd (omega arith)
      cases false t e = let same : refusal ≡ n = cc in (same, omega (arith, eqb-false refusal 0 t))

pub text_nonzero : (header : List ℕ) → nonzero (text_order header) ≡ true
unfolding text_order
text_nonzero header = refl

pub object_nonzero : (s : List ℕ) (es : List Entry) → nonzero (object_order s es) ≡ true
unfolding object_order
object_nonzero s es = refl

-- A stage that refuses with a number, and one that passes.

pub refuses : {n : ℕ} (k : ℕ) → 0 < n → Refused n ≡ stage_of n k
unfolding stage_of
refuses {n} k h = sym (ap (λ (b : Bool). cond b (Passed k) (Refused n)) (ne_eqb n 0 (λ (e : n ≡ 0). omega (arith, e, h))))

pub passes : {n k : ℕ} → n ≡ 0 → Passed k ≡ stage_of n k
unfolding stage_of
passes {n} {k} e = sym (ap (λ (m : ℕ). stage_of m k) e)

-- A list of tests that refuses, and whatever tests behind it.
pub stopped : (xs ys : List Test) → nonzero xs ≡ true → (n : ℕ) → first xs ≡ n → 0 < n → first (xs ++ ys) ≡ n
stopped xs ys p n e h = first_stop xs ys p (λ z. omega (arith, z, e, h)) ∙ e

-- A header whose text passes 6 is within its room.
pub not_long : (header : List ℕ) → first (text_order header) ≡ 0 → too_long header ≡ false
unfolding first text_order
not_long header = cases (too_long header) (unread header)
  where
    cases : (b c : Bool) → ◌≡◌ {A = ℕ} (cond b 6 (cond c 7 0)) 0 → b ≡ false
    cases true c e = absurd (omega arith)
    cases false c e = refl
