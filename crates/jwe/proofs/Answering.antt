-- What judging answers, where a test fails or none does.
use mathlib.Core.Path.{◌≡◌, refl, ap, sym, ◌∙◌}
use mathlib.Core.Bool.{Bool, true, false, cond}
use mathlib.Core.List.{List}
use Prim.Native.Nat.{ℕ, ◌<◌}
use native.Mathlib.Omega.{arith}
use lib.ListN.{length, get_or}
use lib.Dec.{eqb}
use borrow.Author.Tests.{eq-eqb, ne_eqb, eqb-true}
use Rattle.prelude.specs.Refusals.{Test, first}
use Rattle.headers.specs.Answers.{components_of}
use Rattle.jwe.specs.Judge.{Outcome, places_in, accepted, refused, answered}
use Rattle.jwe.specs.Answers.{numbers}
use Rattle.jwe.specs.Inner.Stages.{Judges}
use Rattle.jwe.specs.Answers.{Result}

module _ (message : List ℕ) (x : Outcome) where
  abbrev by : ℕ → Bool → List ℕ
  by k b = cond b (accepted message x) (refused k)

  pub answered_refused : {k n : ℕ} → k ≡ n → 0 < n → refused n ≡ answered message k x
  answered_refused {k} {n} e h =
      ap refused (sym e) ∙ sym (ap (by k) (ne_eqb k 0 (λ z. omega (arith, z, e, h))))

  pub answered_accepted : {k : ℕ} → k ≡ 0 → accepted message x ≡ answered message k x
  answered_accepted {k} e = sym (ap (by k) (eq-eqb k 0 e))

  -- The first number is the refusal.
  pub number_is : (k : ℕ) (r : Result) → numbers r ≡ answered message k x → r.number ≡ k
  unfolding accepted refused
  number_is k r e = ap (λ (l : List ℕ). get_or l 0 0) e ∙ cases (eqb k 0) refl
    where
      cases : (b : Bool) → eqb k 0 ≡ b → get_or (by k b) 0 0 ≡ k
      cases true t = sym (eqb-true k 0 t)
      cases false t = refl

-- The components of an accepted message, and how many parameters are handed out.

pub components_are : (message : List ℕ) (x : Outcome) (r : Result) → numbers r ≡ accepted message x →
    components_of r.components ≡ x.components
unfolding accepted
components_are message x r e = ap places_in e

pub parameters_are : (message : List ℕ) (x : Outcome) (r : Result) → numbers r ≡ accepted message x →
    r.parameters ≡ length x.entries
unfolding accepted
parameters_are message x r e = ap (λ (l : List ℕ). get_or l 17 0) e

-- A refusal, by its number.
module _ (message : List ℕ) (order : List Test) (x : Outcome) {n : ℕ} (r : Result) (is : numbers r ≡ refused n)
    (fails : first order ≡ n) (some : 0 < n) (text₀ text table₀ table : List ℕ) where
  pub refuses : length text ≡ length text₀ → length table ≡ length table₀ →
      Judges message order x r text₀ text table₀ table
  refuses s t = record {
    answers = is ∙ answered_refused message x fails some;
    same_text = s;
    same_table = t;
    header = λ z. absurd (omega (arith, z, fails, some));
    entries = λ z. absurd (omega (arith, z, fails, some));
    printed = λ z. absurd (omega (arith, z, fails, some));
  }
