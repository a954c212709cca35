-- A stage's answer handed up: tests of a stage with others behind them.
use mathlib.Core.Path.{◌≡◌, refl, ap, sym, ◌∙◌}
use mathlib.Core.Bool.{Bool, true, false, cond}
use mathlib.Core.List.{List, [], ◌∷◌, ◌++◌}
use Prim.Native.Nat.{ℕ, ◌<◌}
use native.Mathlib.Omega.{arith}
use lib.Dec.{eqb}
use borrow.Author.Tests.{ne_eqb, eqb-true, eqb-false}
use Rattle.prelude.specs.Refusals.{Test, ◌if◌, first, stage_of}
use Rattle.prelude.proofs.Refusals.{nonzero, first_skip, first_stop}
use Rattle.prelude.specs.Refusals.{Passed, Refused}
use Rattle.headers.proofs.Stages.{passed_is, refused_is}

refused_of : (m n : ℕ) → 0 < m → Refused m ≡ stage_of m n
unfolding stage_of
refused_of m n h = sym (ap (λ (b : Bool). cond b (Passed n) (Refused m)) (ne_eqb m 0 (λ e. omega arith)))

module _ (tests more : List Test) (p : nonzero tests ≡ true) where
  -- What the first ones refuse, all refuse.
  pub handed_up : (m k n : ℕ) → Refused m ≡ stage_of (first tests) k → Refused m ≡ stage_of (first (tests ++ more)) n
  handed_up m k n e =
      let told = refused_is m (first tests) k e in
      refused_of m n told.1
      ∙ ap (λ (i : ℕ). stage_of i n)
      (sym told.0 ∙ sym (first_stop tests more p (λ z. omega (arith, told.0, told.1))))

  -- Where they pass, the others decide.
  pub gone_on : (i k n : ℕ) → Passed i ≡ stage_of (first tests) k →
      stage_of (first (tests ++ more)) n ≡ stage_of (first more) n
  gone_on i k n e = ap (λ (j : ℕ). stage_of j n) (first_skip tests more p (passed_is i (first tests) k e).0)

  -- Where all pass, both do.
  pub both_pass : first (tests ++ more) ≡ 0 → (first tests ≡ 0) × (first more ≡ 0)
  both_pass e = cases (eqb (first tests) 0) refl
    where
      cases : (b : Bool) → eqb (first tests) 0 ≡ b → (first tests ≡ 0) × (first more ≡ 0)
      cases true t =
          let none = eqb-true (first tests) 0 t in (none, sym (first_skip tests more p none) ∙ e)
      cases false t =
          let some = eqb-false (first tests) 0 t in absurd (some (sym (first_stop tests more p some) ∙ e))

-- One test.

pub one_fails : (b : Bool) (n : ℕ) → b ≡ true → Refused 10 ≡ stage_of (first (10 if b ∷ [])) n
unfolding first stage_of
one_fails b n e = sym (ap (λ (x : Bool). stage_of (cond x 10 0) n) e)

pub one_passes : (b : Bool) (n : ℕ) → b ≡ false → Passed n ≡ stage_of (first (10 if b ∷ [])) n
unfolding first stage_of
one_passes b n e = sym (ap (λ (x : Bool). stage_of (cond x 10 0) n) e)
