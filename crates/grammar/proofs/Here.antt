-- The octet at a position, a step, and skipping a class of octets, as the code does them: one octet at a time.
use mathlib.Core.Path.{◌≡◌, refl, ap, sym, ◌∙◌}
use mathlib.Core.Bool.{Bool, true, false, true≢false, cond}
use mathlib.Core.List.{List, [], ◌∷◌}
use Prim.Native.Nat.{ℕ, zero, suc, ◌+◌, ◌≤◌, ◌<◌}
use native.Mathlib.Nat.{le_of_suc-le-suc, not-suc-le-zero}
use lib.ListN.{length, get_or, drop_of_length-le, get_or-eq_default}
use lib.Dec.{ltb}
use borrow.Author.Tests.{lt-ltb, le-ltb, ltb-true, ltb-false}
use Rattle.prelude.proofs.Lists.{drop_next}
use Rattle.grammar.specs.Reader.{octet_at, step, pass_over, skip}

pub octet_here : (s : List ℕ) (at : ℕ) → at < length s → get_or s at 0 ≡ octet_at s at
octet_here [] at h = absurd (not-suc-le-zero h)
octet_here (c ∷ s) zero h = refl
octet_here (c ∷ s) (suc at) h = octet_here s at (le_of_suc-le-suc h)

pub octet_end : (s : List ℕ) (at : ℕ) → length s ≤ at → 256 ≡ octet_at s at
octet_end s at h = sym (get_or-eq_default s 256 h)

pub step_inside : (s : List ℕ) (at : ℕ) → at < length s → at + 1 ≡ step s at
step_inside s at h = simp (lt-ltb at (length s) h)

pub step_end : (s : List ℕ) (at : ℕ) → length s ≤ at → at ≡ step s at
step_end s at h = simp (le-ltb at (length s) h)

-- A position whose octet is in a class that leaves 256 out is inside the text.
pub class_inside : (p : ℕ → Bool) (s : List ℕ) (at : ℕ) → p 256 ≡ false → p (octet_at s at) ≡ true → at < length s
class_inside p s at never here = cases (ltb at (length s)) refl
  where
    cases : (b : Bool) → ltb at (length s) ≡ b → at < length s
    cases true e = ltb-true at (length s) e
    cases false e =
        absurd (true≢false (sym here ∙ ap p (sym (octet_end s at (ltb-false at (length s) e))) ∙ never))

module _ (p : ℕ → Bool) (s : List ℕ) (at : ℕ) where
  pub skip_end : length s ≤ at → skip p s at ≡ at
  unfolding skip pass_over
  skip_end h = ap (λ (t : List ℕ). pass_over p t at) (drop_of_length-le s {i = at} h)

  module _ (h : at < length s) where
    skip_here : skip p s at ≡ cond (p (get_or s at 0)) (skip p s (at + 1)) at
    unfolding skip pass_over
    skip_here = ap (λ (t : List ℕ). pass_over p t at) (drop_next s at (at + 1) refl h)

    pub skip_next : p (get_or s at 0) ≡ true → skip p s at ≡ skip p s (at + 1)
    skip_next e = skip_here ∙ ap (λ (t : Bool). cond t (skip p s (at + 1)) at) e

    pub skip_stop : p (get_or s at 0) ≡ false → skip p s at ≡ at
    skip_stop e = skip_here ∙ ap (λ (t : Bool). cond t (skip p s (at + 1)) at) e
