-- Tests in order, one list after another: none refuses where none of either does, no number of the first being 0.
use mathlib.Core.Path.{◌≡◌, refl}
use mathlib.Core.Bool.{Bool, true, false, cond}
use mathlib.Core.Logic.{◌↔◌}
use mathlib.Core.List.{List, [], ◌∷◌, ◌++◌}
use lib.Dec.{eqb}
use borrow.Author.Tests.{eqb-false}
use Rattle.prelude.specs.Any.{any}
use Rattle.prelude.specs.Refusals.{Test, first}
use Rattle.meets.proofs.Deciding.{or_false}

-- Whether a test has the number 0, which says that nothing refuses.
abbrev pub unnumbered : Test → Bool
unnumbered t = eqb t.number 0

-- None of either refuses.
pub first_append : (ts us : List Test) → any unnumbered ts ≡ false →
    (first (ts ++ us) ≡ 0) ↔ ((first ts ≡ 0) × (first us ≡ 0))
unfolding any first
first_append [] us n = ((λ e. (refl, e)), (λ h. h.1))
first_append (t ∷ ts) us n =
    let m = (or_false (unnumbered t) (any unnumbered ts)).0 n in
    cases t.fails (first_append ts us m.1) (eqb-false t.number 0 m.0)
  where
    cases : (b : Bool) → (first (ts ++ us) ≡ 0) ↔ ((first ts ≡ 0) × (first us ≡ 0)) → (t.number ≡ 0 → ⊥) →
        (cond b t.number (first (ts ++ us)) ≡ 0) ↔ ((cond b t.number (first ts) ≡ 0) × (first us ≡ 0))
    cases true r m = ((λ e. absurd (m e)), (λ h. absurd (m h.0)))
    cases false r m = r
