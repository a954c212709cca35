-- Octets compared in blocks: the code's answer is the definition's test.
use mathlib.Core.Path.{◌≡◌, refl, sym, subst}
use mathlib.Core.Bool.{Bool, true, false, true≢false}
use mathlib.Core.List.{List}
use mathlib.Core.Logic.{◌↔◌}
use Prim.Native.Nat.{ℕ}
use lib.Dec.{T}
use Rattle.grammar.specs.Spellings.{equal}
use Rattle.grammar.proofs.Spellings.{equal_sound, equal_same}
use Rattle.grammar.proofs.Parse.{true→T}
use Rattle.grammar.proofs.Scan.{T→true}

pub decided : (r : Bool) (v w : List ℕ) → (r ≡ true) ↔ (v ≡ w) → r ≡ equal v w
decided true v w f = sym (T→true (equal v w) (subst (λ z. T (equal v z)) (f.0 refl) (equal_same v)))
decided false v w f = cases (equal v w) refl
  where
    cases : (b : Bool) → equal v w ≡ b → false ≡ equal v w
    cases true e = absurd (true≢false (sym (f.1 (equal_sound v w (true→T (equal v w) e)))))
    cases false e = sym e
