-- Fingerprints as the code makes them, octet by octet; and what they say: strings that say the same have equal ones.
use mathlib.Core.Path.{◌≡◌, refl, ap, sym, subst}
use mathlib.Core.Bool.{Bool, true, false}
use mathlib.Core.List.{List, [], ◌∷◌, ◌++◌}
use Prim.Native.Nat.{ℕ}
use lib.Dec.{T}
use Rattle.grammar.specs.Spellings.{undo, alike, has}
use Rattle.spelling.specs.Inner.Fingerprints.{mixed, fingerprint_from, fingerprint}
use Rattle.std.specs.Prelude.{None}
use Rattle.spelling.specs.Inner.Escapes.{undo_at}
use Rattle.grammar.proofs.Spellings.{equal_sound}

-- One octet that is to come.
pub mixed_next : (h c : ℕ) (t w : List ℕ) → c ∷ t ≡ w → fingerprint_from (mixed h c) t ≡ fingerprint_from h w
unfolding fingerprint_from
mixed_next h c t w e = ap (fingerprint_from h) e

-- None is.
pub mixed_end : (h : ℕ) (w : List ℕ) → [] ≡ w → h ≡ fingerprint_from h w
unfolding fingerprint_from
mixed_end h w e = ap (fingerprint_from h) e

-- Several octets that are to come.
pub mixed_more : (h : ℕ) (v w : List ℕ) → fingerprint_from (fingerprint_from h v) w ≡ fingerprint_from h (v ++ w)
unfolding fingerprint_from
mixed_more h [] w = refl
mixed_more h (c ∷ v) w = mixed_more (mixed h c) v w

-- From the beginning.
pub mixed_start : (w : List ℕ) → fingerprint_from 2166136261 (undo_at w None 0) ≡ fingerprint (undo w)
unfolding fingerprint undo
mixed_start w = refl

false_unless : (b : Bool) → (b ≡ true → ⊥) → b ≡ false
false_unless true n = absurd (n refl)
false_unless false n = refl

-- Spellings that say the same have the same fingerprint, and where it differs they do not.
module _ (v w : List ℕ) where
  pub alike_fingerprint : alike v w ≡ true → fingerprint (undo v) ≡ fingerprint (undo w)
  unfolding alike
  alike_fingerprint e = ap fingerprint (equal_sound (undo v) (undo w) (subst T (sym e) tt))

  pub has_fingerprint : has v w ≡ true → fingerprint (undo v) ≡ fingerprint w
  unfolding has
  has_fingerprint e = ap fingerprint (equal_sound (undo v) w (subst T (sym e) tt))

  pub alike_not : (fingerprint (undo v) ≡ fingerprint (undo w) → ⊥) → alike v w ≡ false
  alike_not n = false_unless (alike v w) (λ e. n (alike_fingerprint e))

  pub has_not : (fingerprint (undo v) ≡ fingerprint w → ⊥) → has v w ≡ false
  has_not n = false_unless (has v w) (λ e. n (has_fingerprint e))
