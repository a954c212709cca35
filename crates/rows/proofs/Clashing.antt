-- Comparing fingerprints first changes no answer: names that say the same have one fingerprint.
use mathlib.Core.Path.{◌≡◌, refl, ap, sym, ◌∙◌}
use mathlib.Core.Bool.{Bool, true, false, ◌&&◌}
use Prim.Native.Nat.{ℕ}
use Rattle.grammar.specs.Spellings.{undo}
use Rattle.spelling.specs.Inner.Fingerprints.{fingerprint}
use Rattle.spelling.proofs.Fingerprints.{alike_not}
use Rattle.rows.specs.Rows.{Entry, Texts, name_in, apart, same}

and_false : (b : Bool) → (b && false) ≡ false
and_false true = refl
and_false false = refl

module _ (across : Bool) (ts : Texts) (e f : Entry) where
  -- The fingerprints differ.
  pub same_not : {p q : ℕ} → p ≡ fingerprint (undo (name_in ts e)) → q ≡ fingerprint (undo (name_in ts f)) → (p ≡ q → ⊥) →
      same across ts e f ≡ false
  same_not a b h =
      ap (λ (x : Bool). apart across e.origin f.origin && x)
      (alike_not (name_in ts e) (name_in ts f) (λ z. h (a ∙ z ∙ sym b)))
      ∙ and_false (apart across e.origin f.origin)
