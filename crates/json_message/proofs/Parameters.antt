-- Refusals 8, 9, 12 to 18 and 21 on headers that stand in a message are those on their texts.
use mathlib.Core.Path.{◌≡◌, refl, sym, ap, ap₂, ◌∙◌}
use mathlib.Core.List.{List, [], ◌∷◌, ◌++◌, map}
use mathlib.Core.Bool.{false}
use Prim.Native.Nat.{ℕ, zero, suc}
use native.Mathlib.Omega.{arith}
use lib.ListN.{length, length-map}
use lib.Dec.{ltb}
use Rattle.prelude.specs.Limits.{levels, most_members}
use Rattle.prelude.specs.Refusals.{◌if◌}
use Rattle.grammar.specs.Bounds.{Every, Inside}
use Rattle.grammar.specs.Grammar.{curly}
use Rattle.grammar.specs.Places.{Member}
use Rattle.grammar.specs.Reader.{skip_space}
use Rattle.json_read.proofs.Within.{members_within}
use Rattle.rows.specs.Rows.{Entry, Texts, texts, read_texts, one_text, text_of, spelled_name, spelled_value, entries_in}
use Rattle.jose.specs.declared.Sizes.{Sizes}
use Rattle.jose.specs.Registered.{registered}
use Rattle.jose.specs.HeaderRules.{recipient_order}
use Rattle.jose.specs.ContentAlgorithm.{content_algorithm}
use Rattle.jose.proofs.Alike.{Alike, Beside, repeated_same, order_same}
use Rattle.jose.proofs.ContentAlgorithm.{content_same}
use Rattle.headers.specs.Headers.{outermost, protected_entries, object_order}
use Rattle.json_text.specs.Moved.{moved_member}
use Rattle.json_text.proofs.Embedded.{Stands}
use Rattle.json_message.specs.Handed.{text_entries, moved_entry}
use Rattle.json_message.specs.Inner.PiecesOrder.{pieces_entries}
use Rattle.json_message.proofs.Moving.{name_moved, value_moved}
use Rattle.json_message.proofs.Agree.{Agree, agree_refl}

-- Where a given text stands; an absent one stands nowhere.
abbrev pub StandsIf : List ℕ → ℕ → List ℕ → Type 0
StandsIf s m [] = Unit {0}
StandsIf s m (c ∷ w) = Stands s m (c ∷ w)

-- The message is the text of each header in it.
text_read : (header s : List ℕ) (o : ℕ) → text_of (read_texts header s) (suc o) ≡ s
text_read header s zero = refl
text_read header s (suc o) = refl

-- The parameters of a header's text show the same where it stands. A `crit` in it is not protected, so its elements are not
-- asked.

module _ (ts us : Texts) (o : ℕ) {s : List ℕ} {m : ℕ} {w : List ℕ} (h : Stands s m w) (there : text_of ts (suc o) ≡ s)
    (alone : text_of us (suc o) ≡ w) where
  members_alike : (ms : List Member) → Every (Inside curly (length w)) ms →
      Beside (Alike ts us) (map (moved_entry m) (entries_in registered w (suc o) ms)) (entries_in registered w (suc o) ms)
  unfolding entries_in
  members_alike [] i = tt
  members_alike (x ∷ ms) i = (
    record {
      origin = refl;
      number = refl;
      kind = refl;
      name =
          ap (λ (z : List ℕ). spelled_name z (moved_member m x)) there
          ∙ name_moved h x i.0
          ∙ sym (ap (λ (z : List ℕ). spelled_name z x) alone);
      value =
          ap (λ (z : List ℕ). spelled_value z (moved_member m x)) there
          ∙ value_moved h x i.0
          ∙ sym (ap (λ (z : List ℕ). spelled_value z x) alone);
      elements = λ c z. absurd (omega arith);
    },
    members_alike ms i.1,
  )

text_alike : (ts us : Texts) (o : ℕ) (s : List ℕ) (m : ℕ) (w : List ℕ) → text_of ts (suc o) ≡ s → text_of us (suc o) ≡ w →
    StandsIf s m w → Beside (Alike ts us) (map (moved_entry m) (text_entries (suc o) w)) (text_entries (suc o) w)
unfolding text_entries outermost
text_alike ts us o s m [] there alone h = tt
text_alike ts us o s m (c ∷ w) there alone h =
    members_alike ts us o h there alone _ (members_within levels (c ∷ w) (skip_space (c ∷ w) 0))

-- 8 and 9

pub order_moved : (o : ℕ) (s : List ℕ) (m : ℕ) (w : List ℕ) → StandsIf s m w →
    object_order s (map (moved_entry m) (text_entries (suc o) w)) ≡ object_order w (text_entries (suc o) w)
unfolding object_order
order_moved o s m w h =
    let es = text_entries (suc o) w in
    ap₂ (λ n b. 8 if ltb most_members n ∷ 9 if b ∷ []) (length-map es (moved_entry m))
    (repeated_same (one_text s) (one_text w) (map (moved_entry m) es) es
    (text_alike (one_text s) (one_text w) o s m w (text_read s s o) (text_read w w o) h) false)

-- 12 to 18

beside_append : {A B : Type 0} (R : A → B → Type 0) (xs : List A) (ys : List B) (vs : List A) (ws : List B) → Beside R xs ys →
    Beside R vs ws → Beside R (xs ++ vs) (ys ++ ws)
beside_append R [] [] vs ws z u = u
beside_append R [] (y ∷ ys) vs ws z u = absurd z
beside_append R (x ∷ xs) [] vs ws z u = absurd z
beside_append R (x ∷ xs) (y ∷ ys) vs ws z u = (z.0, beside_append R xs ys vs ws z.1 u)

protected_alike : (header s shared own : List ℕ) (ms : List Member) →
    Beside (Alike (read_texts header s) (texts header shared own)) (entries_in registered header 0 ms)
    (entries_in registered header 0 ms)
unfolding entries_in
protected_alike header s shared own [] = tt
protected_alike header s shared own (x ∷ ms) = (
  record { origin = refl; number = refl; kind = refl; name = refl; value = refl; elements = λ c z. refl },
  protected_alike header s shared own ms,
)

-- The parameters of a recipient in the message show what they do in the three texts.
module _ (header s : List ℕ) (m n : ℕ) (shared own : List ℕ) (a : StandsIf s m shared) (b : StandsIf s n own) where
  abbrev in_message : List Entry
  in_message = protected_entries header ++ (map (moved_entry m) (text_entries 1 shared) ++ map (moved_entry n) (text_entries 2 own))

  pieces_alike : Beside (Alike (read_texts header s) (texts header shared own)) in_message (pieces_entries header shared own)
  unfolding protected_entries pieces_entries
  pieces_alike =
      let ts = read_texts header s in
      let us = texts header shared own in
      beside_append (Alike ts us) (entries_in registered header 0 (outermost header)) _ _ _
      (protected_alike header s shared own (outermost header))
      (beside_append (Alike ts us) (map (moved_entry m) (text_entries 1 shared)) _ _ _
      (text_alike ts us 0 s m shared refl refl a) (text_alike ts us 1 s n own refl refl b))

  -- So 12 to 18 on it are the same ..
  pub recipient_pieces : (known : List (List ℕ)) (sizes : Sizes) →
      Agree (recipient_order known (read_texts header s) in_message sizes)
      (recipient_order known (texts header shared own) (pieces_entries header shared own) sizes)
  recipient_pieces known sizes =
      let same = agree_refl {xs = recipient_order known (texts header shared own) (pieces_entries header shared own) sizes} in
      record {
        before = λ xs ys e.
            order_same known (read_texts header s) (texts header shared own) _ _ sizes pieces_alike xs ∙ same.before xs ys e;
      }

  -- .. and its content algorithm is.
  pub content_pieces : content_algorithm (read_texts header s) in_message
      ≡ content_algorithm (texts header shared own) (pieces_entries header shared own)
  content_pieces = content_same (read_texts header s) (texts header shared own) _ _ pieces_alike
