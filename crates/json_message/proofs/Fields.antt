-- Encoded octets and header texts as members: made texts, which are JSON wherever they stand.
use mathlib.Core.Path.{◌≡◌, refl}
use mathlib.Core.List.{List, [], ◌∷◌, map}
use Prim.Native.Nat.{ℕ, ◌<◌}
use lib.Dec.{T}
use Rattle.prelude.specs.Ascii.{ascii}
use Rattle.prelude.specs.Buffer.{AllBelow}
use Rattle.prelude.specs.Limits.{levels}
use Rattle.prelude.proofs.Numbers.{below}
use Rattle.base64url.specs.Base64url.{alphabet, character, sextets, encoded}
use Rattle.base64url.proofs.Groups.{sextets_below}
use Rattle.grammar.proofs.Utf8Test.{both}
use Rattle.json_text.specs.Pieces.{quoted}
use Rattle.json_text.proofs.Made.{is_plain, plain, given, plain_string, Field, field_text}
use Rattle.json_message.specs.JsonText.{header_member, component_member}
use Rattle.json_message.specs.Inner.Judged.{Judged}

-- Encoded octets are plain.

character_plain : (v : ℕ) → v < 64 → T (is_plain (character v))
unfolding ascii alphabet character
character_plain v h = below (λ n. is_plain (character n)) 64 tt v h

characters_plain : (vs : List ℕ) → AllBelow 64 vs → T (plain (map character vs))
unfolding plain
characters_plain [] h = tt
characters_plain (v ∷ vs) h =
    both (is_plain (character v)) (plain (map character vs)) (character_plain v h.0) (characters_plain vs h.1)

pub encoded_plain : (xs : List ℕ) → AllBelow 256 xs → T (plain (encoded xs))
unfolding encoded
encoded_plain xs h = characters_plain (sextets xs) (sextets_below xs h)

-- Members

unfoldable pub string_field : (name xs : List ℕ) → T (plain name) → AllBelow 256 xs → Field
string_field name xs n h = record {
  name = name;
  text = quoted (encoded xs);
  plainly = n;
  made = plain_string (encoded xs) (encoded_plain xs h);
}

unfoldable pub component_fields : (name : List ℕ) → T (plain name) → (xs : List ℕ) → AllBelow 256 xs → List Field
component_fields name n [] h = []
component_fields name n (x ∷ xs) h = string_field name (x ∷ xs) n h ∷ []

unfoldable pub header_fields : (name : List ℕ) → T (plain name) → (w : List ℕ) → Judged levels w → List Field
header_fields name n [] r = []
header_fields name n (c ∷ w) r = record { name = name; text = c ∷ w; plainly = n; made = given r } ∷ []

pub component_texts : (name : List ℕ) (n : T (plain name)) (xs : List ℕ) (h : AllBelow 256 xs) →
    map field_text (component_fields name n xs h) ≡ component_member name xs
unfolding component_fields component_member string_field field_text
component_texts name n [] h = refl
component_texts name n (x ∷ xs) h = refl

pub header_texts : (name : List ℕ) (n : T (plain name)) (w : List ℕ) (r : Judged levels w) →
    map field_text (header_fields name n w r) ≡ header_member name w
unfolding header_fields header_member field_text
header_texts name n [] r = refl
header_texts name n (c ∷ w) r = refl
