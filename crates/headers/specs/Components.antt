-- The components of a message by their places in it, and refusal 5.
use Rattle.std.specs.Prelude.{List, [], ◌∷◌, ◌++◌, Bool, true, false, ℕ}
use Rattle.prelude.specs.Ascii.{full_stop}
use Rattle.base64url.specs.Base64url.{encoded, decoded_length}
use Rattle.base64url.specs.Fault.{fault}
use Rattle.base64url.specs.Answers.{of_fault}
use Rattle.parts.specs.Parts.{part}
use Rattle.grammar.specs.Places.{Place}
use Rattle.jose.specs.declared.Sizes.{Sizes}

-- The forms of a message (document 01, 'What the reader hands out').

abbrev pub compact_form : ℕ
compact_form = 0

abbrev pub flattened_form : ℕ
flattened_form = 1

abbrev pub general_form : ℕ
general_form = 2

-- The octets at a place of the message.
abbrev pub octets_at : List ℕ → Place → List ℕ
octets_at message q = part message q.start q.size

-- The place of a component that is absent (document 01).
abbrev pub absent : Place
absent = record { start = 0; size = 0 }

-- The encoded components that apply to a recipient.
pub record Components : Type 0 where
  pub protected : Place
  pub key : Place
  pub iv : Place
  pub aad : Place
  pub ciphertext : Place
  pub tag : Place

-- All of them, in document 01's order.
abbrev pub places : Components → List Place
places q = q.protected ∷ q.key ∷ q.iv ∷ q.aad ∷ q.ciphertext ∷ q.tag ∷ []

-- Components with another key: those of one recipient, where the others are all recipients'.
abbrev pub with_key : Components → Place → Components
with_key q key = record {
  protected = q.protected;
  key = key;
  iv = q.iv;
  aad = q.aad;
  ciphertext = q.ciphertext;
  tag = q.tag;
}

-- How many octets the key, the initialization vector, the ciphertext and the tag decode to.
abbrev pub sizes_of : Components → Sizes
sizes_of q = record {
  key = decoded_length q.key.size;
  iv = decoded_length q.iv.size;
  ciphertext = decoded_length q.ciphertext.size;
  tag = decoded_length q.tag.size;
}

-- 5: a component is not base64url.
unfoldable pub misspelled : List ℕ → Place → Bool
misspelled message q = of_fault (fault (octets_at message q)) false true

-- The compact serialization (RFC 7516, section 7.1): BASE64URL(UTF8(JWE Protected Header)) || '.' ||
-- BASE64URL(JWE Encrypted Key) || '.' || BASE64URL(JWE Initialization Vector) || '.' || BASE64URL(JWE Ciphertext) || '.' ||
-- BASE64URL(JWE Authentication Tag)

abbrev pub dotted : List ℕ → List ℕ → List ℕ → List ℕ → List ℕ → List ℕ
dotted header key iv ciphertext tag =
    encoded header
    ++ (full_stop ∷ (encoded key ++ (full_stop ∷ (encoded iv ++ (full_stop ∷ (encoded ciphertext ++ (full_stop ∷ encoded tag)))))))
