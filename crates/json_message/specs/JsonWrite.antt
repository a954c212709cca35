-- The JSON writer (request 1/12): what it is given, and its refusals in order: 3; 20; 6; 7 on each text; 2, and then the
-- reader's from 7 on; 1 last.
use Rattle.std.specs.Prelude.{List, ◌∷◌, Bool, not, ◌||◌, ℕ, ltb}
use Rattle.prelude.specs.Refusals.{Test, ◌if◌, first}
use Rattle.names.specs.Names.{names, sound}
use Rattle.recipients.specs.Parsed.{said_count, recipients_in, sound_table}
use Rattle.json_message.specs.JsonText.{RawMessage, json_text}
use Rattle.json_message.specs.WriteOrder.{most_for, message_order}

-- What the writer is given: the texts of the protected and the shared header, each absent where it has length 0; the raw
-- components; and the recipients, contents first.
pub record RawJson : Type 0 where
  pub protected : List ℕ
  pub shared : List ℕ
  pub aad : List ℕ
  pub iv : List ℕ
  pub ciphertext : List ℕ
  pub tag : List ℕ
  pub recipients : List ℕ

abbrev pub raw_json : List ℕ → List ℕ → List ℕ → List ℕ → List ℕ → List ℕ → List ℕ → RawJson
raw_json protected shared aad iv ciphertext tag recipients = record {
  protected = protected;
  shared = shared;
  aad = aad;
  iv = iv;
  ciphertext = ciphertext;
  tag = tag;
  recipients = recipients;
}

-- The same, the recipients taken out of their table.
abbrev pub message_of : RawJson → RawMessage
message_of c = record {
  protected = c.protected;
  shared = c.shared;
  recipients = recipients_in c.recipients;
  aad = c.aad;
  iv = c.iv;
  ciphertext = c.ciphertext;
  tag = c.tag;
}

-- The message, general or flattened.
abbrev pub written_text : Bool → RawJson → List ℕ
written_text general c = json_text general (message_of c)

-- 20: the recipients are malformed, or more than one where flattened is asked.
unfoldable pub wrong_table : Bool → List ℕ → Bool
wrong_table general t = not (sound_table t) || ltb (most_for general) (said_count t)

-- All refusals in order, of what is given, a list of known names and the length of the lent output.
unfoldable pub json_write_order : Bool → RawJson → List ℕ → ℕ → List Test
json_write_order general c known room =
    3 if not (sound known)
    ∷ 20 if wrong_table general c.recipients
    ∷ message_order general (message_of c) (names known) room

unfoldable pub json_write_refusal : Bool → RawJson → List ℕ → ℕ → ℕ
json_write_refusal general c known room = first (json_write_order general c known room)
