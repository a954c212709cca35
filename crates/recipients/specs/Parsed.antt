-- The recipients of a table by their places in it, and whether it is sound. That these undo `table_of` and decide `Sound` is
-- in proofs/Laws.
use Rattle.std.specs.Prelude.{List, [], ◌∷◌, Bool, ◌&&◌, ℕ, zero, suc, ◌+◌, ◌*◌, length, get_or, eqb, leb}
use Rattle.parts.specs.Parts.{part}
use Rattle.prelude.specs.Limits.{most_recipients}
use Rattle.recipients.specs.Table.{RawRecipient}

-- How many recipients a table says that it has.
abbrev pub said_count : List ℕ → ℕ
said_count t = get_or t 0 0

-- The number that the four octets from a position on say, the highest first.
unfoldable pub four_at : List ℕ → ℕ → ℕ
four_at s at = ((get_or s at 0 * 256 + get_or s (at + 1) 0) * 256 + get_or s (at + 2) 0) * 256 + get_or s (at + 3) 0

-- The lengths of the i-th recipient's header and key, counted from 0 on.

unfoldable pub header_length : List ℕ → ℕ → ℕ
header_length t i = four_at t (1 + 8 * i)

unfoldable pub key_length : List ℕ → ℕ → ℕ
key_length t i = four_at t (1 + 8 * i + 4)

-- Where its body begins: behind the lengths and the bodies before it.
unfoldable pub body_start : List ℕ → ℕ → ℕ
body_start t zero = 1 + 8 * said_count t
body_start t (suc i) = body_start t i + header_length t i + key_length t i

-- The i-th recipient.
unfoldable pub recipient_at : List ℕ → ℕ → RawRecipient
recipient_at t i = record {
  header = part t (body_start t i) (header_length t i);
  key = part t (body_start t i + header_length t i) (key_length t i);
}

-- So many recipients from the i-th on.
unfoldable pub recipients_from : List ℕ → ℕ → ℕ → List RawRecipient
recipients_from t zero i = []
recipients_from t (suc n) i = recipient_at t i ∷ recipients_from t n (suc i)

-- The recipients of a table.
unfoldable pub recipients_in : List ℕ → List RawRecipient
recipients_in t = recipients_from t (said_count t) 0

-- Whether a table is sound: it has 1 to 8 recipients, and their bodies fill it.
unfoldable pub sound_table : List ℕ → Bool
sound_table t =
    leb 1 (said_count t) && (leb (said_count t) most_recipients && eqb (body_start t (said_count t)) (length t))
