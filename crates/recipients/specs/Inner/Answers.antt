-- The answers of the code on a table.
use Rattle.std.specs.Prelude.{List, [], ◌∷◌, cond, ℕ, zero, suc, Option, Some, None, ◌+◌, ◌-◌}
use Rattle.parts.specs.Parts.{part}
use Rattle.recipients.specs.Table.{RawRecipient}
use Rattle.recipients.specs.Parsed.{said_count, header_length, key_length, body_start, sound_table}
use Rattle.recipients.specs.declared.Body.{Body}

-- How many recipients there are, where the table is sound.
unfoldable pub count_answer : List ℕ → Option ℕ
count_answer t = cond (sound_table t) (Some (said_count t)) None

-- Where the i-th recipient's header and key stand.
unfoldable pub body_at : List ℕ → ℕ → Body
body_at t i = record {
  header = record { start = body_start t i; len = header_length t i };
  key = record { start = body_start t i + header_length t i; len = key_length t i };
}

-- The recipient whose header and key stand at these places.
unfoldable pub shown : List ℕ → Body → RawRecipient
shown t b = record {
  header = part t b.header.start b.header.len;
  key = part t b.key.start b.key.len;
}

-- The places of so many from the i-th on, and of all from the i-th on.

unfoldable pub bodies_from : List ℕ → ℕ → ℕ → List Body
bodies_from t zero i = []
bodies_from t (suc n) i = body_at t i ∷ bodies_from t n (suc i)

abbrev pub bodies_left : List ℕ → ℕ → List Body
bodies_left t i = bodies_from t (said_count t - i) i
