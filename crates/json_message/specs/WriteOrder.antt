-- The JSON writer's refusals in order (request 1/12), from 6 on: 6; 7 on each text; 2; then the reader's from 7 on; 1 last.
-- Before them 3 is asked of the known names and 20 of the table of recipients.
use Rattle.std.specs.Prelude.{List, [], ◌∷◌, ◌++◌, Bool, true, false, ◌||◌, ℕ, length, ltb}
use Rattle.prelude.specs.Any.{any}
use Rattle.prelude.specs.Limits.{longest, levels, most_recipients}
use Rattle.prelude.specs.Refusals.{Test, ◌if◌}
use Rattle.grammar.specs.Reader.{read_text}
use Rattle.headers.specs.Headers.{too_long, is_nothing}
use Rattle.jwe.specs.General.{json_order}
use Rattle.json_message.specs.JsonText.{RawMessage, json_text}

-- How many recipients a message may have, general or flattened.
abbrev pub most_for : Bool → ℕ
most_for true = most_recipients
most_for false = 1

-- A header's text has no reading as a JSON object within so many levels; an absent one is not judged.
abbrev pub unread_within : ℕ → List ℕ → Bool
unread_within l [] = false
unread_within l (c ∷ w) = is_nothing (read_text l (c ∷ w))

-- 7 on each text alone.
unfoldable pub unread_alone : RawMessage → Bool
unread_alone c =
    unread_within levels c.protected
    || (unread_within levels c.shared || any (λ r. unread_within levels r.header) c.recipients)

-- The refusals from 6 on, by the known names and the length of the lent output. The reader is asked for the first recipient: its
-- refusals are the same for each.
unfoldable pub message_order : Bool → RawMessage → List (List ℕ) → ℕ → List Test
message_order general c known room =
    let message = json_text general c in
    6 if too_long c.protected
    ∷ 7 if unread_alone c
    ∷ 2 if ltb longest (length message)
    ∷ (json_order message known 0 ++ (1 if ltb room (length message) ∷ []))
