-- The writer's refusals from 6 on in the order in which the code asks them: no text is judged twice. Where the message would
-- be too long, no text is judged where it would stand; where it is not, each is judged there only, since what has no reading
-- within all levels has none within fewer.
use Rattle.std.specs.Prelude.{List, [], ◌∷◌, ◌++◌, Bool, true, ◌||◌, cond, ℕ, length, ltb}
use Rattle.prelude.specs.Limits.{longest, levels}
use Rattle.prelude.specs.Refusals.{Test, ◌if◌}
use Rattle.headers.specs.Headers.{too_long}
use Rattle.json_message.specs.JsonText.{RawMessage, json_text}
use Rattle.json_message.specs.WriteOrder.{unread_within, unread_alone}
use Rattle.json_message.specs.Inner.PiecesOrder.{unread_inside, hollow_text, hollow_inside, parameters_order}

-- Too long.
unfoldable pub over_order : RawMessage → List Test
over_order c = 6 if too_long c.protected ∷ 7 if unread_alone c ∷ 2 if true ∷ []

-- Not too long, from 10 on.
unfoldable pub later_order : Bool → RawMessage → List (List ℕ) → ℕ → List Test
later_order general c known room =
    10 if (hollow_text c.protected || hollow_inside c)
    ∷ (parameters_order known c ++ (1 if ltb room (length (json_text general c)) ∷ []))

unfoldable pub within_order : Bool → RawMessage → List (List ℕ) → ℕ → List Test
within_order general c known room =
    6 if too_long c.protected
    ∷ 7 if (unread_within levels c.protected || unread_inside general c)
    ∷ later_order general c known room

-- Both.
unfoldable pub asked_order : Bool → RawMessage → List (List ℕ) → ℕ → List Test
asked_order general c known room =
    cond (ltb longest (length (json_text general c))) (over_order c) (within_order general c known room)
