-- What comparing two messages answers and leaves (document 02, 4/12): 'its own number (0, or 1 if the lent list cannot hold all), both
-- refusals as for recipient 0 given room, and the line count; where any refuses, 0 lines and the list unchanged, else its rest unchanged.'
use Rattle.std.specs.Prelude.{◌≡◌, Bool, true, false, ◌&&◌, cond, List, [], Option, None, Some, Result, Ok, Err, ℕ, ◌*◌, length, eqb, leb}
use Rattle.prelude.specs.Buffer.{written}
use Rattle.prelude.specs.Limits.{header_room, list_room}
use Rattle.prelude.specs.Refusals.{number_of}
use Rattle.prelude.specs.declared.refusal.Refusal.{Refusal}
use Rattle.jwe.specs.Judge.{call, refusal}
use Rattle.parameters.specs.Lines.{Line, line_width, laid}
use Rattle.differences.specs.Differences.{compared, differences}
use Rattle.differences.specs.declared.Unanswered.{Unanswered}
use Rattle.differences.specs.declared.Unanswered.TheVariants.{Refused, ShortOutput}

-- The refusal of a message, as for recipient 0 given room.
abbrev pub refusal_of : List ℕ → List ℕ → ℕ
refusal_of message known = refusal (call message known 0 header_room list_room)

abbrev pub both_accepted : List ℕ → List ℕ → List ℕ → Bool
both_accepted left right known = eqb (refusal_of left known) 0 && eqb (refusal_of right known) 0

-- Whether a list of so many numbers holds all lines.
abbrev pub holds_all : List ℕ → List ℕ → ℕ → Bool
holds_all left right room = leb (length (differences (compared left) (compared right)) * line_width) room

-- The own number.
unfoldable pub compare_number : List ℕ → List ℕ → List ℕ → ℕ → ℕ
compare_number left right known room =
    cond (both_accepted left right known) (cond (holds_all left right room) 0 1) 0

-- The lines that are given.
unfoldable pub shown_lines : List ℕ → List ℕ → List ℕ → ℕ → List Line
shown_lines left right known room =
    cond (both_accepted left right known && holds_all left right room) (differences (compared left) (compared right)) []

-- What is answered: the own number, both refusals, and how many lines there are.
pub record Answer : Type 0 where
  pub number : ℕ
  pub left : ℕ
  pub right : ℕ
  pub lines : ℕ

-- An answer of these numbers.
abbrev pub answer_of : ℕ → ℕ → ℕ → ℕ → Answer
answer_of number left right lines = record { number = number; left = left; right = right; lines = lines }

-- The code's answer: how many lines there are, or why there are none. A message that is accepted has the refusal 0.

abbrev pub refusal_number : Option Refusal → ℕ
refusal_number None = 0
refusal_number (Some e) = number_of e

abbrev pub unanswered : Unanswered → Answer
unanswered (Refused left right) = answer_of 0 (refusal_number left) (refusal_number right) 0
unanswered ShortOutput = answer_of 1 0 0 0

abbrev pub as_answer : Result ℕ Unanswered → Answer
as_answer (Ok lines) = answer_of 0 0 0 lines
as_answer (Err e) = unanswered e

-- Whether the answer is that a message is refused. Its numbers don't tell: they are 0 where nothing differs, too.
abbrev pub is_refused : Result ℕ Unanswered → Bool
is_refused (Ok lines) = false
is_refused (Err ShortOutput) = false
is_refused (Err (Refused left right)) = true

-- The answer, and the list afterwards, by what it was before.
pub record Compares (left right known before : List ℕ) (r : Answer) (after : List ℕ) : Type 0 where
  pub number : r.number ≡ compare_number left right known (length before)
  pub left_refused : r.left ≡ refusal_of left known
  pub right_refused : r.right ≡ refusal_of right known
  pub lines : r.lines ≡ length (shown_lines left right known (length before))
  pub leaves : after ≡ written 0 (laid (shown_lines left right known (length before))) before
