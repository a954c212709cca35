-- What is shown of specs/Meaning: each theorem cites the file that proves it.
use mathlib.Core.Path.{◌≡◌}
use mathlib.Core.List.{List, []}
use mathlib.Core.Logic.{◌↔◌}
use Prim.Native.Nat.{ℕ, ◌≤◌}
use lib.ListN.{length}
use Rattle.prelude.specs.Limits.{header_room, list_room}
use Rattle.jwe.specs.Judge.{call}
use Rattle.meets.specs.Meets.{Meets}
use Rattle.parameters.specs.Lines.{Line}
use Rattle.differences.specs.Differences.{compared, differences}
use Rattle.differences.specs.Answers.{refusal_of}
use Rattle.difference_means.specs.Meaning.{RowsFor, Says, In, Agree, most_lines}
use Rattle.difference_means.proofs.Holding as Holding
use Rattle.difference_means.proofs.LinesSay as LinesSay
use Rattle.difference_means.proofs.NoDifference as NoDifference
use Rattle.difference_means.proofs.FewLines as FewLines

-- A line is in the list exactly if what it says holds, by the rows that apply ..
pub lines_say : (left right known : List ℕ) (m : Meets (call left known 0 header_room list_room))
    (k : Meets (call right known 0 header_room list_room)) (x : RowsFor m.form) (y : RowsFor k.form) (l : Line) →
    In l (differences (compared left) (compared right)) ↔ Says m.form k.form x y l
lines_say = LinesSay.lines_say

-- .. and there are such rows.
pub rows_for_lem : (message known : List ℕ) (m : Meets (call message known 0 header_room list_room)) → RowsFor m.form
rows_for_lem = Holding.rows_for_lem

-- The list is empty exactly if the messages agree in all that is compared.
pub no_difference : (left right known : List ℕ) (m : Meets (call left known 0 header_room list_room))
    (k : Meets (call right known 0 header_room list_room)) →
    (differences (compared left) (compared right) ≡ []) ↔ Agree m.form k.form
no_difference = NoDifference.no_difference

-- 'A message compared with itself shows no difference.'
pub same_message : (message known : List ℕ) → refusal_of message known ≡ 0 →
    differences (compared message) (compared message) ≡ []
same_message = NoDifference.same_message

-- There are at most so many lines.
pub few_lines : (left right known : List ℕ) (m : Meets (call left known 0 header_room list_room))
    (k : Meets (call right known 0 header_room list_room)) →
    length (differences (compared left) (compared right)) ≤ most_lines
few_lines = FewLines.few_lines
