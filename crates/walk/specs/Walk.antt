-- A header walk (document 01, 'Further requests'): its refusals in order, its offsets, and what its calls hand out.
use Rattle.std.specs.Prelude.{List, [], ◌∷◌, cond, ℕ, zero, suc, length, eqb, ltb}
use Rattle.std.proofs.Math.Option.{Option, none, some}
use Rattle.std.specs.Borrow.{Bor}
use Rattle.grammar.specs.Grammar.{curly}
use Rattle.grammar.specs.Places as places
use Rattle.grammar.specs.Reader.{skip_space, Entry, entry_at, value_at}
use Rattle.grammar.specs.Readings.{Reading}
use Rattle.json_read.specs.Members.{first_in, next_from, row_of, five_of}
use Rattle.prelude.specs.Refusals.{Test, ◌if◌, first}
use Rattle.prelude.specs.Limits.{levels, longest}
use Rattle.headers.specs.Headers.{unread, protected_entries, object_order}
use Rattle.std.specs.Prelude as handed
use Rattle.std.specs.Prelude.{Result, Ok, Err, Some, None}
use Rattle.prelude.specs.Refusals.{number_of}
use Rattle.prelude.specs.declared.refusal.Refusal.{Refusal}
use Rattle.json_read.specs.declared.member.Row.{Row}
use Rattle.walk.specs.declared.Stepped.{Stepped}
use Rattle.walk.specs.declared.HeaderWalk.{HeaderWalk as Walking}

-- What a call hands out: a member's row, or none at the end.
abbrev pub Handed : Type 0
Handed = handed.Option Row

-- 2, 7, 8 and 9 on a text, in that order.
unfoldable pub walk_order : List ℕ → List Test
walk_order s = 2 if ltb longest (length s) ∷ 7 if unread s ∷ object_order s (protected_entries s)

abbrev pub walk_refusal : List ℕ → ℕ
walk_refusal s = first (walk_order s)

-- The first member's offset in a text; the text's length where it is refused, by its first refusal, or has no member.
unfoldable pub first_offset : List ℕ → ℕ → ℕ
first_offset s refusal =
    cond (eqb refusal 0)
    (cond (eqb (length (protected_entries s)) 0) (length s) (first_in s (skip_space s 0)))
    (length s)

abbrev pub open_at : List ℕ → ℕ
open_at s = first_offset s (walk_refusal s)

-- What opening finds: the refusal, 0 where there is none, and the first member's offset, or the text's length.

pub record Opening : Type 0 where
  pub refusal : ℕ
  pub at : ℕ

abbrev pub as_opening : List ℕ → Result ℕ Refusal → Opening
as_opening s (Ok at) = record { refusal = 0; at = at }
as_opening s (Err e) = record { refusal = number_of e; at = length s }

abbrev pub opening_of : List ℕ → Opening
opening_of s = record { refusal = walk_refusal s; at = open_at s }

-- What a step finds, by the entry that begins at its offset: its row and the next offset; else the end.
abbrev pub stepped_of : List ℕ → Option Entry → Stepped
stepped_of s none = record { handed = handed.None; at = length s }
stepped_of s (some x) = record { handed = handed.Some (row_of x.row); at = next_from s x.after }

unfoldable pub step_at : List ℕ → ℕ → Stepped
step_at s at = stepped_of s (entry_at (value_at levels s) curly s at)

-- A walk: its text, the offset of its next member, and the text's refusal, 0 where there is none.

pub record HeaderWalk : Type 0 where
  pub text : Bor (List ℕ)
  pub at : ℕ
  pub refusal : ℕ

abbrev refused_by : handed.Option Refusal → ℕ
refused_by None = 0
refused_by (Some e) = number_of e

abbrev pub as_walk : Walking → HeaderWalk
as_walk w = record { text = w.text; at = w.at; refusal = refused_by w.refusal }

-- The walk that opening a text gives.
abbrev pub opened : Bor (List ℕ) → HeaderWalk
opened x = record { text = x; at = open_at x.now; refusal = walk_refusal x.now }

-- What a call on a walk hands out, and the walk after it: its text is kept.
abbrev pub handed_by : HeaderWalk → Handed
handed_by w = (step_at w.text.now w.at).handed

abbrev pub moved : HeaderWalk → HeaderWalk
moved w = record { text = w.text; at = (step_at w.text.now w.at).at; refusal = w.refusal }

-- A walk after k calls.
unfoldable pub after : ℕ → HeaderWalk → HeaderWalk
after zero w = w
after (suc k) w = after k (moved w)

-- What is handed out, as numbers: the second to sixth of a list entry; none at the end.
abbrev pub handed_numbers : Handed → List ℕ
handed_numbers (handed.Some row) = five_of row
handed_numbers handed.None = []

-- The rows of a reading: the members of its object, by the grammar.
abbrev pub rows_of : (s : List ℕ) → Reading levels s → List places.Member
rows_of s r = places.members (places.parts_of (places.placed_text r.text))

-- Of rows in a list, row k, the first being row 0; the end for every k that is no row's.
unfoldable pub row_or : List places.Member → ℕ → Handed
row_or [] k = handed.None
row_or (m ∷ rest) zero = handed.Some (row_of m)
row_or (m ∷ rest) (suc k) = row_or rest k
