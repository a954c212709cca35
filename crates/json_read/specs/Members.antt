-- The code's answers for members and elements.
use Rattle.std.specs.Prelude as std
use Rattle.std.specs.Prelude.{Bool, ℕ, ◌*◌, cond, List, [], ◌∷◌, ◌++◌, length, eqb, leb, Some, None}
use Rattle.std.proofs.Math.Option.{Option, none, some}
use Rattle.prelude.specs.Limits.{most_members}
use Rattle.grammar.specs.Grammar.{comma, Bracket, curly, square}
use Rattle.grammar.specs.Places as places
use Rattle.grammar.specs.Reader.{octet_at, step, skip_space, Entry}
use Rattle.json_read.specs.declared.member.Row.{Row}
use Rattle.json_read.specs.declared.member.Member.{Member}
use Rattle.json_read.specs.declared.Position.{Position}

-- Where the first one of an object or array that begins here would stand.
abbrev pub first_in : List ℕ → ℕ → ℕ
first_in s at = skip_space s (step s at)

-- Where the next one begins, a value having ended at a position: past a comma, if one stands there; else at the text's end,
-- where none begins.
unfoldable pub next_from : List ℕ → ℕ → ℕ
next_from s at =
    cond (eqb (octet_at s (skip_space s at)) comma) (skip_space s (step s (skip_space s at))) (length s)

abbrev pub row_of : places.Member → Row
row_of m = record {
  name = record { start = m.name_start; len = m.name_size };
  value = record { start = m.value_start; len = m.value_size };
  kind = m.kind;
}

-- What opens an array or an object.
abbrev pub bracket_of : Bool → Bracket
bracket_of array = cond array square curly

-- The member, or the element, that the code reads as a row.
abbrev pub row_member : Row → places.Member
row_member r = record {
  name_start = r.name.start;
  name_size = r.name.len;
  value_start = r.value.start;
  value_size = r.value.len;
  kind = r.kind;
}

-- The answer that a member stands here, and where the next one begins.
abbrev pub row_here : Row → Position → std.Option Member
row_here row next = Some (record { row = row; next = next })

abbrev pub member_of : List ℕ → Option Entry → std.Option Member
member_of s none = None
member_of s (some x) = row_here (row_of x.row) (record { at = next_from s x.after })

-- A table of members, laid flat

-- How many numbers a row has, and the room of a table for the members of an object.
abbrev pub member_width : ℕ
member_width = 5

abbrev pub member_room : ℕ
member_room = most_members * member_width

-- The five numbers of a row: the name's start and length, the value's start and length, the kind.
abbrev pub numbers : places.Member → List ℕ
numbers m = m.name_start ∷ m.name_size ∷ m.value_start ∷ m.value_size ∷ m.kind ∷ []

abbrev pub five_of : Row → List ℕ
five_of r = r.name.start ∷ r.name.len ∷ r.value.start ∷ r.value.len ∷ r.kind ∷ []

unfoldable pub flat : List places.Member → List ℕ
flat [] = []
flat (m ∷ rest) = numbers m ++ flat rest

-- How many there are, or that there are more than the 32 of which a table has room.
unfoldable pub collected_of : List places.Member → std.Option ℕ
collected_of rows = cond (leb (length rows) most_members) (Some (length rows)) None
