-- The code's rows for the members of the definitions, and the members or elements from a position on.
use Rattle.std.specs.Prelude.{List, ℕ}
use Rattle.grammar.specs.Grammar.{Bracket}
use Rattle.grammar.specs.Places.{Member}
use Rattle.grammar.specs.Reader.{value_at, rows_at}
use Rattle.json_read.specs.declared.member.Row.{Row}
use Rattle.distinct.specs.Names.{depth}

-- The member that the code reads as a row.
abbrev pub row_member : Row → Member
row_member r = record {
  name_start = r.name.start;
  name_size = r.name.len;
  value_start = r.value.start;
  value_size = r.value.len;
  kind = r.kind;
}

-- The members, or the elements, from the one on that begins at a position, at most n.
abbrev pub rows_from : Bracket → List ℕ → ℕ → ℕ → List Member
rows_from b s n at = rows_at (value_at depth s) b s n at
