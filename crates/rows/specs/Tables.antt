-- Entries as numbers: six each in the list that is handed out, and eight each in a table, of which the last is not the
-- entry's (specs/Inner/Prints).
use Rattle.std.specs.Prelude.{List, [], ◌∷◌, ◌++◌, ℕ, zero, suc, ◌*◌, drop, get_or}
use Rattle.prelude.specs.Limits.{most_members}
use Rattle.rows.specs.Rows.{Entry}

-- How many numbers an entry has in a table, and in the list that is handed out.
abbrev pub width : ℕ
width = 8

abbrev pub list_width : ℕ
list_width = 6

-- The room of a table for one header, and for a recipient's three.
abbrev pub header_table : ℕ
header_table = most_members * width

abbrev pub recipient_table : ℕ
recipient_table = 3 * header_table

-- The numbers of the list that is handed out: origin, name start and length, value start and length, kind.
abbrev pub list_row : Entry → List ℕ
list_row e =
    e.origin
    ∷ e.member.name_start
    ∷ e.member.name_size
    ∷ e.member.value_start
    ∷ e.member.value_size
    ∷ e.member.kind
    ∷ []

unfoldable pub listed : List Entry → List ℕ
listed [] = []
listed (e ∷ es) = list_row e ++ listed es

-- The first entry of a table: those numbers, and which of the names it has.
abbrev pub first_of : List ℕ → Entry
first_of t = record {
  origin = get_or t 0 0;
  member = record {
    name_start = get_or t 1 0;
    name_size = get_or t 2 0;
    value_start = get_or t 3 0;
    value_size = get_or t 4 0;
    kind = get_or t 5 0;
  };
  number = get_or t 6 0;
}

-- Its first n entries.
unfoldable pub entries_of : ℕ → List ℕ → List Entry
entries_of zero t = []
entries_of (suc n) t = first_of t ∷ entries_of n (drop width t)
