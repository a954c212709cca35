-- Members read back from the rows that json's `collect` lays flat, five numbers each.
use Rattle.std.specs.Prelude.{List, [], ◌∷◌, ℕ, zero, suc, drop, get_or}
use Rattle.grammar.specs.Places.{Member}

-- The first member of such rows.
abbrev pub first_member : List ℕ → Member
first_member t = record {
  name_start = get_or t 0 0;
  name_size = get_or t 1 0;
  value_start = get_or t 2 0;
  value_size = get_or t 3 0;
  kind = get_or t 4 0;
}

-- The first n.
unfoldable pub members_of : ℕ → List ℕ → List Member
members_of zero t = []
members_of (suc n) t = first_member t ∷ members_of n (drop 5 t)
