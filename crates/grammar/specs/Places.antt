-- What is asked of a reading: its levels, and the kind and the place of each value and name in it.
-- A part's place is counted by the leaves to its left. The space around a value is not of its place.
use Rattle.std.specs.Prelude.{List, [], ◌∷◌, ◌++◌, ℕ, suc, ◌+◌, ◌-◌, max, length}
use Rattle.std.proofs.Math.Option.{Option, none, some}
use Rattle.grammar.specs.Grammar.{comma, octets, Space, Sign, leaves_sign, leaves_chars, Literal, literal-true}
use Rattle.grammar.specs.Grammar.{literal-false, literal-null, Bracket, curly, square, opening, Label, Value}
use Rattle.grammar.specs.Grammar.{nested, empty, string, number, literal, Entries, last, more, leaves_label}
use Rattle.grammar.specs.Grammar.{leaves_value, Text}

-- How deep objects and arrays stand in one another: the outermost one is level 1.
unfoldable mutual
  pub levels : Value → ℕ
  levels (nested b x es y) = suc (levels_entries es)
  levels (empty b x y) = 1
  levels (string x) = 0
  levels (number x) = 0
  levels (literal x) = 0

  pub levels_entries : {b : Bracket} → Entries b → ℕ
  levels_entries (last l v) = levels v
  levels_entries (more l v x es) = max (levels v) (levels_entries es)

-- Kinds: 0 object, 1 array, 2 string, 3 number, 4 true, 5 false, 6 null.

-- Of an object or an array.
abbrev pub kind_nested : Bracket → ℕ
kind_nested curly = 0
kind_nested square = 1

-- Of a literal.
abbrev pub kind_literal : Literal → ℕ
kind_literal literal-true = 4
kind_literal literal-false = 5
kind_literal literal-null = 6

-- Of a value.
unfoldable pub kind : Value → ℕ
kind (nested b x es y) = kind_nested b
kind (empty b x y) = kind_nested b
kind (string x) = 2
kind (number x) = 3
kind (literal x) = kind_literal x

-- A part of a text.
pub record Place : Type 0 where
  pub start : ℕ
  pub size : ℕ

-- The space at a value's left and right ends, which its outermost brackets have.

-- At the left end.
unfoldable pub leading : Value → Space
leading (nested b x es y) = x.before
leading (empty b x y) = x.before
leading (string x) = []
leading (number x) = []
leading (literal x) = []

-- At the right end.
unfoldable pub trailing : Value → Space
trailing (nested b x es y) = y.after
trailing (empty b x y) = y.after
trailing (string x) = []
trailing (number x) = []
trailing (literal x) = []

-- The place of a value whose leaves begin at octet n. A string's place has its quotation marks.
unfoldable pub place : ℕ → Value → Place
place n v = record {
  start = n + length (octets (leading v));
  size = length (leaves_value v) - (length (octets (leading v)) + length (octets (trailing v)));
}

-- The place of the name of an entry whose leaves begin at octet n, without quotation marks. An array's entries have
-- none.
unfoldable pub place_name : (b : Bracket) → ℕ → Label b → Option Place
place_name curly n l = some (record { start = n + 1; size = length (leaves_chars l.name.chars) })
place_name square n l = none

-- A value by its kind, its place and its entries; an entry by its name's place, if it has one, and its value.
mutual
  pub data Placed : Type 0 where
    item : ℕ → Place → Parts → Placed

  pub data Parts : Type 0 where
    done : Parts
    part : Option Place → Placed → Parts → Parts

unfoldable mutual
  -- A value whose leaves begin at octet n.
  pub placed : ℕ → Value → Placed
  placed n (nested b x es y) =
      item (kind_nested b) (place n (nested b x es y)) (placed_entries (n + length (leaves_sign (opening b) x)) es)
  placed n (empty b x y) = item (kind_nested b) (place n (empty b x y)) done
  placed n (string x) = item 2 (place n (string x)) done
  placed n (number x) = item 3 (place n (number x)) done
  placed n (literal x) = item (kind_literal x) (place n (literal x)) done

  -- Entries whose leaves begin at octet n.
  pub placed_entries : {b : Bracket} → ℕ → Entries b → Parts
  placed_entries n (last {b} l v) = part (place_name b n l) (placed (n + length (leaves_label b l)) v) done
  placed_entries n (more {b} l v x es) =
      part
      (place_name b n l)
      (placed (n + length (leaves_label b l)) v)
      (placed_entries (n + length (leaves_label b l ++ (leaves_value v ++ leaves_sign comma x))) es)

-- A text's value, with everything in it placed.
unfoldable pub placed_text : Text → Placed
placed_text t = placed (length (octets t.before)) t.value

-- A placed value's kind, place and parts.

abbrev pub kind_of : Placed → ℕ
kind_of (item k q ps) = k

abbrev pub start_of : Placed → ℕ
start_of (item k q ps) = q.start

abbrev pub size_of : Placed → ℕ
size_of (item k q ps) = q.size

abbrev pub parts_of : Placed → Parts
parts_of (item k q ps) = ps

-- A member of an object: the place of its name, the place of its value, its value's kind.
pub record Member : Type 0 where
  pub name_start : ℕ
  pub name_size : ℕ
  pub value_start : ℕ
  pub value_size : ℕ
  pub kind : ℕ

-- An element of an array.
pub record Element : Type 0 where
  pub start : ℕ
  pub size : ℕ
  pub kind : ℕ

-- The member with a name at q and the value v.
abbrev pub member_of : Place → Placed → Member
member_of q v = record {
  name_start = q.start;
  name_size = q.size;
  value_start = start_of v;
  value_size = size_of v;
  kind = kind_of v;
}

-- The element v.
abbrev pub element_of : Placed → Element
element_of v = record { start = start_of v; size = size_of v; kind = kind_of v }

-- The members of an object, in text order.
unfoldable pub members : Parts → List Member
members done = []
members (part none v ps) = members ps
members (part (some q) v ps) = member_of q v ∷ members ps

-- The elements of an array, in text order.
unfoldable pub elements : Parts → List Element
elements done = []
elements (part none v ps) = element_of v ∷ elements ps
elements (part (some q) v ps) = elements ps

-- A tree without its spaces. Readings that differ only in the place in the tree that a space is counted to are one
-- reading.

-- No space around a sign.
abbrev pub bare : Sign
bare = record { before = []; after = [] }

-- What stands before a value, without spaces.
unfoldable pub emptied_label : (b : Bracket) → Label b → Label b
emptied_label curly l = record { name = l.name; sign = bare }
emptied_label square l = l

unfoldable mutual
  -- A value, and entries, without spaces.
  pub emptied : Value → Value
  emptied (nested b x es y) = nested b bare (emptied_entries es) bare
  emptied (empty b x y) = empty b bare bare
  emptied (string x) = string x
  emptied (number x) = number x
  emptied (literal x) = literal x

  pub emptied_entries : {b : Bracket} → Entries b → Entries b
  emptied_entries (last {b} l v) = last (emptied_label b l) (emptied v)
  emptied_entries (more {b} l v x es) = more (emptied_label b l) (emptied v) bare (emptied_entries es)

-- A text without spaces.
unfoldable pub emptied_text : Text → Text
emptied_text t = record { before = []; value = emptied t.value; after = [] }
