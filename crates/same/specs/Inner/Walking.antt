-- The code's values for those of the definitions and what its callers show of them.
use Rattle.std.specs.Prelude.{◌≡◌, Bool, true, false, List, [], ◌∷◌, ℕ}
use Rattle.grammar.specs.Places.{Element}
use Rattle.grammar.specs.Reader.{found, value_at}
use Rattle.json_read.specs.declared.member.Row.{Row}
use Rattle.same.specs.Same.{depth}
use Rattle.same.specs.declared.Value.{Value}

-- The numbers that a caller lends, for whatever they hold: 1 MiB.
abbrev pub work_room : ℕ
work_room = 262144

-- A value's place and kind.
abbrev pub element_of : Value → Element
element_of v = record { start = v.start; size = v.len; kind = v.kind }

-- The value of a member or an element that the code reads as a row.
abbrev pub value_of : Row → Value
value_of r = record { start = r.value.start; len = r.value.len; kind = r.kind }

-- What a caller that has judged a text shows: a value of that kind stands there.
pub record Reads (s : List ℕ) (x : Element) : Type 0 where
  pub end : ℕ
  pub is : value_at depth s x.start ≡ found end x.kind

-- Whether there is none.
abbrev pub is_none : {A : Type 0} → List A → Bool
is_none [] = true
is_none (x ∷ xs) = false
