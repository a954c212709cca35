-- The value of the first entry that has a name, by asking one entry after the other.
use mathlib.Core.Path.{◌≡◌, ap, sym, ◌∙◌}
use mathlib.Core.Bool.{Bool, true, false, cond}
use mathlib.Core.List.{List}
use Prim.Native.Nat.{ℕ, ◌+◌, ◌*◌, ◌≤◌, ◌<◌}
use lib.ListN.{drop}
use Rattle.grammar.specs.Places.{Place}
use Rattle.rows.specs.Rows.{Entry, numbered, value_of}
use Rattle.rows.specs.Tables.{first_of, entries_of, width}
use Rattle.rows.proofs.Entries.{entry_at, entries_done}

-- The i-th entry of a table, and the place of its value.

abbrev pub entry : List ℕ → ℕ → Entry
entry t i = first_of (drop (i * width) t)

abbrev pub value_place : Entry → Place
value_place e = record { start = e.member.value_start; size = e.member.value_size }

-- The value of the first entry that has the n-th name; `answer` is what is answered in the end, the same as from entry
-- i on.
module _ (n : ℕ) (answer : Place) (count i : ℕ) (t : List ℕ) (so : value_of n (drop i (entries_of count t)) ≡ answer) where
  -- What is answered, this one having it or not.
  abbrev turn : Bool → Place
  turn b = cond b (value_place (entry t i)) (value_of n (drop (i + 1) (entries_of count t)))

  module _ (h : i < count) where
    here : turn (numbered n (entry t i)) ≡ answer
    unfolding value_of
    here = sym (ap (value_of n) (entry_at i count t h)) ∙ so

    -- This one does not have it.
    pub value_turn : numbered n (entry t i) ≡ false → value_of n (drop (i + 1) (entries_of count t)) ≡ answer
    value_turn e = sym (ap turn e) ∙ here

    -- This one has it.
    pub value_found : numbered n (entry t i) ≡ true → value_place (entry t i) ≡ answer
    value_found e = sym (ap turn e) ∙ here

  -- There are no more.
  pub value_none : count ≤ i → ◌≡◌ {A = Place} (record { start = 0; size = 0 }) answer
  unfolding value_of
  value_none h = sym (ap (value_of n) (entries_done i count t h)) ∙ so
