-- Entries laid out as the list's numbers, one after the other: what is still to come is the list from the next entry on.
use mathlib.Core.Path.{◌≡◌, ap, subst}
use mathlib.Core.List.{List}
use Prim.Native.Nat.{ℕ, ◌+◌, ◌*◌, ◌≤◌, ◌<◌}
use native.Mathlib.Omega.{arith}
use lib.ListN.{length, drop}
use Rattle.prelude.specs.Buffer.{written}
use Rattle.prelude.proofs.Writing.{Writing, begin, put_part, done}
use Rattle.rows.specs.Rows.{Entry}
use Rattle.rows.specs.Tables.{list_row, listed, first_of, entries_of, width, list_width}
use Rattle.rows.proofs.Entries.{listed_length, entries_length, entry_at, entries_done}

-- Entries of a table laid out into a list.
module _ (t : List ℕ) (count : ℕ) (before : List ℕ) where
  -- The list has those before the i-th.
  abbrev pub Laid : ℕ → List ℕ → Type 0
  Laid i now = Writing 0 (listed (entries_of count t)) before (listed (drop i (entries_of count t))) (i * list_width) now

  pub lay_begins : count * list_width ≤ length before → Laid 0 before
  lay_begins h =
      begin 0 (listed (entries_of count t)) before
      (omega (arith, h, listed_length (entries_of count t), entries_length count t))

  pub lay_turn : (i : ℕ) (now next : List ℕ) → i < count → Laid i now
      → next ≡ written (i * list_width) (list_row (first_of (drop (i * width) t))) now → Laid (i + 1) next
  unfolding listed
  lay_turn i now next h w e =
      put_part (list_row (first_of (drop (i * width) t))) (listed (drop (i + 1) (entries_of count t)))
      (ap listed (entry_at i count t h)) w (omega arith) e

  pub laid : (i : ℕ) (now : List ℕ) → count ≤ i → Laid i now → now ≡ written 0 (listed (entries_of count t)) before
  unfolding listed
  laid i now h w =
      done (subst (λ (l : List Entry). Writing 0 (listed (entries_of count t)) before (listed l) (i * list_width) now)
      (entries_done i count t h) w)
