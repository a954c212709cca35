-- `value_of` asks one entry after the other.
use mathlib.Core.Path.{◌≡◌}
use lib.ListN.{drop}
use Rattle.rows.specs.Rows.{value_of}
use Rattle.rows.specs.Inner.Views.{the_entries}
use Rattle.rows.proofs.table.Entries.value_of.Given as goal

abbrev pub invariant-loop-i : goal.invariant-loop-i
invariant-loop-i l = value_of l.n (drop l.i (the_entries l.self)) ≡ value_of l.n (the_entries l.self)
