-- `next` passes entries that have another number: those that have it, from the one it is at on, stay the same.
use mathlib.Core.Path.{◌≡◌}
use lib.ListN.{drop}
use Rattle.rows.specs.Rows.{having}
use Rattle.rows.specs.Inner.Views.{the_entries}
use Rattle.rows.proofs.table.Entries.next.Given as goal

abbrev pub invariant-loop-i : goal.invariant-loop-i
invariant-loop-i l = having l.n (drop l.i (the_entries l.self)) ≡ having l.n (drop l.from (the_entries l.self))
