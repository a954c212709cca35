-- `clashes` asks one entry after the other whether it says the same as one behind it.
use mathlib.Core.Path.{◌≡◌}
use lib.ListN.{drop}
use Rattle.prelude.specs.Any.{any_pair}
use Rattle.rows.specs.Rows.{same, repeated}
use Rattle.rows.specs.Inner.Views.{the_entries, the_texts}
use Rattle.rows.proofs.table.Headers.clashes.Given as goal

abbrev pub invariant-loop-i : goal.invariant-loop-i
invariant-loop-i l =
    any_pair (same l.across (the_texts l.self.texts)) (drop l.i (the_entries l.self.entries))
    ≡ repeated l.across (the_texts l.self.texts) (the_entries l.self.entries)
