-- `clashes_with` asks one entry after the other behind the i-th.
use Prim.Native.Nat.{◌+◌}
use mathlib.Core.Path.{◌≡◌}
use lib.ListN.{drop}
use Rattle.prelude.specs.Any.{any}
use Rattle.rows.specs.Rows.{same}
use Rattle.rows.specs.Inner.Views.{the_entries, the_texts}
use Rattle.rows.proofs.Values.{entry}
use Rattle.rows.proofs.table.Headers.clashes_with.Given as goal

abbrev pub invariant-loop-j : goal.invariant-loop-j
invariant-loop-j l =
    let test = same l.across (the_texts l.self.texts) (entry l.self.entries.table.now l.i) in
    any test (drop l.j (the_entries l.self.entries)) ≡ any test (drop (l.i + 1) (the_entries l.self.entries))
