-- `any` asks one entry after the other.
use mathlib.Core.Path.{◌≡◌}
use mathlib.Core.Bool.{Bool}
use lib.ListN.{drop}
use Rattle.prelude.specs.Any.{any}
use Rattle.rows.specs.Rows.{Entry}
use Rattle.rows.specs.Tables.{entries_of, first_of}
use Rattle.rows.proofs.table.Entries.any.Given as goal

abbrev pub invariant-loop-i : goal.invariant-loop-i
invariant-loop-i g l =
    (f : Entry → Bool) → ((e : _) (r : Bool) → goal.F-post g l.test e r → r ≡ f (first_of e.numbers.now)) →
    any f (drop l.i (entries_of l.self.count l.self.table.now)) ≡ any f (entries_of l.self.count l.self.table.now)
