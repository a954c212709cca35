-- `collect` has the rows so far in its table, and the others to come.
use Prim.Native.Nat.{◌≤◌}
use mathlib.Core.Path.{◌≡◌}
use lib.ListN.{length, take, drop}
use Rattle.prelude.specs.Buffer.{written}
use Rattle.json_read.specs.Inner.Rows.{rows_left}
use Rattle.json_read.specs.Members.{flat}
use Rattle.json_read.proofs.Position.collect.Given as goal

abbrev pub invariant-loop-row : goal.invariant-loop-row
invariant-loop-row l = record {
  few : l.count ≤ 32;
  within : l.count ≤ length (rows_left l.initial.row-iterator);
  others : drop l.count (rows_left l.initial.row-iterator) ≡ rows_left l.row-iterator;
  table : l.table ≡ written 0 (flat (take l.count (rows_left l.initial.row-iterator))) l.initial.table;
}
