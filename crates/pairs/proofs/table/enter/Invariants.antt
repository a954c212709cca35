-- Each left member's fingerprint goes behind the positions, which stay 0.
use mathlib.Core.Path.{◌≡◌}
use lib.ListN.{length}
use Rattle.distinct.specs.Inner.Filter.{Empty}
use Rattle.pairs.proofs.table.enter.Given as goal

abbrev pub invariant-loop-row : goal.invariant-loop-row
invariant-loop-row l = record {
  long : length l.work ≡ length l.initial.work;
  empty : Empty l.work l.size;
}
