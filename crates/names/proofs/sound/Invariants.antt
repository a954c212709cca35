-- `sound` answers by the definition: the lengths from the next one on, with the names behind them, are as sound as the
-- whole list.
use Prim.Native.Nat.{◌*◌, ◌≤◌}
use mathlib.Core.Path.{◌≡◌}
use lib.ListN.{length, drop}
use Rattle.names.specs.Names as spec
use Rattle.names.proofs.Judging.{sound_from}
use Rattle.names.proofs.sound.Given as goal

abbrev pub invariant-loop-k : goal.invariant-loop-k
invariant-loop-k l = record {
  small : l.total ≤ 64 * l.k-index;
  left : sound_from (drop l.k-index l.lengths) l.total (length l.names) ≡ spec.sound l.list;
}
