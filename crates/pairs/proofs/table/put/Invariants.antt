-- Only numbers behind the table are written.
use mathlib.Core.Path.{◌≡◌}
use Prim.Native.Nat.{◌*◌, ◌-◌, ◌≤◌}
use lib.ListN.{length}
use Rattle.pairs.specs.Inner.Walks.{Kept}
use Rattle.pairs.proofs.table.put.Given as goal

abbrev pub invariant-loop-x : goal.invariant-loop-x
invariant-loop-x l =
    ((l.size ≤ l.x) × (l.end ≡ 4 * l.size)) × ((length l.work ≡ length l.initial.work) × Kept l.size l.initial.work l.work)

abbrev pub decreases-loop-x : goal.decreases-loop-x
decreases-loop-x l = l.end - l.x
