-- Each right member's position is left for a number, or not.
use mathlib.Core.Path.{◌≡◌}
use lib.ListN.{length}
use Rattle.pairs.specs.Inner.Walks.{SpotAt, Table}
use Rattle.pairs.proofs.table.meet.Given as goal

abbrev pub invariant-loop-left : goal.invariant-loop-left
invariant-loop-left l =
    SpotAt l.t l.at l.left l.p.at × ((length l.work ≡ length l.initial.work) × Table l.t l.at l.size l.work)

abbrev pub decreases-loop-left : goal.decreases-loop-left
decreases-loop-left l = l.left
