-- A window is filled member by member.
use mathlib.Core.Path.{◌≡◌}
use Prim.Native.Nat.{◌-◌, ◌≤◌}
use lib.ListN.{length}
use Rattle.distinct.proofs.Windows.{Filling}
use Rattle.distinct.proofs.window.fill.Given as goal

abbrev pub invariant-loop-done : goal.invariant-loop-done
invariant-loop-done l =
    Filling l.size l.s l.filter l.left l.from.at l.q.at l.done × ((length l.filter ≡ length l.initial.filter) × (l.done ≤ l.size))

abbrev pub decreases-loop-done : goal.decreases-loop-done
decreases-loop-done l = l.size - l.done
