-- The places from the start of a tag on, one after the other.
use Prim.Native.Nat.{◌-◌}
use Rattle.distinct.proofs.Windows.{Looking}
use Rattle.distinct.proofs.window.look.Given as goal

abbrev pub invariant-loop-at : goal.invariant-loop-at
invariant-loop-at l = Looking l.filter l.from l.v l.at

abbrev pub decreases-loop-at : goal.decreases-loop-at
decreases-loop-at l = l.end - l.at
