-- `repeat` writes octet after octet; where there is no room it stays.
use mathlib.Core.Path.{◌≡◌}
use Prim.Native.Nat.{◌-◌, ◌*◌, ◌≤◌}
use lib.ListN.{length}
use Rattle.conformance.proofs.repeat.Given as goal

abbrev pub invariant-loop-k : goal.invariant-loop-k
invariant-loop-k l = (l.end ≤ length l.initial.into) × (length l.into ≡ length l.initial.into)

abbrev pub decreases-loop-k : goal.decreases-loop-k
decreases-loop-k l = l.times * 4 - l.k
