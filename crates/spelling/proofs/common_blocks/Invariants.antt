-- Blocks that both have, one after the other.
use Prim.Native.Nat.{◌≤◌, ◌-◌}
use Rattle.spelling.specs.Inner.Escapes.{Common}
use Rattle.spelling.proofs.common_blocks.Given as goal

abbrev pub invariant-loop-k : goal.invariant-loop-k
invariant-loop-k l = (l.k ≤ l.n) × Common l.a l.b l.k

abbrev pub decreases-loop-k : goal.decreases-loop-k
decreases-loop-k l = l.n - l.k
