-- Where nothing was counted, the places passed are the same in both and no backslash.
use Prim.Native.Nat.{◌≤◌, ◌*◌}
use mathlib.Core.Path.{◌≡◌}
use Rattle.spelling.specs.Inner.Escapes.{Common}
use Rattle.spelling.proofs.unlike.Given as goal

abbrev pub invariant-loop-k : goal.invariant-loop-k
invariant-loop-k l = (l.count ≤ 2 * l.k) × (l.count ≡ 0 → Common l.a l.b l.k)
