-- `count` answers by the definition: the end of the bodies so far is where the next one begins.
use Prim.Native.Nat.{◌+◌, ◌*◌, ◌≤◌}
use mathlib.Core.Path.{◌≡◌}
use Rattle.recipients.specs.Parsed.{body_start}
use Rattle.recipients.proofs.count.Given as goal

abbrev pub invariant-loop-i : goal.invariant-loop-i
invariant-loop-i l = record { begins : l.end ≡ body_start l.table l.i; within : l.end ≤ 65 + 8589934592 * l.i }
