-- `put_keys` puts the line of one recipient's keys after the other.
use Rattle.std.proofs.Common.{◌≡◌, ◌++◌, ◌+◌, ◌≤◌, length}
use Rattle.differences.specs.Differences.{compared, key_lines, up_to}
use Rattle.differences.proofs.put_keys.Given as goal

abbrev pub invariant-loop-n : goal.invariant-loop-n
invariant-loop-n l =
    (length l.lines ≤ length l.initial.lines + l.n)
    × (l.lines ≡ l.initial.lines ++ up_to (key_lines (compared l.left.message.now) (compared l.right.message.now)) l.n)
