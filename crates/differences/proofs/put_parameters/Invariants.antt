-- `put_parameters` puts the lines of one recipient after the other.
use Rattle.std.proofs.Common.{◌≡◌, ◌++◌, ◌+◌, ◌*◌, ◌≤◌, length}
use Rattle.parameters.specs.Inner.Puts.{recipient_most}
use Rattle.differences.specs.Differences.{compared, recipient_lines, up_to}
use Rattle.differences.specs.Inner.Holding.{Fronted}
use Rattle.differences.proofs.put_parameters.Given as goal

abbrev pub invariant-loop-n : goal.invariant-loop-n
invariant-loop-n l =
    (length l.lines ≤ length l.initial.lines + l.n * recipient_most)
    × ((l.lines ≡ l.initial.lines ++ up_to (recipient_lines (compared l.left.message.now) (compared l.right.message.now)) l.n)
    × (Fronted l.left.message.now l.left.holds.common l.left_table × Fronted l.right.message.now l.right.holds.common l.right_table))
