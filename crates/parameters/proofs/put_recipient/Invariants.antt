-- `put_recipient` puts the lines of the left parameters, one after the other, and then those of the right ones.
use Rattle.std.proofs.Common.{◌≡◌, ◌++◌, ◌+◌, ◌*◌, ◌≤◌, length, take}
use mathlib.Core.List.{flat_map}
use Rattle.matching.specs.Inner.Sides.{texts, entries}
use Rattle.parameters.specs.Parameters.{left_lines, right_lines}
use Rattle.parameters.proofs.put_recipient.Given as goal

abbrev pub invariant-loop-i : goal.invariant-loop-i
invariant-loop-i g l =
    (length l.lines ≤ length l.fn.lines + 2 * l.i)
    × (l.lines ≡ l.fn.lines ++ flat_map (left_lines (texts l.left) (texts l.right) (entries l.right) l.recipient) (take l.i (entries l.left)))

abbrev pub invariant-loop-j : goal.invariant-loop-j
invariant-loop-j g l =
    (length l.lines ≤ length l.fn.lines + (2 * l.left.count + l.j))
    × (l.lines ≡ (l.fn.lines ++ flat_map (left_lines (texts l.left) (texts l.right) (entries l.right) l.recipient) (entries l.left))
    ++ flat_map (right_lines (texts l.left) (texts l.right) (entries l.left) l.recipient) (take l.j (entries l.right)))
