-- `print_number` writes its digits from the last on.
use Rattle.std.specs.Prelude.{◌≤◌, ◌≡◌, length}
use Rattle.conformance.proofs.print_number.Given as goal

abbrev pub invariant-loop-first : goal.invariant-loop-first
invariant-loop-first g l = (l.first ≤ 10) × (length l.digits ≡ 11)

abbrev pub decreases-loop-first : goal.decreases-loop-first
decreases-loop-first g l = l.first
