-- `put_parameters` writes one line behind the other; what is still to come is the lines from the next parameter on.
use Rattle.prelude.proofs.Writing.{Writing}
use Rattle.report.specs.Answers.{list_lines}
use Rattle.report.proofs.Listing.{lines_from}
use Rattle.report.proofs.lines.put_parameters.Given as goal

abbrev pub invariant-loop-i : goal.invariant-loop-i
invariant-loop-i l = Writing l.at (list_lines l.count l.list) l.initial.out (lines_from l.count l.list l.i) l.next l.out
