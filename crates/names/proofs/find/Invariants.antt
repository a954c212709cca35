-- `find` answers by the definition: while it goes on, the number among the names still to come is the number among all.
use Rattle.names.proofs.Finding.{Finding}
use Rattle.names.proofs.find.Given as goal

abbrev pub invariant-loop-i : goal.invariant-loop-i
invariant-loop-i l = Finding l.list l.spelled l.lengths l.names l.i
