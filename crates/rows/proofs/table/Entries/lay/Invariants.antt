-- `lay` lays out each entry in turn.
use Rattle.rows.proofs.Laying.{Laid}
use Rattle.rows.proofs.table.Entries.lay.Given as goal

abbrev pub invariant-loop-i : goal.invariant-loop-i
invariant-loop-i l = Laid l.self.table.now l.self.count l.initial.list l.i l.list
