-- One recipient after the other: what is known before each is `Walked`. Behind the last, 21 is asked of all.
use lib.ListN.{length}
use Rattle.names.specs.Names.{names}
use Rattle.json_judge.proofs.Recipients.{Walked}
use Rattle.json_judge.specs.Inner.Faults.{fault_number}
use Rattle.json_judge.proofs.judge_recipients.Given as goal

abbrev pub invariant-loop-i : goal.invariant-loop-i
invariant-loop-i l =
    Walked (names l.known) l.header l.shared l.sizes l.recipients l.front (length l.initial.table) l.table (fault_number l.broken) (fault_number l.content) l.named l.start l.i
