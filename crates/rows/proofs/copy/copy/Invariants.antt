-- `copy` writes the whole list: the loop writes it element by element.
use Prim.Native.Nat.{◌+◌}
use lib.ListN.{drop}
use Rattle.prelude.proofs.Writing.{Writing}
use Rattle.rows.proofs.copy.copy.Given as goal

abbrev pub invariant-loop-k : goal.invariant-loop-k
invariant-loop-k l = Writing l.at l.from l.initial.into (drop l.k l.from) (l.at + l.k) l.into
