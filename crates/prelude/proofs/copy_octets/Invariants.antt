-- `copy_octets` writes the whole list: the loop writes it element by element.
use Prim.Native.Nat.{◌+◌}
use lib.ListN.{drop}
use Rattle.prelude.proofs.Writing.{Writing}
use Rattle.prelude.proofs.copy_octets.Given as goal

abbrev pub invariant-loop-j : goal.invariant-loop-j
invariant-loop-j l = Writing l.at l.from l.initial.into (drop l.j l.from) (l.at + l.j) l.into
