-- `count` counts the members; they are no more than the turns that are left.
use mathlib.Core.Logic.{inl}
use native.Mathlib.Omega.{arith}
use Rattle.json_read.proofs.RowsLeft.{no_more}
use Rattle.distinct.proofs.count.Goals as goal

pub count-requires-clause-fits : goal.count-requires-clause-fits
count-requires-clause-fits c = let few = no_more c.members.result in inl (omega (arith, few, c.members.type_inv))
