-- `copy` writes the whole list: the loop writes it element by element.
use Rattle.prelude.proofs.Copying.{copy_begins, copy_turn, copied}
use Rattle.rows.proofs.copy.copy.Goals as goal

pub loop-k-init : goal.loop-k-init
loop-k-init c = copy_begins c.args.at c.args.from.now c.args.into.now c.requires

pub loop-k-preserved : goal.loop-k-preserved
loop-k-preserved c = copy_turn c.loop-k.invariant c.loop-k-test.true

pub returns : goal.returns
returns c = copied c.loop-k.invariant c.loop-k-test.false
