-- `copy_octets` writes the whole list: the loop writes it element by element.
use Rattle.prelude.proofs.Copying.{copy_begins, copy_turn, copied}
use Rattle.prelude.proofs.copy_octets.Goals as goal

pub loop-j-init : goal.loop-j-init
loop-j-init c = copy_begins c.args.at c.args.from.now c.args.into.now c.requires

pub loop-j-preserved : goal.loop-j-preserved
loop-j-preserved c = copy_turn c.loop-j.invariant c.loop-j-test.true

pub returns : goal.returns
returns c = copied c.loop-j.invariant c.loop-j-test.false
