-- `peek` finds the octet at a position, and 256 at the end.
use Rattle.grammar.proofs.Here.{octet_here, octet_end}
use Rattle.json_read.proofs.Position.peek.Goals as goal

pub returns-then-at-s : goal.returns-then-at-s
returns-then-at-s c = octet_here c.args.s.now c.args.self.at c.if-at-s.true

pub returns-else-at-s : goal.returns-else-at-s
returns-else-at-s c = octet_end c.args.s.now c.args.self.at c.if-at-s.false
