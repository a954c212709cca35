-- `step` goes one on, and no further than the end.
use Rattle.grammar.proofs.Here.{step_inside, step_end}
use Rattle.json_read.proofs.Position.step.Goals as goal

pub returns-then-at-s : goal.returns-then-at-s
returns-then-at-s c = step_inside c.args.s.now c.args.self.at c.if-at-s.true

pub returns-else-at-s : goal.returns-else-at-s
returns-else-at-s c = step_end c.args.s.now c.args.self.at c.if-at-s.false
