-- `inside` is one step and the space behind it, as the definition has it.
use mathlib.Core.Path.{ap, ◌∙◌}
use Rattle.grammar.specs.Reader.{skip_space}
use Rattle.json_read.proofs.Position.inside.Goals as goal

pub returns : goal.returns
returns c = c.skip_space.ensures ∙ ap (skip_space c.args.s.now) c.step-past.ensures
