-- `same` compares what two elements say, as they are spelled.
use mathlib.Core.Path.{ap₂, ◌∙◌}
use Rattle.grammar.specs.Spellings.{alike}
use Rattle.jose.proofs.crit.same.Goals as goal

pub returns : goal.returns
returns c = c.alike.ensures ∙ ap₂ alike c.spelled.ensures c.spelled-2.ensures
