-- The names are what `name` gives.
use mathlib.Core.Path.{ap₂, ◌∙◌}
use Rattle.grammar.specs.Spellings.{alike}
use Rattle.distinct.proofs.same_name.Goals as goal

pub returns : goal.returns
returns c = c.says_same.ensures ∙ ap₂ alike c.name.ensures c.name-2.ensures
