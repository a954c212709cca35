-- Both octets are equal, or neither test says so.
use mathlib.Core.Path.{ap₂, ◌∙◌}
use Rattle.grammar.specs.Spellings.{equal}
use Rattle.same.proofs.SameOctets.{decided}
use Rattle.same.proofs.same_octets.Goals as goal

pub returns : goal.returns
returns c =
    decided c.equal.result _ _ c.equal.ensures
    ∙ ap₂ equal c.part.ensures.octets c.part-2.ensures.octets
