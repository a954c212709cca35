-- `other` compares the octets of both parts.
use mathlib.Core.Path.{ap, ap₂, ◌∙◌}
use mathlib.Core.Bool.{not}
use Rattle.grammar.specs.Spellings.{equal}
use Rattle.same.proofs.SameOctets.{decided}
use Rattle.differences.proofs.other.Goals as goal

pub returns : goal.returns
returns c =
    ap not (decided c.equal.result _ _ c.equal.ensures ∙ ap₂ equal c.part.ensures.octets c.part-2.ensures.octets)
