-- The elements are what stands in an array.
use mathlib.Core.Path.{ap}
use Rattle.grammar.specs.Reader.{elements_of, elements_at}
use Rattle.json_read.proofs.member.Rows.elements.Goals as goal

pub returns : goal.returns
unfolding elements_at
returns c = record {
  rows = c.all.ensures;
  elements = ap elements_of c.all.ensures;
}
