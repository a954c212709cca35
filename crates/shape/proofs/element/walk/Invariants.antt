-- `walk` goes along the elements: so many are objects, and their starts are written; after the eighth, the rest is
-- asked for one that is no object.
use Rattle.grammar.specs.Reader.{elements_at}
use Rattle.json_read.specs.Inner.Rows.{elements_left}
use Rattle.shape.proofs.Walking.{Walking}
use Rattle.shape.proofs.element.walk.Given as goal

abbrev pub invariant-loop-row : goal.invariant-loop-row
invariant-loop-row l =
    Walking (elements_at 12 l.message l.at) (elements_left l.elements) l.count l.initial.starts l.starts
