-- `numbered` answers by the definition: the array has document 01's list.
use Rattle.algorithms.specs.Algorithms.{encs}
use Rattle.algorithms.proofs.Enc.numbered.Goals as goal

pub returns : goal.returns
unfolding encs
returns c = c.nth.ensures
