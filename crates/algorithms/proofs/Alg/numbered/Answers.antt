-- `numbered` answers by the definition: the array has document 01's list.
use Rattle.algorithms.specs.Algorithms.{algs}
use Rattle.algorithms.proofs.Alg.numbered.Goals as goal

pub returns : goal.returns
unfolding algs
returns c = c.nth.ensures
