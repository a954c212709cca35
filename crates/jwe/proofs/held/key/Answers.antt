-- `key` reads the second and the third of the recipient's numbers.
use Rattle.jwe.proofs.JsonPlaces.{key_is_lem}
use Rattle.jwe.proofs.held.key.Goals as goal

pub returns : goal.returns
returns c = let args = c.args in key_is_lem args.of.now args.i
