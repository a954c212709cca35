-- `table` is the alphabet's: it passes the test of `Table`, which is computed here, over all of it.
use Rattle.prelude.specs.Ascii.{ascii}
use Rattle.base64url.specs.Base64url.{alphabet, place_in, six_bits}
use Rattle.base64url.proofs.Table.{tabled}
use Rattle.base64url.proofs.step.table.Goals as goal

pub returns : goal.returns
unfolding ascii alphabet place_in six_bits
returns c = tabled _ tt
