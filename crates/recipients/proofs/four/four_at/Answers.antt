-- `four_at` answers by the definition, which multiplies octet by octet.
use native.Mathlib.Omega.{arith}
use Rattle.recipients.specs.Parsed.{four_at}
use Rattle.recipients.proofs.four.four_at.Goals as goal

pub returns : goal.returns
unfolding four_at
returns c = (omega (arith, c.from_be_bytes.ensures), omega (arith, c.from_be_bytes.type_inv))
