-- `six_bits` reads the lent table, which has the six bits of each octet.
use borrow.Author.Rules.{rules}
use Rattle.base64url.proofs.step.six_bits.Goals as goal

pub returns : goal.returns
returns c = c.requires.right c.args.c (search rules)
