-- `outside` tells the characters that have no value: one test, computed over all octets.
use Rattle.base64url.proofs.Alphabet.{outside_by_range}
use borrow.Author.Rules.{rules}
use Rattle.base64url.proofs.step.outside.Goals as goal

pub returns : goal.returns
returns c = outside_by_range c.args.c (search rules)
