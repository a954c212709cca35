-- `has` tells the octets that do not stand for themselves: one test, computed over all octets.
use borrow.Author.Rules.{rules}
use Rattle.json_read.proofs.StringParts.{stop_test}
use Rattle.json_read.proofs.string.StopKind.has.Goals as goal

pub returns : goal.returns
returns c = stop_test c.args.c (search rules)
