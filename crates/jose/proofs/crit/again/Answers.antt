-- `again` asks it of each.
use borrow.Author.Rules.{rules}
use borrow.Author.Tests.{tests}
use Rattle.json_read.proofs.RowsLeft.{any_element_left}
use Rattle.jose.specs.HeaderRules.{same_element}
use Rattle.jose.specs.Inner.Elements.{element_of}
use Rattle.jose.proofs.crit.again.Goals as goal

pub returns : goal.returns
returns c =
    any_element_left c.args.others c.any.new.self _ (same_element c.args.s.now (element_of c.args.row)) c.any.result c.any.ensures.ran
    (λ x b q k. search (rules, tests))
