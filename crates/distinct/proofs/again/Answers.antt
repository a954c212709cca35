-- `again` asks it of each.
use borrow.Author.Rules.{rules}
use borrow.Author.Tests.{tests}
use Rattle.distinct.specs.Names.{same_name}
use Rattle.distinct.specs.Inner.Walking.{row_member}
use Rattle.json_read.proofs.RowsLeft.{any_left}
use Rattle.distinct.proofs.again.Goals as goal

pub returns : goal.returns
returns c =
    let s = c.args.s.now in
    any_left c.args.others c.any.new.self _ (same_name s s (row_member c.args.row)) c.any.result c.any.ensures.ran
    (λ x b q k. search (rules, tests))
