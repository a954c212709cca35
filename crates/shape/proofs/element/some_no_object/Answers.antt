-- `some_no_object` asks it of each.
use borrow.Author.Rules.{rules}
use borrow.Author.Tests.{tests}
use Rattle.json_read.proofs.RowsLeft.{any_element_left}
use Rattle.shape.specs.Shape.{no_object}
use Rattle.shape.proofs.element.some_no_object.Goals as goal

pub returns : goal.returns
returns c =
    any_element_left c.args.elements c.any.new.self _ no_object c.any.result c.any.ensures.ran (λ x b q k. search (rules, tests))
