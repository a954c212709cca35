-- `some_misplaced` asks it of each.
use mathlib.Core.Path.{ap, ◌∙◌}
use borrow.Author.Rules.{rules}
use borrow.Author.Tests.{tests}
use Rattle.prelude.specs.Any.{any}
use Rattle.rows.specs.Inner.Views.{the_entries, the_texts}
use Rattle.json_read.proofs.RowsLeft.{any_element_left}
use Rattle.jose.specs.HeaderRules.{misplaced}
use Rattle.jose.proofs.crit.some_misplaced.Goals as goal

pub returns : goal.returns
returns c =
    let test = misplaced (the_texts c.args.texts) (the_entries c.args.entries) c.args.s.now in
    any_element_left c.elements.result c.any.new.self _ test c.any.result c.any.ensures.ran (λ x b q k. search (rules, tests))
    ∙ ap (any test) c.elements.ensures.elements
