-- `earlier` asks it of each.
use mathlib.Core.Path.{ap, ◌∙◌}
use borrow.Author.Rules.{rules}
use borrow.Author.Tests.{tests}
use Rattle.grammar.specs.Places.{Member}
use Rattle.prelude.specs.Any.{any}
use Rattle.json_read.proofs.RowsLeft.{any_left}
use Rattle.distinct.specs.Names.{same_name}
use Rattle.distinct.specs.Inner.Walking.{row_member}
use Rattle.distinct.proofs.window.earlier.Goals as goal

pub returns : goal.returns
returns c =
    let s = c.args.s.now in
    let test = λ (x : Member). same_name s s x (row_member c.args.row) in
    any_left c.members_from.result c.any.new.self _ test c.any.result c.any.ensures.ran (λ x b q k. search (rules, tests))
    ∙ ap (any test) c.members_from.ensures
