-- `component` takes the quotation marks off the place of the value, where there is one.
use Rattle.rows.specs.Rows.{value_of}
use Rattle.rows.specs.Inner.Views.{the_entries}
use Rattle.shape.proofs.Numbers.{inner_none, inner_some}
use Rattle.shape.proofs.held.component.Goals as goal

pub returns-then-value-eq0 : goal.returns-then-value-eq0
returns-then-value-eq0 c =
    let args = c.args in
    inner_none (value_of args.n (the_entries args.members)) c.value_of-value.ensures.start_value c.value_of-value.ensures.len_value c.if-value-eq0.true

pub returns : goal.returns
returns c =
    let args = c.args in
    inner_some (value_of args.n (the_entries args.members)) c.value_of-value.ensures.start_value c.value_of-value.ensures.len_value
    c.if-value-eq0.false c.minus.ensures
