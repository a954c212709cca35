-- `held` has each part by itself.
use Rattle.shape.proofs.Numbers.{all_held}
use Rattle.shape.proofs.held.held.Goals as goal

pub returns : goal.returns
returns c =
    all_held
    c.form.ensures
    c.present.ensures
    c.value_of.ensures.start_value
    c.component.ensures
    c.component-2.ensures
    c.component-3.ensures
    c.component-4.ensures
    c.component-5.ensures
