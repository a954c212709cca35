-- `twice` walks along the elements: whether two of those that are left say the same stays the answer.
use mathlib.Core.Path.{ap, sym, ◌∙◌}
use mathlib.Core.Bool.{Bool, ◌||◌}
use Rattle.json_read.specs.Inner.Rows.{elements_left}
use Rattle.json_read.proofs.RowsLeft.{element_more, element_none}
use Rattle.prelude.specs.Any.{any_pair}
use Rattle.jose.specs.HeaderRules.{same_element}
use Rattle.jose.proofs.crit.twice.Goals as goal

pub loop-row-init : goal.loop-row-init
loop-row-init c = ap (any_pair (same_element c.args.s.now)) c.elements-elements.ensures.elements

pub returns-then-again : goal.returns-then-again
unfolding any_pair
returns-then-again c =
    let f = same_element c.args.s.now in
    ap (λ (b : Bool). b || any_pair f (elements_left c.next.new.self)) c.if-again.ensures
    ∙ sym (ap (any_pair f) (element_more c.loop-row.elements c.next.new.self c.in-Some.ensures.steps)) ∙ c.loop-row.invariant

pub loop-row-preserved : goal.loop-row-preserved
unfolding any_pair
loop-row-preserved c =
    let f = same_element c.args.s.now in
    ap (λ (b : Bool). b || any_pair f (elements_left c.next.new.self)) c.if-again.ensures
    ∙ sym (ap (any_pair f) (element_more c.loop-row.elements c.next.new.self c.in-Some.ensures.steps)) ∙ c.loop-row.invariant

pub returns : goal.returns
unfolding any_pair
returns c =
    let f = same_element c.args.s.now in
    sym (ap (any_pair f) (element_none c.loop-row.elements c.in_default.ensures.steps.0)) ∙ c.loop-row.invariant
