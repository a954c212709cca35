-- The tests in their order.
use mathlib.Core.Path.{sym, ◌∙◌}
use Rattle.same.proofs.Choices.{first_no, second_no, third}
use Rattle.same.proofs.comparable.Goals as goal

pub returns-then-n-count : goal.returns-then-n-count
returns-then-n-count c =
    first_no _ _ _ (λ e. c.if-n-count.true (c.count-n.ensures ∙ e ∙ sym c.count.ensures))

pub returns-then-not-distinct : goal.returns-then-not-distinct
returns-then-not-distinct c =
    second_no _ _ (sym c.count-n.ensures ∙ c.if-n-count.false ∙ c.count.ensures) _ _ (sym c.distinct.ensures ∙ c.if-not-distinct.true)

pub returns : goal.returns
returns c =
    c.distinct-2.ensures
    ∙ third _ _ (sym c.count-n.ensures ∙ c.if-n-count.false ∙ c.count.ensures) _ _ (sym c.distinct.ensures ∙ c.if-not-distinct.false)
