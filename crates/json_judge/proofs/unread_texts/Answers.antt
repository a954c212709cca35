-- The texts one after the other.
use mathlib.Core.Path.{sym, ◌∙◌}
use Rattle.json_judge.proofs.Orders.{unread_first, unread_second, unread_third}
use Rattle.json_judge.proofs.unread_texts.Goals as goal

pub returns-then-unread_within : goal.returns-then-unread_within
returns-then-unread_within c = unread_first _ _ _ _ _ (sym c.unread_within.ensures ∙ c.if-unread_within.true)

pub returns-then-unread_within-2 : goal.returns-then-unread_within-2
returns-then-unread_within-2 c =
    unread_second _ _ _ _ _ (sym c.unread_within.ensures ∙ c.if-unread_within.false)
    (sym c.unread_within-2.ensures ∙ c.if-unread_within-2.true)

pub returns : goal.returns
returns c =
    c.own_unread.ensures
    ∙ unread_third _ _ _ _ _
    (sym c.unread_within.ensures ∙ c.if-unread_within.false)
    (sym c.unread_within-2.ensures ∙ c.if-unread_within-2.false)
