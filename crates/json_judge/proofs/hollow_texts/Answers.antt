-- The texts one after the other.
use mathlib.Core.Path.{sym, ◌∙◌}
use Rattle.json_judge.proofs.Orders.{hollow_first, hollow_second, hollow_third}
use Rattle.json_judge.proofs.hollow_texts.Goals as goal

pub hollow_text-requires : goal.hollow_text-requires
hollow_text-requires c = c.requires.readable

pub returns-then-hollow_text : goal.returns-then-hollow_text
returns-then-hollow_text c = hollow_first _ _ _ (sym c.hollow_text.ensures ∙ c.if-hollow_text.true)

pub hollow_text-requires-2 : goal.hollow_text-requires-2
hollow_text-requires-2 c = c.requires.readable_2

pub returns-then-hollow_text-2 : goal.returns-then-hollow_text-2
returns-then-hollow_text-2 c =
    hollow_second _ _ _ (sym c.hollow_text.ensures ∙ c.if-hollow_text.false)
    (sym c.hollow_text-2.ensures ∙ c.if-hollow_text-2.true)

pub own_hollow-requires : goal.own_hollow-requires
own_hollow-requires c =
    record {
      recipients_value = c.requires.recipients_value;
      own_readable = c.requires.own_readable;
    }

pub returns : goal.returns
returns c =
    c.own_hollow.ensures
    ∙ hollow_third _ _ _ (sym c.hollow_text.ensures ∙ c.if-hollow_text.false)
    (sym c.hollow_text-2.ensures ∙ c.if-hollow_text-2.false)
