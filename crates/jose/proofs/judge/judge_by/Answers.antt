-- `judge_by` asks the rules one after the other: the first that is broken from the next one on is the first of all.
use mathlib.Core.Path.{ap, sym, ◌∙◌}
use Rattle.prelude.specs.Refusals.{Refused, number_of}
use Rattle.jose.proofs.Order.{named_kept, named_broken, names_kept, asked_so}
use Rattle.jose.proofs.judge.judge_by.Goals as goal

pub returns-then-breaks : goal.returns-then-breaks
returns-then-breaks c =
    ap (λ r. Refused (number_of r)) c.from.ensures
    ∙ named_broken _ _ _ _ c.args.rules.now c.loop-rule.rule-index c.loop-rule.invariant c.loop-rule-test.true
    (sym c.breaks.ensures ∙ c.if-breaks.true) _
    ∙ asked_so _ _ _ c.args.sizes _ _ _ c.wrong_key-bad_key.ensures c.mode-mode.ensures

pub loop-rule-preserved : goal.loop-rule-preserved
loop-rule-preserved c =
    named_kept _ _ _ _ c.args.rules.now c.loop-rule.rule-index c.loop-rule.invariant c.loop-rule-test.true
    (sym c.breaks.ensures ∙ c.if-breaks.false)

pub returns : goal.returns
returns c =
    names_kept _ _ _ _ c.args.rules.now c.loop-rule.rule-index c.loop-rule.invariant c.loop-rule-test.false _
    ∙ asked_so _ _ _ c.args.sizes _ _ _ c.wrong_key-bad_key.ensures c.mode-mode.ensures
