-- Those before have a reading; the first without one is found.
use Rattle.std.proofs.Common.{map, ap, sym, ◌∙◌}
use Rattle.prelude.specs.Any.{any}
use Rattle.recipients.specs.declared.bodies.Bodies.{Bodies}
use Rattle.recipients.specs.Inner.Answers.{shown, bodies_left}
use Rattle.recipients.proofs.Left.{shown_left}
use Rattle.json_message.specs.WriteOrder.{unread_within}
use Rattle.json_judge.proofs.Walk.{found_any, passed_any, end_any}
use Rattle.json_judge.proofs.own_unread.Invariants.{faulty}
use Rattle.json_judge.proofs.own_unread.Goals as goal

pub loop-body-init : goal.loop-body-init
loop-body-init c =
    let t = c.args.recipients.now in
    let all = ap (λ (b : Bodies). bodies_left b.table.now b.i) c.into_iter-body-iterator.ensures.into_iter_gives ∙ c.of-body-items.ensures in
    ap (λ bs. any (faulty c.args.levels) (map (shown t) bs)) all ∙ ap (any (faulty c.args.levels)) (shown_left t)

pub returns-then-unread_within : goal.returns-then-unread_within
unfolding shown
returns-then-unread_within c =
    let l = c.args.levels in
    let found = ap (unread_within l) (sym c.part.ensures.octets) ∙ sym c.unread_within.ensures ∙ c.if-unread_within.true in
    found_any (faulty l) c.args.recipients.now _ _ _ c.in-Some.ensures.steps found ∙ c.loop-body.invariant

pub loop-body-preserved : goal.loop-body-preserved
unfolding shown
loop-body-preserved c =
    let l = c.args.levels in
    let passed = ap (unread_within l) (sym c.part.ensures.octets) ∙ sym c.unread_within.ensures ∙ c.if-unread_within.false in
    passed_any (faulty l) c.args.recipients.now _ _ _ c.in-Some.ensures.steps passed ∙ c.loop-body.invariant

pub returns : goal.returns
returns c = end_any (faulty c.args.levels) c.args.recipients.now _ c.in-None.ensures.steps.0 ∙ c.loop-body.invariant
