-- Those before have a member; the first without one is found.
use Rattle.std.proofs.Common.{map, ap, sym, subst, ◌∙◌}
use Rattle.prelude.specs.Any.{any}
use Rattle.recipients.specs.declared.bodies.Bodies.{Bodies}
use Rattle.recipients.specs.Inner.Answers.{shown, bodies_left}
use Rattle.recipients.proofs.Left.{shown_left}
use Rattle.json_message.specs.Inner.PiecesOrder.{hollow_text}
use Rattle.json_judge.specs.Inner.Asked.{Readable, OwnReadable}
use Rattle.json_judge.proofs.Walk.{found_any, passed_any, end_any, every_next}
use Rattle.json_judge.proofs.own_hollow.Invariants.{faulty}
use Rattle.json_judge.proofs.own_hollow.Goals as goal

pub loop-body-init : goal.loop-body-init
loop-body-init c =
    let t = c.args.recipients.now in
    let all = ap (λ (b : Bodies). bodies_left b.table.now b.i) c.into_iter-body-iterator.ensures.into_iter_gives ∙ c.of-body-items.ensures in
    let whole = ap (λ bs. map (shown t) bs) all ∙ shown_left t in
    record {
      same = ap (any faulty) whole;
      readable = subst OwnReadable (sym whole) c.requires.own_readable;
    }

pub hollow_text-requires : goal.hollow_text-requires
unfolding shown
hollow_text-requires c =
    subst Readable (sym c.part.ensures.octets)
    (every_next (λ r. Readable r.header) c.args.recipients.now _ _ _ c.in-Some.ensures.steps c.loop-body.invariant.readable).0

pub returns-then-hollow_text : goal.returns-then-hollow_text
unfolding shown
returns-then-hollow_text c =
    let found = ap hollow_text (sym c.part.ensures.octets) ∙ sym c.hollow_text.ensures ∙ c.if-hollow_text.true in
    found_any faulty c.args.recipients.now _ _ _ c.in-Some.ensures.steps found ∙ c.loop-body.invariant.same

pub loop-body-preserved : goal.loop-body-preserved
unfolding shown
loop-body-preserved c =
    let t = c.args.recipients.now in
    let passed = ap hollow_text (sym c.part.ensures.octets) ∙ sym c.hollow_text.ensures ∙ c.if-hollow_text.false in
    record {
      same = passed_any faulty t _ _ _ c.in-Some.ensures.steps passed ∙ c.loop-body.invariant.same;
      readable = (every_next (λ r. Readable r.header) t _ _ _ c.in-Some.ensures.steps c.loop-body.invariant.readable).1;
    }

pub returns : goal.returns
returns c = end_any faulty c.args.recipients.now _ c.in-None.ensures.steps.0 ∙ c.loop-body.invariant.same
