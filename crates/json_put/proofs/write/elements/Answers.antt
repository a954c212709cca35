-- `elements` writes one element behind the other; those that are left make up all.
use Rattle.std.proofs.Common.{ap, ◌∙◌}
use Rattle.recipients.specs.declared.bodies.Bodies.{Bodies}
use Rattle.recipients.specs.Inner.Answers.{bodies_left}
use Rattle.json_put.specs.Inner.Members.{point}
use Rattle.json_put.proofs.Putting.{next, ◌▸◌}
use Rattle.json_put.proofs.Parts.{texts_parts, texts_next, texts_end}
use Rattle.json_put.proofs.write.elements.Goals as goal

pub loop-body-init : goal.loop-body-init
loop-body-init g c =
    texts_parts g.S.Sink.laws (point c.args.to.now c.args.begun) c.args.message.now.recipients.now _
    (ap (λ (b : Bodies). bodies_left b.table.now b.i) c.into_iter-body-iterator.ensures.into_iter_gives ∙ c.of-body-items.ensures)
    c.requires

pub element-next-requires : goal.element-next-requires
element-next-requires g c = next (texts_next c.args.message.now.recipients.now _ _ _ c.in-Some.ensures.steps c.loop-body.invariant)

pub loop-body-preserved : goal.loop-body-preserved
loop-body-preserved g c =
    texts_next c.args.message.now.recipients.now _ _ _ c.in-Some.ensures.steps c.loop-body.invariant ▸ c.element-next.ensures

pub returns : goal.returns
returns g c = texts_end c.args.message.now.recipients.now _ c.in-None.ensures.steps.0 c.loop-body.invariant
