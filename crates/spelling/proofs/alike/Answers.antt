-- What is to come from the two cursors is equal exactly where the wholes are.
use mathlib.Core.Path.{ap₂, ◌∙◌}
use Rattle.grammar.specs.Spellings.{equal}
use Rattle.spelling.proofs.Compare.{alike_start}
use Rattle.spelling.proofs.Answering.{differ_given, same_given, none_given}
use Rattle.spelling.proofs.alike.Goals as goal

pub loop-p-init : goal.loop-p-init
loop-p-init c = ap₂ equal c.new-p.ensures c.new-q.ensures ∙ alike_start c.args.a.now c.args.b.now

pub returns-then-ne : goal.returns-then-ne
returns-then-ne c =
    let both = c.past_common in
    differ_given both.new.p c.next-c.new.self both.new.q c.next.new.self c.next-c.result c.next.result c.next-c.ensures c.next.ensures c.if-ne.ensures
    ∙ both.ensures.same ∙ c.loop-p.invariant

pub returns-then-is_none : goal.returns-then-is_none
returns-then-is_none c =
    let both = c.past_common in
    none_given both.new.p c.next-c.new.self both.new.q c.next.new.self c.next-c.result c.next.result c.next-c.ensures c.next.ensures c.if-ne.ensures c.if-is_none.ensures
    ∙ both.ensures.same ∙ c.loop-p.invariant

pub loop-p-preserved : goal.loop-p-preserved
loop-p-preserved c =
    let both = c.past_common in
    same_given both.new.p c.next-c.new.self both.new.q c.next.new.self c.next-c.result c.next.result c.next-c.ensures c.next.ensures c.if-ne.ensures c.if-is_none.ensures
    ∙ both.ensures.same ∙ c.loop-p.invariant
