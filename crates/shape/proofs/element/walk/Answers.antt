-- `walk` goes along the elements: so many are objects, and their starts are written; after the eighth, the rest is
-- asked for one that is no object.
use mathlib.Core.Path.{◌≡◌, ap, sym, ◌∙◌}
use mathlib.Core.Bool.{Bool, not, ◌||◌}
use mathlib.Core.List.{List, ◌∷◌}
use native.Mathlib.Omega.{arith}
use borrow.Author.Tests.{eq-eqb, ne_eqb}
use Rattle.grammar.specs.Places.{Element}
use Rattle.grammar.specs.Reader.{as_element, elements_at}
use Rattle.json_read.specs.Inner.Rows.{elements_left}
use Rattle.json_read.specs.Members.{row_member}
use Rattle.json_read.proofs.RowsLeft.{element_more, element_none}
use Rattle.prelude.specs.Any.{any}
use Rattle.prelude.specs.Refusals.{as_stage}
use Rattle.shape.specs.Shape.{no_object}
use Rattle.shape.proofs.Walking.{walking, refused_10, refused_11, walked_on, over, walked_out}
use Rattle.shape.proofs.element.walk.Goals as goal

-- What is asked of one and of those behind it.
one : {x : Element} {b : Bool} {answer : Bool} (all others : List Element) → any no_object all ≡ answer → all ≡ x ∷ others →
    no_object x ≡ b → (b || any no_object others) ≡ answer
unfolding any
one all others so more t = sym (ap (λ (c : Bool). c || any no_object others) t) ∙ sym (ap (any no_object) more) ∙ so

pub loop-row-init : goal.loop-row-init
loop-row-init c = walking _ _ c.args.starts.now c.elements-elements.ensures.elements c.requires.most_recipients_in_bounds

pub returns-then-row-ne0 : goal.returns-then-row-ne0
returns-then-row-ne0 c =
    let so = c.loop-row.invariant in
    let more = element_more c.loop-row.elements c.next.new.self c.in-Some.ensures.steps in
    record {
      value = refused_10 (elements_at 12 c.args.message.now c.args.at) (one _ _ so.some more (ap not (ne_eqb _ _ c.if-row-ne0.true)));
      leaves = so.same;
    }

pub returns-then-some_no_object : goal.returns-then-some_no_object
returns-then-some_no_object c =
    let so = c.loop-row.invariant in
    let more = element_more c.loop-row.elements c.next.new.self c.in-Some.ensures.steps in
    let rest = one _ _ so.some more (ap not (eq-eqb _ _ c.if-row-ne0.false)) in
    record {
      value =
          refused_10 (elements_at 12 c.args.message.now c.args.at)
          (sym c.if-some_no_object.true ∙ c.some_no_object.ensures ∙ rest);
      leaves = so.same;
    }

pub returns-then-count-eq-MOST_RECIPIENTS : goal.returns-then-count-eq-MOST_RECIPIENTS
returns-then-count-eq-MOST_RECIPIENTS c =
    let so = c.loop-row.invariant in
    let more = element_more c.loop-row.elements c.next.new.self c.in-Some.ensures.steps in
    let rest = one _ _ so.some more (ap not (eq-eqb _ _ c.if-row-ne0.false)) in
    record {
      value =
          refused_11 (elements_at 12 c.args.message.now c.args.at)
          (sym c.if-some_no_object.false ∙ c.some_no_object.ensures ∙ rest)
          (over so _ _ more c.if-count-eq-MOST_RECIPIENTS.true);
      leaves = so.same;
    }

pub bounds-starts-count : goal.bounds-starts-count
bounds-starts-count c =
    let so = c.loop-row.invariant in
    omega (arith, so.few, so.same, so.room, c.if-count-eq-MOST_RECIPIENTS.false)

pub overflow_add-count : goal.overflow_add-count
overflow_add-count c = omega (arith, c.loop-row.invariant.few)

pub loop-row-preserved : goal.loop-row-preserved
loop-row-preserved c =
    let so = c.loop-row.invariant in
    let more = element_more c.loop-row.elements c.next.new.self c.in-Some.ensures.steps in
    walked_on so (as_element (row_member c.in-Some.row)) (elements_left c.next.new.self) more c.if-count-eq-MOST_RECIPIENTS.false
    (one _ _ so.some more (ap not (eq-eqb _ _ c.if-row-ne0.false)))

pub returns : goal.returns
unfolding any
returns c =
    let so = c.loop-row.invariant in
    let none = element_none c.loop-row.elements c.in_default.ensures.steps.0 in
    let both = walked_out so none (as_stage c.counted.result) c.counted.ensures (sym (ap (any no_object) none) ∙ so.some) in
    record { value = both.0; leaves = both.1 }
