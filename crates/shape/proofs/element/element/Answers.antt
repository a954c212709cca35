-- `element` collects the entries of the element, asks the definition's questions of them, and writes the recipient. The
-- list of names in the source is that of the definition, by computing.
use mathlib.Core.Path.{◌≡◌, refl, ap, sym, ◌∙◌}
use mathlib.Core.List.{List, flatten}
use lib.ListN.{length}
use Rattle.prelude.specs.Ascii.{ascii}
use Rattle.prelude.specs.Buffer.{written}
use Rattle.names.specs.Names.{list_of}
use Rattle.names.proofs.Laws.{names_of_lem}
use Rattle.rows.specs.Rows.{Entry}
use Rattle.prelude.specs.Refusals.{first, stage_of, as_stage}
use Rattle.headers.specs.Headers.{object_order}
use Rattle.shape.specs.Shape.{member_names, wrong_element, recipient_of}
use Rattle.shape.specs.Recipients.{element_entries}
use Rattle.shape.specs.Inner.Answers.{three}
use Rattle.shape.proofs.Objects.{Entered, object_answer, object_table_lem, entered}
use Rattle.shape.proofs.Objects.{object_refused, object_wrong, object_passed, element_entries_lem, element_order_lem, leaves_refused}
use borrow.Author.Rules.{rules}
use Rattle.names.specs.Names.{filled, total}
use Rattle.prelude.proofs.Exits.{handed_up, exit_refused}
use Rattle.shape.proofs.element.element.Goals as goal

pub returns-in_err-count : goal.returns-in_err-count
unfolding list_of member_names ascii flatten
returns-in_err-count c =
    let answer : (as_stage c.object.result) ≡ stage_of (first (object_order c.args.message.now ((element_entries c.args.message.now c.args.at))))
    (length ((element_entries c.args.message.now c.args.at))) = (let args = c.args in
    let message = args.message.now in
    object_answer message _ _ _ (element_entries_lem message args.at _ (names_of_lem member_names)) _ c.object.ensures.value) in
    let args = c.args in
    record {
      value = handed_up _ _ c.from_residual.ensures.1 _ c.in_err-count.was
          ∙ object_refused _ _ _ (answer)
          (wrong_element args.message.now ((element_entries c.args.message.now c.args.at))) _ (ap as_stage c.in_err-count.was)
          ∙ element_order_lem args.message.now args.at _;
      leaves_at = leaves_refused args.to _ args.into.now _ _ (exit_refused _ _ c.from_residual.ensures.1);
    }

pub invariant_of-members : goal.invariant_of-members
unfolding list_of member_names ascii flatten
invariant_of-members c =
    let answer : (as_stage c.object.result) ≡ stage_of (first (object_order c.args.message.now ((element_entries c.args.message.now c.args.at))))
    (length ((element_entries c.args.message.now c.args.at))) = (let args = c.args in
    let message = args.message.now in
    object_answer message _ _ _ (element_entries_lem message args.at _ (names_of_lem member_names)) _ c.object.ensures.value) in
    let holds : Entered ((element_entries c.args.message.now c.args.at)) c.object.new.table
    c.in_ok-count.count = (let args = c.args in
    let message = args.message.now in
    let same = element_entries_lem message args.at _ (names_of_lem member_names) in
    entered message _ _ _ (object_table_lem message _ _ _ _ same c.object.ensures.table_after) (search rules) _
    (answer) c.in_ok-count.count (ap as_stage c.in_ok-count.was)) in
    record { fits = (holds).fits }

pub returns-then-wrong_element : goal.returns-then-wrong_element
unfolding list_of member_names ascii flatten
returns-then-wrong_element c =
    let answer : (as_stage c.object.result) ≡ stage_of (first (object_order c.args.message.now ((element_entries c.args.message.now c.args.at))))
    (length ((element_entries c.args.message.now c.args.at))) = (let args = c.args in
    let message = args.message.now in
    object_answer message _ _ _ (element_entries_lem message args.at _ (names_of_lem member_names)) _ c.object.ensures.value) in
    let holds : Entered ((element_entries c.args.message.now c.args.at)) c.object.new.table
    c.in_ok-count.count = (let args = c.args in
    let message = args.message.now in
    let same = element_entries_lem message args.at _ (names_of_lem member_names) in
    entered message _ _ _ (object_table_lem message _ _ _ _ same c.object.ensures.table_after) (search rules) _
    (answer) c.in_ok-count.count (ap as_stage c.in_ok-count.was)) in
    let args = c.args in
    let wrong = sym (ap (wrong_element args.message.now) (holds).entries)
    ∙ sym c.wrong_element.ensures
    ∙ c.if-wrong_element.true in
    record {
      value = object_wrong _ _ _ (answer) _ c.in_ok-count.count
          (ap as_stage c.in_ok-count.was) wrong ∙ element_order_lem args.message.now args.at _;
      leaves_at = refl;
    }

pub returns : goal.returns
unfolding list_of member_names ascii flatten
returns c =
    let answer : (as_stage c.object.result) ≡ stage_of (first (object_order c.args.message.now ((element_entries c.args.message.now c.args.at))))
    (length ((element_entries c.args.message.now c.args.at))) = (let args = c.args in
    let message = args.message.now in
    object_answer message _ _ _ (element_entries_lem message args.at _ (names_of_lem member_names)) _ c.object.ensures.value) in
    let holds : Entered ((element_entries c.args.message.now c.args.at)) c.object.new.table
    c.in_ok-count.count = (let args = c.args in
    let message = args.message.now in
    let same = element_entries_lem message args.at _ (names_of_lem member_names) in
    entered message _ _ _ (object_table_lem message _ _ _ _ same c.object.ensures.table_after) (search rules) _
    (answer) c.in_ok-count.count (ap as_stage c.in_ok-count.was)) in
    let args = c.args in
    let es = (holds).entries in
    let right = sym (ap (wrong_element args.message.now) es)
    ∙ sym c.wrong_element.ensures
    ∙ c.if-wrong_element.false in
    record {
      value = sym (ap as_stage c.in_ok-count.was)
          ∙ object_passed _ _ _
          (answer) _ c.in_ok-count.count (ap as_stage c.in_ok-count.was) right ∙ element_order_lem args.message.now args.at _;
      leaves_at = c.put.ensures
          ∙ ap (λ (fs : List Entry). written args.to (three (recipient_of fs)) args.into.now) es;
    }

pub object-requires : goal.object-requires
unfolding filled total
object-requires c = search rules
