-- `top` reads the text, collects the entries of the object that it is, and asks the definition's questions of them. The
-- list of names in the source is that of the definition, by computing.
use mathlib.Core.Path.{◌≡◌, ap, sym, subst, ◌∙◌}
use mathlib.Core.Bool.{false}
use mathlib.Core.List.{flatten}
use lib.ListN.{length}
use Rattle.prelude.specs.Ascii.{ascii}
use Rattle.names.specs.Names.{list_of, filled, total}
use Rattle.names.proofs.Laws.{names_of_lem}
use Rattle.rows.specs.Inner.Prints.{collected_table}
use Rattle.grammar.specs.Grammar.{curly}
use Rattle.json_read.specs.Inner.Known.{KnownIn}
use Rattle.prelude.specs.Refusals.{first, stage_of, as_stage}
use Rattle.headers.specs.Headers.{unread, object_order}
use Rattle.headers.proofs.Texts.{no_value}
use Rattle.shape.specs.Shape.{member_names, wrong_top}
use Rattle.shape.specs.Recipients.{top_entries}
use Rattle.shape.specs.Inner.Answers.{top_table}
use Rattle.shape.proofs.Objects.{Entered, object_answer, object_table_lem, entered}
use Rattle.shape.proofs.Objects.{object_refused, object_wrong, object_passed}
use Rattle.shape.proofs.Objects.{top_entries_lem, unread_is, top_unread, top_order_lem, top_kept, top_collected}
use Rattle.shape.proofs.Known.{top_object}
use borrow.Author.Rules.{rules}
use Rattle.prelude.proofs.Exits.{handed_up}
use Rattle.shape.proofs.top.Goals as goal

pub returns-in_default : goal.returns-in_default
returns-in_default c =
    let args = c.args in
    let none = unread_is args.message.now c.judge.result c.judge.ensures
    ∙ ap no_value c.in_default.is in
    record {
      value = top_unread args.message.now _ none;
      table_after = sym (top_kept args.message.now args.table.now none);
    }

pub object-requires : goal.object-requires
unfolding filled total
object-requires c =
    let reads = unread_is (c.args.message.now) c.judge.result c.judge.ensures
    ∙ ap no_value c.in-Some.is in
    let known = top_object (c.args.message.now) reads in
    record {
      s_len_bound = search rules;
      list_value = search rules;
      header_table_in_bounds = search rules;
      given = subst (KnownIn curly 12 (c.args.message.now)) (sym c.skip_space-at.ensures) known;
    }

pub returns-in_err-count : goal.returns-in_err-count
unfolding list_of member_names ascii flatten
returns-in_err-count c =
    let answer : (as_stage c.object.result)
    ≡ stage_of (first (object_order (c.args.message.now) (top_entries (c.args.message.now))))
    (length (top_entries (c.args.message.now))) = object_answer (c.args.message.now) _ _ _
    (top_entries_lem (c.args.message.now) _ (names_of_lem member_names) c.skip_space-at.result.at c.skip_space-at.ensures) _
    c.object.ensures.value in
    let is_read : unread (c.args.message.now) ≡ false = unread_is (c.args.message.now) c.judge.result c.judge.ensures
    ∙ ap no_value c.in-Some.is in
    let left : c.object.new.table
    ≡ collected_table 0 (c.args.message.now) (top_entries (c.args.message.now)) c.args.table.now = object_table_lem _ _ _ c.args.table.now _
    (top_entries_lem (c.args.message.now) _ (names_of_lem member_names) c.skip_space-at.result.at c.skip_space-at.ensures)
    c.object.ensures.table_after in
    let whole : c.object.new.table ≡ top_table (c.args.message.now) c.args.table.now = left ∙ sym (top_collected (c.args.message.now) c.args.table.now (is_read)) in
    let s = c.args.message.now in
    record {
      value = handed_up _ _ c.from_residual.ensures.1 _ c.in_err-count.was
          ∙ object_refused _ _ _ (answer) (wrong_top s (top_entries s)) _ (ap as_stage c.in_err-count.was)
          ∙ top_order_lem s _ (is_read);
      table_after = whole;
    }

pub invariant_of-members : goal.invariant_of-members
unfolding list_of member_names ascii flatten
invariant_of-members c =
    let left : c.object.new.table
    ≡ collected_table 0 (c.args.message.now) (top_entries (c.args.message.now)) c.args.table.now = object_table_lem _ _ _ c.args.table.now _
    (top_entries_lem (c.args.message.now) _ (names_of_lem member_names) c.skip_space-at.result.at c.skip_space-at.ensures)
    c.object.ensures.table_after in
    let answer : (as_stage c.object.result)
    ≡ stage_of (first (object_order (c.args.message.now) (top_entries (c.args.message.now))))
    (length (top_entries (c.args.message.now))) = object_answer (c.args.message.now) _ _ _
    (top_entries_lem (c.args.message.now) _ (names_of_lem member_names) c.skip_space-at.result.at c.skip_space-at.ensures) _
    c.object.ensures.value in
    let holds : Entered (top_entries (c.args.message.now)) c.object.new.table
    c.in_ok-count.count = entered _ _ _ _ (left) c.requires.header_table_in_bounds _ (answer) c.in_ok-count.count
    (ap as_stage c.in_ok-count.was) in
    record { fits = (holds).fits }

pub returns-then-wrong_top : goal.returns-then-wrong_top
unfolding list_of member_names ascii flatten
returns-then-wrong_top c =
    let left : c.object.new.table
    ≡ collected_table 0 (c.args.message.now) (top_entries (c.args.message.now)) c.args.table.now = object_table_lem _ _ _ c.args.table.now _
    (top_entries_lem (c.args.message.now) _ (names_of_lem member_names) c.skip_space-at.result.at c.skip_space-at.ensures)
    c.object.ensures.table_after in
    let answer : (as_stage c.object.result)
    ≡ stage_of (first (object_order (c.args.message.now) (top_entries (c.args.message.now))))
    (length (top_entries (c.args.message.now))) = object_answer (c.args.message.now) _ _ _
    (top_entries_lem (c.args.message.now) _ (names_of_lem member_names) c.skip_space-at.result.at c.skip_space-at.ensures) _
    c.object.ensures.value in
    let holds : Entered (top_entries (c.args.message.now)) c.object.new.table
    c.in_ok-count.count = entered _ _ _ _ (left) c.requires.header_table_in_bounds _ (answer) c.in_ok-count.count
    (ap as_stage c.in_ok-count.was) in
    let is_read : unread (c.args.message.now) ≡ false = unread_is (c.args.message.now) c.judge.result c.judge.ensures
    ∙ ap no_value c.in-Some.is in
    let whole : c.object.new.table ≡ top_table (c.args.message.now) c.args.table.now = left ∙ sym (top_collected (c.args.message.now) c.args.table.now (is_read)) in
    let s = c.args.message.now in
    let wrong = sym (ap (wrong_top s) (holds).entries)
    ∙ sym c.wrong_top.ensures ∙ c.if-wrong_top.true in
    record {
      value = object_wrong _ _ _ (answer) _ c.in_ok-count.count (ap as_stage c.in_ok-count.was) wrong ∙ top_order_lem s _ (is_read);
      table_after = whole;
    }

pub returns : goal.returns
unfolding list_of member_names ascii flatten
returns c =
    let left : c.object.new.table
    ≡ collected_table 0 (c.args.message.now) (top_entries (c.args.message.now)) c.args.table.now = object_table_lem _ _ _ c.args.table.now _
    (top_entries_lem (c.args.message.now) _ (names_of_lem member_names) c.skip_space-at.result.at c.skip_space-at.ensures)
    c.object.ensures.table_after in
    let answer : (as_stage c.object.result)
    ≡ stage_of (first (object_order (c.args.message.now) (top_entries (c.args.message.now))))
    (length (top_entries (c.args.message.now))) = object_answer (c.args.message.now) _ _ _
    (top_entries_lem (c.args.message.now) _ (names_of_lem member_names) c.skip_space-at.result.at c.skip_space-at.ensures) _
    c.object.ensures.value in
    let holds : Entered (top_entries (c.args.message.now)) c.object.new.table
    c.in_ok-count.count = entered _ _ _ _ (left) c.requires.header_table_in_bounds _ (answer) c.in_ok-count.count
    (ap as_stage c.in_ok-count.was) in
    let is_read : unread (c.args.message.now) ≡ false = unread_is (c.args.message.now) c.judge.result c.judge.ensures
    ∙ ap no_value c.in-Some.is in
    let whole : c.object.new.table ≡ top_table (c.args.message.now) c.args.table.now = left ∙ sym (top_collected (c.args.message.now) c.args.table.now (is_read)) in
    let s = c.args.message.now in
    let right = sym (ap (wrong_top s) (holds).entries)
    ∙ sym c.wrong_top.ensures ∙ c.if-wrong_top.false in
    record {
      value = sym (ap as_stage c.in_ok-count.was) ∙ object_passed _ _ _ (answer) _ c.in_ok-count.count (ap as_stage c.in_ok-count.was) right ∙ top_order_lem s _ (is_read);
      table_after = whole;
    }
