-- The own entries are collected behind all recipients', and the rules asked of both.
use mathlib.Core.Path.{◌≡◌, ap, sym, ◌∙◌}
use mathlib.Core.List.{List}
use Prim.Native.Nat.{ℕ, ◌+◌, ◌-◌, ◌*◌, ◌≤◌}
use native.Mathlib.Omega.{arith}
use lib.ListN.{length, drop, length-drop}
use lib.Seq.{take_all}
use Rattle.prelude.specs.Refusals.{first, as_stage}
use Rattle.names.specs.Names.{names}
use Rattle.rows.specs.Rows.{Entry, texts}
use Rattle.rows.specs.Tables.{entries_of, width}
use Rattle.rows.proofs.Printing.{printed_at}
use Rattle.jose.specs.HeaderRules.{recipient_order}
use Rattle.jose.specs.Inner.Content.{named_in}
use Rattle.headers.specs.Headers.{object_order}
use Rattle.headers.proofs.Stages.{refused_is}
use Rattle.jwe.specs.Answers.{refused_by}
use Rattle.jwe.proofs.JsonShaped.{Collected}
use Rattle.json_message.specs.Handed.{text_entries}
use Rattle.json_judge.specs.Inner.Faults.{fault_number}
use Rattle.json_judge.proofs.Exits.{exit_judged, err_number}
use Rattle.json_judge.proofs.Stages.{refused_stage}
use Rattle.json_judge.proofs.Tables.{collected, keeps, all_entries, own_entries_lem, all_printed}
use Rattle.json_judge.proofs.judge_recipient.Goals as goal
use Rattle.json_judge.proofs.judge_recipient.Goals.{In_ok-count}

-- What was collected of the own header.
kept : (c : In_ok-count) → let own = c.args.own.now in
    (first (object_order own (text_entries 2 own)) ≡ 0)
    × Collected own (text_entries 2 own) c.args.front c.args.table.now c.text_entries.new.table c.in_ok-count.count
kept c =
    collected c.args.own.now (text_entries 2 c.args.own.now) c.args.front c.args.table.now _ _
    (sym (ap as_stage c.in_ok-count.was) ∙ c.text_entries.ensures.value) c.text_entries.ensures.table_after

pub text_entries-requires : goal.text_entries-requires
text_entries-requires c =
    record {
      readable = c.requires.readable;
      header_table_in_bounds = c.requires.header_table_in_bounds;
    }

pub returns-in_err-count : goal.returns-in_err-count
returns-in_err-count c =
    let own = c.args.own.now in
    let r = refused_is _ _ _ (sym (ap as_stage c.in_err-count.was) ∙ c.text_entries.ensures.value) in
    let object = exit_judged _ _ c.from_residual.ensures.1 in
    record {
      object_value = object ∙ sym r.0;
      rules_value = λ z. absurd (omega (arith, z, object, r.1));
      content_value = λ z. absurd (omega (arith, z, object, r.1));
      table_len_unchanged = keeps _ _ _ _ c.requires.front c.requires.header_table_in_bounds own _ c.text_entries.ensures.table_after;
    }

pub overflow_add-entries : goal.overflow_add-entries
overflow_add-entries c =
    omega (arith, (kept (goal.at.overflow_add-entries c).In_ok-count).1.short, c.requires.header_table_in_bounds)

pub invariant_of-entries : goal.invariant_of-entries
invariant_of-entries c =
    let stays = keeps _ _ _ _ c.requires.front c.requires.header_table_in_bounds c.args.own.now _ c.text_entries.ensures.table_after in
    record {
      fits = omega (arith, (kept (goal.at.invariant_of-entries c).In_ok-count).1.short, c.requires.header_table_in_bounds, stays.0);
    }

pub invariant_of-all : goal.invariant_of-all
invariant_of-all c =
    let printed = all_printed c.args.header.now c.args.shared.now c.args.front c.args.table.now c.requires.front
    c.requires.header_table_in_bounds c.args.own.now _ _ (kept (goal.at.invariant_of-all c).In_ok-count).1 in
    record { printed = λ i below. printed_at _ i _ _ below printed }

pub returns : goal.returns
returns c =
    let has = kept (goal.at.returns c).In_ok-count in
    let h = c.args.header.now in
    let sh = c.args.shared.now in
    let own = c.args.own.now in
    let known = names c.args.known.now in
    let fits = c.requires.header_table_in_bounds in
    let last = c.text_entries.new.table in
    let at = c.args.front * width in
    let all = all_entries h sh c.args.front c.args.table.now c.requires.front fits own _ _ has.1 in
    let its = own_entries_lem h sh c.args.front c.args.table.now c.requires.front fits own _ _ has.1 in
    record {
      object_value = sym has.0;
      rules_value = λ z. ap fault_number c.err-rules.ensures.value ∙ err_number _ ∙ ap refused_by c.judge.ensures ∙ refused_stage _ _
          ∙ ap (λ (es : List Entry). first (recipient_order known (texts h sh own) es c.args.sizes)) all;
      content_value = λ z. c.sole.ensures
          ∙ ap (λ (l : List ℕ). named_in (entries_of c.in_ok-count.count l))
          (take_all (length last - at) (drop at last) (omega (arith, length-drop at last)))
          ∙ ap named_in its;
      table_len_unchanged = keeps h sh c.args.front c.args.table.now c.requires.front fits own _ c.text_entries.ensures.table_after;
    }
