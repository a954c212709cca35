-- `parameters` hands up the refusal of collecting the parameters; where they pass, the rules on them answer.
use mathlib.Core.Path.{◌≡◌, ap, sym, ◌∙◌}
use mathlib.Core.List.{List}
use Prim.Native.Nat.{ℕ}
use native.Mathlib.Omega.{arith}
use lib.ListN.{length, replicate}
use Rattle.names.specs.Names.{names}
use Rattle.rows.specs.Rows.{Entry, one_text}
use Rattle.rows.specs.Inner.Prints.{collected_table}
use Rattle.rows.proofs.Printing.{stand_in_one, printed_at}
use Rattle.prelude.specs.Refusals.{first, stage_of, as_stage, number_of, Passed}
use Rattle.prelude.proofs.Exits.{handed_up}
use Rattle.prelude.proofs.Refusals.{first_skip}
use Rattle.jose.specs.HeaderRules.{mode_in}
use Rattle.headers.specs.Headers.{protected_entries, object_order}
use Rattle.headers.proofs.Stages.{refused_is, object_nonzero, stopped, refuses}
use Rattle.headers.proofs.Collected.{Kept, kept_passed, kept_printed}
use Rattle.jwe_write.specs.Write.{writer_rules}
use Rattle.jwe_write.proofs.parameters.Goals as goal

-- What the table holds where the parameters pass.
passed_kept : (header after : List ℕ) (count : ℕ) →
    Passed count ≡ stage_of (first (object_order header (protected_entries header))) (length (protected_entries header)) →
    after ≡ collected_table 0 header (protected_entries header) (replicate 256 0) →
    Kept header (protected_entries header) (replicate 256 0) after count
passed_kept header after count told left = kept_passed header (protected_entries header) (replicate 256 0) after count (omega arith) told left

pub returns-in_err-count : goal.returns-in_err-count
returns-in_err-count c =
    let header = c.args.header.now in
    let es = protected_entries header in
    let r = refused_is (number_of c.in_err-count.field-0.0) _ _ (sym (ap as_stage c.in_err-count.was) ∙ c.protected_entries.ensures.value) in
    let all = stopped (object_order header es) _ (object_nonzero header es) (number_of c.in_err-count.field-0.0) r.0 r.1 in
    handed_up _ _ c.from_residual.ensures.1 _ c.in_err-count.was ∙ ap as_stage c.in_err-count.was ∙ refuses _ r.1 ∙ ap (λ (n : ℕ). stage_of n (mode_in (one_text header) es)) (sym all)

pub invariant_of-entries : goal.invariant_of-entries
invariant_of-entries c =
    let collected = c.protected_entries.ensures in
    let kept = passed_kept c.args.header.now _ _ (sym (ap as_stage c.in_ok-count.was) ∙ collected.value) collected.table_after in
    record { fits = kept.fits }

pub invariant_of-only : goal.invariant_of-only
invariant_of-only c =
    let header = c.args.header.now in
    let collected = c.protected_entries.ensures in
    let kept = passed_kept header _ _ (sym (ap as_stage c.in_ok-count.was) ∙ collected.value) collected.table_after in
    let printed = kept_printed (one_text header) kept (stand_in_one header (protected_entries header)) in
    record { printed = λ i below. printed_at _ i _ _ below printed }

pub returns : goal.returns
returns c =
    let header = c.args.header.now in
    let es = protected_entries header in
    let ts = one_text header in
    let collected = c.protected_entries.ensures in
    let kept = passed_kept header _ _ (sym (ap as_stage c.in_ok-count.was) ∙ collected.value) collected.table_after in
    c.judge_protected.ensures
    ∙ ap (λ (es : List Entry). stage_of (first (writer_rules (names c.args.known.now) header es c.args.sizes)) (mode_in ts es)) kept.entries
    ∙ ap (λ (n : ℕ). stage_of n (mode_in ts es))
    (sym (first_skip (object_order header es) _ (object_nonzero header es) kept.passes))
