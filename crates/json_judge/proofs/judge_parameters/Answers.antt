-- The protected header, the shared one, the recipients: each stage hands up its refusal.
use mathlib.Core.Path.{◌≡◌, ap, sym, ◌∙◌, ap, sym}
use Prim.Native.Nat.{ℕ}
use native.Mathlib.Omega.{arith}
use lib.ListN.{length, replicate}
use Rattle.prelude.specs.Refusals.{first, stage_of, as_stage, number_of}
use Rattle.prelude.proofs.Refusals.{first_skip}
use Rattle.headers.specs.Headers.{protected_entries, object_order}
use Rattle.headers.proofs.Stages.{refused_is, object_nonzero, stopped, refuses}
use Rattle.jwe.proofs.JsonShaped.{Collected}
use Rattle.json_message.specs.Handed.{text_entries}
use Rattle.json_judge.specs.Inner.Asked.{parameters_tests}
use Rattle.json_judge.proofs.Tables.{collected, collected_length, front_is}
use Rattle.prelude.proofs.Exits.{exit_refused, exit_refused}
use Rattle.json_judge.proofs.judge_parameters.Goals as goal

pub returns-in_err-p : goal.returns-in_err-p
unfolding parameters_tests
returns-in_err-p c =
    let r = refused_is (number_of c.in_err-p.field-0.0) _ _ (sym (ap as_stage c.in_err-p.was) ∙ c.protected_entries.ensures.value) in
    let all = stopped (object_order c.args.header.now (protected_entries c.args.header.now)) _
    (object_nonzero c.args.header.now _) (number_of c.in_err-p.field-0.0) r.0 r.1 in
    exit_refused _ _ c.from_residual.ensures.1 ∙ refuses _ r.1 ∙ ap (λ (m : ℕ). stage_of m c.args.n) (sym all)

pub text_entries-requires : goal.text_entries-requires
text_entries-requires c =
    let long : length c.protected_entries.new.table ≡ 768 = ap length c.protected_entries.ensures.table_after
    ∙ collected_length 0 c.args.header.now (protected_entries c.args.header.now) (replicate 768 0) (omega arith) in
    let kept : (let header = c.args.header.now in
    (first (object_order header (protected_entries header)) ≡ 0)
    × Collected header (protected_entries header) 0 (replicate 768 0) c.protected_entries.new.table
    c.in_ok-p.p) = collected c.args.header.now (protected_entries c.args.header.now) 0 (replicate 768 0) _ _
    (sym (ap as_stage c.in_ok-p.was) ∙ c.protected_entries.ensures.value) c.protected_entries.ensures.table_after in
    record {
      readable = c.requires.readable;
      header_table_in_bounds = omega (arith, long, (kept).1.short);
    }

pub returns-in_err-s : goal.returns-in_err-s
unfolding parameters_tests
returns-in_err-s c =
    let kept : (let header = c.args.header.now in
    (first (object_order header (protected_entries header)) ≡ 0)
    × Collected header (protected_entries header) 0 (replicate 768 0) c.protected_entries.new.table
    c.in_ok-p.p) = collected c.args.header.now (protected_entries c.args.header.now) 0 (replicate 768 0) _ _
    (sym (ap as_stage c.in_ok-p.was) ∙ c.protected_entries.ensures.value) c.protected_entries.ensures.table_after in
    let r = refused_is (number_of c.in_err-s.field-0.0) _ _ (sym (ap as_stage c.in_err-s.was) ∙ c.text_entries.ensures.value) in
    let all = stopped (object_order c.args.shared.now (text_entries 1 c.args.shared.now)) _
    (object_nonzero c.args.shared.now _) (number_of c.in_err-s.field-0.0) r.0 r.1 in
    let whole = first_skip (object_order c.args.header.now (protected_entries c.args.header.now)) _
    (object_nonzero c.args.header.now _) (kept).0 in
    exit_refused _ _ c.from_residual-in_err-s.ensures.1 ∙ refuses _ r.1 ∙ ap (λ (m : ℕ). stage_of m c.args.n) (sym (whole ∙ all))

pub overflow_add-p : goal.overflow_add-p
overflow_add-p c =
    let kept2 : (first (object_order c.args.shared.now (text_entries 1 c.args.shared.now)) ≡ 0)
    × Collected c.args.shared.now (text_entries 1 c.args.shared.now) c.in_ok-p.p
    c.protected_entries.new.table c.text_entries.new.table c.in_ok-s.s = collected c.args.shared.now (text_entries 1 c.args.shared.now) _ _ _ _
    (sym (ap as_stage c.in_ok-s.was) ∙ c.text_entries.ensures.value) c.text_entries.ensures.table_after in
    let kept : (let header = c.args.header.now in
    (first (object_order header (protected_entries header)) ≡ 0)
    × Collected header (protected_entries header) 0 (replicate 768 0) c.protected_entries.new.table
    c.in_ok-p.p) = collected c.args.header.now (protected_entries c.args.header.now) 0 (replicate 768 0) _ _
    (sym (ap as_stage c.in_ok-p.was) ∙ c.protected_entries.ensures.value) c.protected_entries.ensures.table_after in
    omega (arith, (kept2).1.short, (kept).1.short)

pub judge_recipients-requires : goal.judge_recipients-requires
judge_recipients-requires c =
    let kept : (let header = c.args.header.now in
    (first (object_order header (protected_entries header)) ≡ 0)
    × Collected header (protected_entries header) 0 (replicate 768 0) c.protected_entries.new.table
    c.in_ok-p.p) = collected c.args.header.now (protected_entries c.args.header.now) 0 (replicate 768 0) _ _
    (sym (ap as_stage c.in_ok-p.was) ∙ c.protected_entries.ensures.value) c.protected_entries.ensures.table_after in
    let kept2 : (first (object_order c.args.shared.now (text_entries 1 c.args.shared.now)) ≡ 0)
    × Collected c.args.shared.now (text_entries 1 c.args.shared.now) c.in_ok-p.p
    c.protected_entries.new.table c.text_entries.new.table c.in_ok-s.s = collected c.args.shared.now (text_entries 1 c.args.shared.now) _ _ _ _
    (sym (ap as_stage c.in_ok-s.was) ∙ c.text_entries.ensures.value) c.text_entries.ensures.table_after in
    let long : length c.protected_entries.new.table ≡ 768 = ap length c.protected_entries.ensures.table_after
    ∙ collected_length 0 c.args.header.now (protected_entries c.args.header.now) (replicate 768 0) (omega arith) in
    let few = (kept).1.short in
    let more = (kept2).1.short in
    let same = ap length c.text_entries.ensures.table_after
    ∙ collected_length _ c.args.shared.now (text_entries 1 c.args.shared.now) _ (omega (arith, long, few)) in
    record {
      known_value = c.requires.known_value;
      recipients_value = c.requires.recipients_value;
      n_value = c.requires.n_value;
      own_readable = c.requires.own_readable;
      header_table_in_bounds = omega (arith, same, long, few, more);
      front = front_is (kept).1 (kept2).1 (long);
    }

pub returns : goal.returns
unfolding parameters_tests
returns c =
    let kept : (let header = c.args.header.now in
    (first (object_order header (protected_entries header)) ≡ 0)
    × Collected header (protected_entries header) 0 (replicate 768 0) c.protected_entries.new.table
    c.in_ok-p.p) = collected c.args.header.now (protected_entries c.args.header.now) 0 (replicate 768 0) _ _
    (sym (ap as_stage c.in_ok-p.was) ∙ c.protected_entries.ensures.value) c.protected_entries.ensures.table_after in
    let kept2 : (first (object_order c.args.shared.now (text_entries 1 c.args.shared.now)) ≡ 0)
    × Collected c.args.shared.now (text_entries 1 c.args.shared.now) c.in_ok-p.p
    c.protected_entries.new.table c.text_entries.new.table c.in_ok-s.s = collected c.args.shared.now (text_entries 1 c.args.shared.now) _ _ _ _
    (sym (ap as_stage c.in_ok-s.was) ∙ c.text_entries.ensures.value) c.text_entries.ensures.table_after in
    let h = c.args.header.now in
    let sh = c.args.shared.now in
    let whole = first_skip (object_order h (protected_entries h)) _ (object_nonzero h _) (kept).0 in
    let later = first_skip (object_order sh (text_entries 1 sh)) _ (object_nonzero sh _) (kept2).0 in
    c.judge_recipients.ensures.value ∙ ap (λ (m : ℕ). stage_of m c.args.n) (sym (whole ∙ later))
