-- `own_headers` has the headers so far beside each other in its table; the refusals from the next one on are those of
-- all.
use Prim.Native.Nat.{ℕ, ◌*◌}
use mathlib.Core.Path.{◌≡◌, refl, ap, sym, subst, ◌∙◌}
use mathlib.Core.List.{List}
use native.Mathlib.Omega.{arith}
use lib.ListN.{length, drop, length-set}
use Rattle.rows.specs.Rows.{Entry}
use Rattle.rows.specs.Inner.Prints.{collected_table}
use Rattle.prelude.specs.Refusals.{first, stage_of, as_stage}
use Rattle.prelude.specs.Limits.{most_members}
use Rattle.headers.specs.Headers.{object_order}
use Rattle.headers.proofs.Stages.{passed_is, refused_is, refuses, passes}
use Rattle.shape.specs.Inner.Answers.{recipient_width}
use Rattle.jwe.specs.General.{own_entries}
use Rattle.jwe.specs.Inner.Stages.{HeaderKnown, recipient_at, LeavesOwn, own_tests}
use Rattle.jwe.proofs.JsonOrder.{object_nonzero}
use Rattle.jwe.proofs.JsonHeaders.{few}
use Rattle.jwe.proofs.RecipientRows.{header_at, one_passes, one_refuses, all_pass}
use Rattle.jwe.proofs.OwnHeaders.{own_none, own_more, own_is}
use Rattle.jwe.proofs.general.own_headers.Invariants.{tests}
use Rattle.prelude.proofs.Exits.{exit_refused}
use Rattle.jwe.proofs.general.own_headers.Goals as goal

pub loop-i-init : goal.loop-i-init
unfolding own_tests
loop-i-init c =
    let args = c.args in (
      omega arith,
      (
        c.requires.own_len,
        (
          c.requires.counts_len,
          (own_none args.message.now args.of.now args.own.now args.counts.now, refl),
        ),
      ),
    )

pub unprotected-requires : goal.unprotected-requires
unprotected-requires c =
    let args = c.args in
    let more = c.loop-i-test.true in
    record {
      message_len_bound = c.requires.message_len_bound;
      header_table_in_bounds = omega (arith, c.loop-i.invariant.1.0, c.requires.number_le_most_recipients, more);
      header_known = header_at (HeaderKnown args.message.now) args.number c.loop-i.i args.of.now
          c.requires.headers_known more;
    }

pub returns-in_err-counts : goal.returns-in_err-counts
returns-in_err-counts c =
    let answered : (let args = c.args in
    let es = own_entries args.message.now (recipient_at (drop (c.loop-i.i * recipient_width) args.of.now)) in
    ((as_stage c.unprotected.result) ≡ stage_of (first (object_order args.message.now es)) (length es))
    × (c.unprotected.new.table
    ≡ collected_table (c.loop-i.i * most_members) args.message.now es
    c.loop-i.own)) = (let args = c.args in
    let message = args.message.now in
    let same = own_is message args.of.now c.loop-i.i in (
      c.unprotected.ensures.value
          ∙ ap (λ (es : List Entry). stage_of (first (object_order message es)) (length es)) same,
      c.unprotected.ensures.table_after
          ∙ ap
          (λ (es : List Entry).
          collected_table (c.loop-i.i * most_members) message es
          c.loop-i.own)
          same,
    )) in
    let args = c.args in
    let message = args.message.now in
    let said = answered in
    let r = recipient_at (drop (c.loop-i.i * recipient_width) args.of.now) in
    let told = refused_is _ (first (tests message r)) (length (own_entries message r)) (sym (ap as_stage c.in_err-counts.was) ∙ said.0) in
    let all = one_refuses (tests message) (λ r. object_nonzero message (own_entries message r)) _ args.number c.loop-i.i
    args.of.now c.loop-i.invariant.1.1.1.1 c.loop-i-test.true told.0 told.1 in
    record {
      value = exit_refused _ _ c.from_residual.ensures.1 ∙ refuses args.number told.1 ∙ ap (λ (n : ℕ). stage_of n args.number) (sym all);
      leaves_own = subst (LeavesOwn args.number message args.of.now _ _) (sym (exit_refused _ _ c.from_residual.ensures.1))
          (omega (arith, c.loop-i.invariant.1.0, c.unprotected.auto), c.loop-i.invariant.1.1.0);
    }

pub loop-i-preserved : goal.loop-i-preserved
loop-i-preserved c =
    let answered : (let args = c.args in
    let es = own_entries args.message.now (recipient_at (drop (c.loop-i.i * recipient_width) args.of.now)) in
    ((as_stage c.unprotected.result) ≡ stage_of (first (object_order args.message.now es)) (length es))
    × (c.unprotected.new.table
    ≡ collected_table (c.loop-i.i * most_members) args.message.now es
    c.loop-i.own)) = (let args = c.args in
    let message = args.message.now in
    let same = own_is message args.of.now c.loop-i.i in (
      c.unprotected.ensures.value
          ∙ ap (λ (es : List Entry). stage_of (first (object_order message es)) (length es)) same,
      c.unprotected.ensures.table_after
          ∙ ap
          (λ (es : List Entry).
          collected_table (c.loop-i.i * most_members) message es
          c.loop-i.own)
          same,
    )) in
    let args = c.args in
    let message = args.message.now in
    let said = answered in
    let r = recipient_at (drop (c.loop-i.i * recipient_width) args.of.now) in
    let told = passed_is _ (first (tests message r)) (length (own_entries message r)) (sym (ap as_stage c.in_ok-counts.was) ∙ said.0) in
    let short = few message (own_entries message r) told.0 in
    let test = c.loop-i-test.true in (
      omega arith,
      (
        omega (arith, c.loop-i.invariant.1.0, c.unprotected.auto),
        (
          length-set c.loop-i.counts c.loop-i.i _ ∙ c.loop-i.invariant.1.1.0,
          (
            own_more message args.of.now c.loop-i.i _ c.loop-i.own c.loop-i.counts _ (omega arith) c.loop-i.invariant.1.0
                c.loop-i.invariant.1.1.0 told.1 (omega (arith, told.1, short)) said.1 c.loop-i.invariant.1.1.1.0,
            one_passes (tests message) (λ r. object_nonzero message (own_entries message r)) _ args.number c.loop-i.i
                args.of.now c.loop-i.invariant.1.1.1.1 test told.0,
          ),
        ),
      ),
    )

pub returns : goal.returns
returns c =
    let args = c.args in
    let message = args.message.now in
    let left = c.loop-i-test.false in
    let all = all_pass (tests message) (λ r. object_nonzero message (own_entries message r)) _ args.number c.loop-i.i
    args.of.now c.loop-i.invariant.1.1.1.1 left in
    record {
      value = passes all;
      leaves_own = λ k l. c.loop-i.invariant.1.1.1.0 k (omega (arith, l, left));
    }
