-- `shaped` hands up the refusals of the headers and of the recipients in their order; where all pass, the table begins with the entries of
-- the protected and the shared header, and judging the recipients keeps them there.
use mathlib.Core.Path.{◌≡◌, refl, ap, ap₂, sym, subst, ◌∙◌}
use mathlib.Core.List.{List, ◌++◌}
use Prim.Native.Nat.{ℕ, ◌+◌, ◌≤◌}
use native.Mathlib.Omega.{arith}
use lib.ListN.{length}
use lib.Seq.{length-take-le}
use Rattle.names.specs.Names.{names}
use Rattle.rows.specs.Rows.{Entry, read_texts}
use Rattle.rows.specs.Inner.Prints.{Printed}
use Rattle.rows.specs.Tables.{entries_of}
use Rattle.prelude.specs.Refusals.{first, stage_of, as_stage}
use Rattle.headers.specs.Headers.{protected_entries, object_order}
use Rattle.headers.proofs.Stages.{passed_is, refused_is}
use Rattle.shape.specs.Inner.Answers.{top_in}
use Rattle.jwe.specs.General.{shared_entries, json_later}
use Rattle.jwe.specs.Inner.Stages.{recipients_of, LeavesOwn, text_tests, protected_tests, all_tests, headed_order}
use Rattle.jwe.proofs.RecipientRows.{recipients_length}
use Rattle.jwe.proofs.JsonHeads.{heads_all, heads_one}
use Rattle.jwe.proofs.JsonShaped.{Begun, begun, Collected, protected_as, protected_collected, shared_collected}
use Rattle.jwe.proofs.JsonShaped.{text, behind, front_printed, shaped_text, shaped_protected, shaped_shared}
use Rattle.jwe.proofs.JsonShaped.{shaped_rest}
use Rattle.jwe.proofs.HeldTables.{holds_handed, shares}
use Rattle.jwe.proofs.Exits.{hands_up_holding}
use Rattle.jwe.proofs.general.shaped.Goals as goal

pub decoded-requires : goal.decoded-requires
decoded-requires c =
    record {
      place_value = c.requires.top_value;
      place_value_2 = c.requires.top_value_2;
      text_len = c.requires.text_len;
    }

pub returns-in_err-h : goal.returns-in_err-h
returns-in_err-h c =
    let refusal = (ap as_stage c.in_err-h.was) in
    let told = refused_is _ (first (text_tests ((top_in c.args.top)).protected ((text (c.args.message.now) ((top_in c.args.top)))))) (length ((text (c.args.message.now) ((top_in c.args.top)))))
    (sym refusal ∙ c.decoded.ensures.value) in
    holds_handed (c.args.message.now) _ _ _
    (shaped_text (names c.args.known.now) (c.args.message.now) ((top_in c.args.top)) ((recipients_of c.args.number c.args.of.now)) 0 told.0 told.1) told.1 _ _ _ _ _ _ (hands_up_holding _ _ c.in_err-h.was _ c.from_residual.ensures.1) refusal

pub slice_bounds-protected-end : goal.slice_bounds-protected-end
slice_bounds-protected-end c =
    let decodes : (first (text_tests ((top_in c.args.top)).protected ((text (c.args.message.now) ((top_in c.args.top))))) ≡ 0)
    × Begun ((text (c.args.message.now) ((top_in c.args.top)))) c.args.text.now c.decoded.new.text c.in_ok-h.h = (let answer = sym (ap as_stage c.in_ok-h.was) ∙ c.decoded.ensures.value in (
      (passed_is _ (first (text_tests ((top_in c.args.top)).protected ((text (c.args.message.now) ((top_in c.args.top)))))) (length ((text (c.args.message.now) ((top_in c.args.top))))) answer).0,
      begun (c.args.message.now) ((top_in c.args.top)) c.requires.top_value_2 c.args.text.now _ _ answer c.decoded.ensures.text_after c.requires.text_len,
    )) in
    (decodes).1.fits

pub slice_bounds-protected-end-2 : goal.slice_bounds-protected-end-2
slice_bounds-protected-end-2 c =
    let decodes : (first (text_tests ((top_in c.args.top)).protected ((text (c.args.message.now) ((top_in c.args.top))))) ≡ 0)
    × Begun ((text (c.args.message.now) ((top_in c.args.top)))) c.args.text.now c.decoded.new.text c.in_ok-h.h = (let answer = sym (ap as_stage c.in_ok-h.was) ∙ c.decoded.ensures.value in (
      (passed_is _ (first (text_tests ((top_in c.args.top)).protected ((text (c.args.message.now) ((top_in c.args.top)))))) (length ((text (c.args.message.now) ((top_in c.args.top))))) answer).0,
      begun (c.args.message.now) ((top_in c.args.top)) c.requires.top_value_2 c.args.text.now _ _ answer c.decoded.ensures.text_after c.requires.text_len,
    )) in
    sym (length-take-le _ _ (decodes).1.fits)

pub protected-requires : goal.protected-requires
protected-requires c =
    let decodes : (first (text_tests ((top_in c.args.top)).protected ((text (c.args.message.now) ((top_in c.args.top))))) ≡ 0)
    × Begun ((text (c.args.message.now) ((top_in c.args.top)))) c.args.text.now c.decoded.new.text c.in_ok-h.h = (let answer = sym (ap as_stage c.in_ok-h.was) ∙ c.decoded.ensures.value in (
      (passed_is _ (first (text_tests ((top_in c.args.top)).protected ((text (c.args.message.now) ((top_in c.args.top)))))) (length ((text (c.args.message.now) ((top_in c.args.top))))) answer).0,
      begun (c.args.message.now) ((top_in c.args.top)) c.requires.top_value_2 c.args.text.now _ _ answer c.decoded.ensures.text_after c.requires.text_len,
    )) in
    let b = (decodes).1 in
    record {
      header_len_bound = omega (arith, ap length b.front, b.small);
      header_table_in_bounds = omega (arith, c.requires.table_len);
    }

pub shape_of-text-in_err-p : goal.shape_of-text-in_err-p
shape_of-text-in_err-p c =
    let decodes : (first (text_tests ((top_in c.args.top)).protected ((text (c.args.message.now) ((top_in c.args.top))))) ≡ 0)
    × Begun ((text (c.args.message.now) ((top_in c.args.top)))) c.args.text.now c.decoded.new.text c.in_ok-h.h = (let answer = sym (ap as_stage c.in_ok-h.was) ∙ c.decoded.ensures.value in (
      (passed_is _ (first (text_tests ((top_in c.args.top)).protected ((text (c.args.message.now) ((top_in c.args.top)))))) (length ((text (c.args.message.now) ((top_in c.args.top))))) answer).0,
      begun (c.args.message.now) ((top_in c.args.top)) c.requires.top_value_2 c.args.text.now _ _ answer c.decoded.ensures.text_after c.requires.text_len,
    )) in
    (decodes).1.long ∙ sym c.requires.text_len

pub returns-in_err-p : goal.returns-in_err-p
returns-in_err-p c =
    let decodes : (first (text_tests ((top_in c.args.top)).protected ((text (c.args.message.now) ((top_in c.args.top))))) ≡ 0)
    × Begun ((text (c.args.message.now) ((top_in c.args.top)))) c.args.text.now c.decoded.new.text c.in_ok-h.h = (let answer = sym (ap as_stage c.in_ok-h.was) ∙ c.decoded.ensures.value in (
      (passed_is _ (first (text_tests ((top_in c.args.top)).protected ((text (c.args.message.now) ((top_in c.args.top)))))) (length ((text (c.args.message.now) ((top_in c.args.top))))) answer).0,
      begun (c.args.message.now) ((top_in c.args.top)) c.requires.top_value_2 c.args.text.now _ _ answer c.decoded.ensures.text_after c.requires.text_len,
    )) in
    let text_is = decodes in
    let refusal = (ap as_stage c.in_err-p.was) in
    let told = refused_is _ (first (protected_tests ((top_in c.args.top)).protected ((text (c.args.message.now) ((top_in c.args.top)))))) (length (protected_entries ((text (c.args.message.now) ((top_in c.args.top))))))
    (sym refusal ∙ c.protected.ensures.value
    ∙ protected_as ((text (c.args.message.now) ((top_in c.args.top)))) ((top_in c.args.top)).protected _ _ text_is.1.front refl) in
    holds_handed (c.args.message.now) _ _ _
    (shaped_protected (names c.args.known.now) (c.args.message.now) ((top_in c.args.top)) ((recipients_of c.args.number c.args.of.now)) 0 text_is.0 told.0 told.1) told.1
    _ _ _ _ _ _ (hands_up_holding _ _ c.in_err-p.was _ c.from_residual-in_err-p.ensures.1) refusal

pub unprotected-requires : goal.unprotected-requires
unprotected-requires c =
    let decodes : (first (text_tests ((top_in c.args.top)).protected ((text (c.args.message.now) ((top_in c.args.top))))) ≡ 0)
    × Begun ((text (c.args.message.now) ((top_in c.args.top)))) c.args.text.now c.decoded.new.text c.in_ok-h.h = (let answer = sym (ap as_stage c.in_ok-h.was) ∙ c.decoded.ensures.value in (
      (passed_is _ (first (text_tests ((top_in c.args.top)).protected ((text (c.args.message.now) ((top_in c.args.top)))))) (length ((text (c.args.message.now) ((top_in c.args.top))))) answer).0,
      begun (c.args.message.now) ((top_in c.args.top)) c.requires.top_value_2 c.args.text.now _ _ answer c.decoded.ensures.text_after c.requires.text_len,
    )) in
    let collects : (first (protected_tests ((top_in c.args.top)).protected ((text (c.args.message.now) ((top_in c.args.top))))) ≡ 0)
    × Collected ((text (c.args.message.now) ((top_in c.args.top)))) (protected_entries ((text (c.args.message.now) ((top_in c.args.top))))) 0 c.args.table.now
    c.protected.new.table c.in_ok-p.p = protected_collected ((text (c.args.message.now) ((top_in c.args.top)))) ((top_in c.args.top)).protected _ _ (decodes).1.front refl _ _ _
    (sym (ap as_stage c.in_ok-p.was) ∙ c.protected.ensures.value) c.protected.ensures.table_after in
    let collected-long : length c.protected.new.table ≡ 768 = c.protected.auto.table ∙ c.requires.table_len in
    let has = (collects).1 in
    record {
      message_len_bound = c.requires.message_len_bound;
      header_table_in_bounds = omega (arith, has.short, collected-long);
      header_known = c.requires.header_known;
    }

pub shape_of-text-in_err-s : goal.shape_of-text-in_err-s
shape_of-text-in_err-s c =
    let decodes : (first (text_tests ((top_in c.args.top)).protected ((text (c.args.message.now) ((top_in c.args.top))))) ≡ 0)
    × Begun ((text (c.args.message.now) ((top_in c.args.top)))) c.args.text.now c.decoded.new.text c.in_ok-h.h = (let answer = sym (ap as_stage c.in_ok-h.was) ∙ c.decoded.ensures.value in (
      (passed_is _ (first (text_tests ((top_in c.args.top)).protected ((text (c.args.message.now) ((top_in c.args.top)))))) (length ((text (c.args.message.now) ((top_in c.args.top))))) answer).0,
      begun (c.args.message.now) ((top_in c.args.top)) c.requires.top_value_2 c.args.text.now _ _ answer c.decoded.ensures.text_after c.requires.text_len,
    )) in
    (decodes).1.long ∙ sym c.requires.text_len

pub returns-in_err-s : goal.returns-in_err-s
unfolding shared_entries
returns-in_err-s c =
    let decodes : (first (text_tests ((top_in c.args.top)).protected ((text (c.args.message.now) ((top_in c.args.top))))) ≡ 0)
    × Begun ((text (c.args.message.now) ((top_in c.args.top)))) c.args.text.now c.decoded.new.text c.in_ok-h.h = (let answer = sym (ap as_stage c.in_ok-h.was) ∙ c.decoded.ensures.value in (
      (passed_is _ (first (text_tests ((top_in c.args.top)).protected ((text (c.args.message.now) ((top_in c.args.top)))))) (length ((text (c.args.message.now) ((top_in c.args.top))))) answer).0,
      begun (c.args.message.now) ((top_in c.args.top)) c.requires.top_value_2 c.args.text.now _ _ answer c.decoded.ensures.text_after c.requires.text_len,
    )) in
    let collects : (first (protected_tests ((top_in c.args.top)).protected ((text (c.args.message.now) ((top_in c.args.top))))) ≡ 0)
    × Collected ((text (c.args.message.now) ((top_in c.args.top)))) (protected_entries ((text (c.args.message.now) ((top_in c.args.top))))) 0 c.args.table.now
    c.protected.new.table c.in_ok-p.p = protected_collected ((text (c.args.message.now) ((top_in c.args.top)))) ((top_in c.args.top)).protected _ _ (decodes).1.front refl _ _ _
    (sym (ap as_stage c.in_ok-p.was) ∙ c.protected.ensures.value) c.protected.ensures.table_after in
    let entries = shared_entries (c.args.message.now) ((top_in c.args.top)) in
    let refusal = (ap as_stage c.in_err-s.was) in
    let told = refused_is _ (first (object_order (c.args.message.now) entries)) (length entries)
    (sym refusal ∙ c.unprotected.ensures.value) in
    holds_handed (c.args.message.now) _ _ _
    (shaped_shared (names c.args.known.now) (c.args.message.now) ((top_in c.args.top)) ((recipients_of c.args.number c.args.of.now)) 0 (decodes).0 (collects).0 told.0
    told.1) told.1
    _ _ _ _ _ _ (hands_up_holding _ _ c.in_err-s.was _ c.from_residual-in_err-s.ensures.1) refusal

pub slice_bounds-judged-end : goal.slice_bounds-judged-end
slice_bounds-judged-end c =
    let decodes : (first (text_tests ((top_in c.args.top)).protected ((text (c.args.message.now) ((top_in c.args.top))))) ≡ 0)
    × Begun ((text (c.args.message.now) ((top_in c.args.top)))) c.args.text.now c.decoded.new.text c.in_ok-h.h = (let answer = sym (ap as_stage c.in_ok-h.was) ∙ c.decoded.ensures.value in (
      (passed_is _ (first (text_tests ((top_in c.args.top)).protected ((text (c.args.message.now) ((top_in c.args.top)))))) (length ((text (c.args.message.now) ((top_in c.args.top))))) answer).0,
      begun (c.args.message.now) ((top_in c.args.top)) c.requires.top_value_2 c.args.text.now _ _ answer c.decoded.ensures.text_after c.requires.text_len,
    )) in
    (decodes).1.fits

pub slice_bounds-judged-end-2 : goal.slice_bounds-judged-end-2
slice_bounds-judged-end-2 c =
    let decodes : (first (text_tests ((top_in c.args.top)).protected ((text (c.args.message.now) ((top_in c.args.top))))) ≡ 0)
    × Begun ((text (c.args.message.now) ((top_in c.args.top)))) c.args.text.now c.decoded.new.text c.in_ok-h.h = (let answer = sym (ap as_stage c.in_ok-h.was) ∙ c.decoded.ensures.value in (
      (passed_is _ (first (text_tests ((top_in c.args.top)).protected ((text (c.args.message.now) ((top_in c.args.top)))))) (length ((text (c.args.message.now) ((top_in c.args.top))))) answer).0,
      begun (c.args.message.now) ((top_in c.args.top)) c.requires.top_value_2 c.args.text.now _ _ answer c.decoded.ensures.text_after c.requires.text_len,
    )) in
    sym (length-take-le _ _ (decodes).1.fits)

pub overflow_add-p : goal.overflow_add-p
overflow_add-p c =
    let decodes : (first (text_tests ((top_in c.args.top)).protected ((text (c.args.message.now) ((top_in c.args.top))))) ≡ 0)
    × Begun ((text (c.args.message.now) ((top_in c.args.top)))) c.args.text.now c.decoded.new.text c.in_ok-h.h = (let answer = sym (ap as_stage c.in_ok-h.was) ∙ c.decoded.ensures.value in (
      (passed_is _ (first (text_tests ((top_in c.args.top)).protected ((text (c.args.message.now) ((top_in c.args.top)))))) (length ((text (c.args.message.now) ((top_in c.args.top))))) answer).0,
      begun (c.args.message.now) ((top_in c.args.top)) c.requires.top_value_2 c.args.text.now _ _ answer c.decoded.ensures.text_after c.requires.text_len,
    )) in
    let collects : (first (protected_tests ((top_in c.args.top)).protected ((text (c.args.message.now) ((top_in c.args.top))))) ≡ 0)
    × Collected ((text (c.args.message.now) ((top_in c.args.top)))) (protected_entries ((text (c.args.message.now) ((top_in c.args.top))))) 0 c.args.table.now
    c.protected.new.table c.in_ok-p.p = protected_collected ((text (c.args.message.now) ((top_in c.args.top)))) ((top_in c.args.top)).protected _ _ (decodes).1.front refl _ _ _
    (sym (ap as_stage c.in_ok-p.was) ∙ c.protected.ensures.value) c.protected.ensures.table_after in
    let collected-long : length c.protected.new.table ≡ 768 = c.protected.auto.table ∙ c.requires.table_len in
    let gathers : (let n = c.in_ok-p.p + c.in_ok-s.s in
    let last = c.unprotected.new.table in
    (first (object_order (c.args.message.now) (shared_entries (c.args.message.now) ((top_in c.args.top)))) ≡ 0)
    × ((n ≤ 64)
    × ((length last ≡ 768)
    × ((entries_of n last ≡ protected_entries ((text (c.args.message.now) ((top_in c.args.top)))) ++ shared_entries (c.args.message.now) ((top_in c.args.top)))
    × Printed (read_texts ((text (c.args.message.now) ((top_in c.args.top)))) (c.args.message.now)) n last)))) = (let own = collects in
    let shared = shared_collected (c.args.message.now) ((top_in c.args.top)) _ _ _ _
    (sym (ap as_stage c.in_ok-s.was) ∙ c.unprotected.ensures.value) c.unprotected.ensures.table_after in
    let long = collected-long in (
      shared.0,
      (
        omega (arith, own.1.short, shared.1.short),
        (
          c.unprotected.auto.table ∙ long,
          (behind own.1 shared.1 long, front_printed ((top_in c.args.top)) own.1 shared.1 long),
        ),
      ),
    )) in
    let has = gathers in omega (arith, has.1.0)

pub overflow_add-result : goal.overflow_add-result
overflow_add-result c =
    let decodes : (first (text_tests ((top_in c.args.top)).protected ((text (c.args.message.now) ((top_in c.args.top))))) ≡ 0)
    × Begun ((text (c.args.message.now) ((top_in c.args.top)))) c.args.text.now c.decoded.new.text c.in_ok-h.h = (let answer = sym (ap as_stage c.in_ok-h.was) ∙ c.decoded.ensures.value in (
      (passed_is _ (first (text_tests ((top_in c.args.top)).protected ((text (c.args.message.now) ((top_in c.args.top)))))) (length ((text (c.args.message.now) ((top_in c.args.top))))) answer).0,
      begun (c.args.message.now) ((top_in c.args.top)) c.requires.top_value_2 c.args.text.now _ _ answer c.decoded.ensures.text_after c.requires.text_len,
    )) in
    let collects : (first (protected_tests ((top_in c.args.top)).protected ((text (c.args.message.now) ((top_in c.args.top))))) ≡ 0)
    × Collected ((text (c.args.message.now) ((top_in c.args.top)))) (protected_entries ((text (c.args.message.now) ((top_in c.args.top))))) 0 c.args.table.now
    c.protected.new.table c.in_ok-p.p = protected_collected ((text (c.args.message.now) ((top_in c.args.top)))) ((top_in c.args.top)).protected _ _ (decodes).1.front refl _ _ _
    (sym (ap as_stage c.in_ok-p.was) ∙ c.protected.ensures.value) c.protected.ensures.table_after in
    let collected-long : length c.protected.new.table ≡ 768 = c.protected.auto.table ∙ c.requires.table_len in
    let gathers : (let n = c.in_ok-p.p + c.in_ok-s.s in
    let last = c.unprotected.new.table in
    (first (object_order (c.args.message.now) (shared_entries (c.args.message.now) ((top_in c.args.top)))) ≡ 0)
    × ((n ≤ 64)
    × ((length last ≡ 768)
    × ((entries_of n last ≡ protected_entries ((text (c.args.message.now) ((top_in c.args.top)))) ++ shared_entries (c.args.message.now) ((top_in c.args.top)))
    × Printed (read_texts ((text (c.args.message.now) ((top_in c.args.top)))) (c.args.message.now)) n last)))) = (let own = collects in
    let shared = shared_collected (c.args.message.now) ((top_in c.args.top)) _ _ _ _
    (sym (ap as_stage c.in_ok-s.was) ∙ c.unprotected.ensures.value) c.unprotected.ensures.table_after in
    let long = collected-long in (
      shared.0,
      (
        omega (arith, own.1.short, shared.1.short),
        (
          c.unprotected.auto.table ∙ long,
          (behind own.1 shared.1 long, front_printed ((top_in c.args.top)) own.1 shared.1 long),
        ),
      ),
    )) in
    let has = gathers in omega (arith, has.1.0)

pub judged-requires : goal.judged-requires
judged-requires c =
    let decodes : (first (text_tests ((top_in c.args.top)).protected ((text (c.args.message.now) ((top_in c.args.top))))) ≡ 0)
    × Begun ((text (c.args.message.now) ((top_in c.args.top)))) c.args.text.now c.decoded.new.text c.in_ok-h.h = (let answer = sym (ap as_stage c.in_ok-h.was) ∙ c.decoded.ensures.value in (
      (passed_is _ (first (text_tests ((top_in c.args.top)).protected ((text (c.args.message.now) ((top_in c.args.top)))))) (length ((text (c.args.message.now) ((top_in c.args.top))))) answer).0,
      begun (c.args.message.now) ((top_in c.args.top)) c.requires.top_value_2 c.args.text.now _ _ answer c.decoded.ensures.text_after c.requires.text_len,
    )) in
    let collects : (first (protected_tests ((top_in c.args.top)).protected ((text (c.args.message.now) ((top_in c.args.top))))) ≡ 0)
    × Collected ((text (c.args.message.now) ((top_in c.args.top)))) (protected_entries ((text (c.args.message.now) ((top_in c.args.top))))) 0 c.args.table.now
    c.protected.new.table c.in_ok-p.p = protected_collected ((text (c.args.message.now) ((top_in c.args.top)))) ((top_in c.args.top)).protected _ _ (decodes).1.front refl _ _ _
    (sym (ap as_stage c.in_ok-p.was) ∙ c.protected.ensures.value) c.protected.ensures.table_after in
    let collected-long : length c.protected.new.table ≡ 768 = c.protected.auto.table ∙ c.requires.table_len in
    let gathers : (let n = c.in_ok-p.p + c.in_ok-s.s in
    let last = c.unprotected.new.table in
    (first (object_order (c.args.message.now) (shared_entries (c.args.message.now) ((top_in c.args.top)))) ≡ 0)
    × ((n ≤ 64)
    × ((length last ≡ 768)
    × ((entries_of n last ≡ protected_entries ((text (c.args.message.now) ((top_in c.args.top)))) ++ shared_entries (c.args.message.now) ((top_in c.args.top)))
    × Printed (read_texts ((text (c.args.message.now) ((top_in c.args.top)))) (c.args.message.now)) n last)))) = (let own = collects in
    let shared = shared_collected (c.args.message.now) ((top_in c.args.top)) _ _ _ _
    (sym (ap as_stage c.in_ok-s.was) ∙ c.unprotected.ensures.value) c.unprotected.ensures.table_after in
    let long = collected-long in (
      shared.0,
      (
        omega (arith, own.1.short, shared.1.short),
        (
          c.unprotected.auto.table ∙ long,
          (behind own.1 shared.1 long, front_printed ((top_in c.args.top)) own.1 shared.1 long),
        ),
      ),
    )) in
    let has = gathers in
    record {
      message_len_bound = c.requires.message_len_bound;
      known_value = c.requires.known_value;
      number_le_most_recipients = c.requires.number_le_most_recipients;
      recipient_width_in_bounds = c.requires.recipient_width_in_bounds;
      own_len = c.requires.own_len;
      counts_len = c.requires.counts_len;
      header_table_in_bounds = omega (arith, has.1.0, has.1.1.0);
      printed = subst
          (λ (l : List ℕ).
          Printed (read_texts l (c.args.message.now))
          (c.in_ok-p.p + c.in_ok-s.s)
          c.unprotected.new.table)
          (sym (decodes).1.front) has.1.1.1.1;
      headers_known = c.requires.headers_known;
    }

pub shape_of-text-in_err-judged : goal.shape_of-text-in_err-judged
shape_of-text-in_err-judged c =
    let decodes : (first (text_tests ((top_in c.args.top)).protected ((text (c.args.message.now) ((top_in c.args.top))))) ≡ 0)
    × Begun ((text (c.args.message.now) ((top_in c.args.top)))) c.args.text.now c.decoded.new.text c.in_ok-h.h = (let answer = sym (ap as_stage c.in_ok-h.was) ∙ c.decoded.ensures.value in (
      (passed_is _ (first (text_tests ((top_in c.args.top)).protected ((text (c.args.message.now) ((top_in c.args.top)))))) (length ((text (c.args.message.now) ((top_in c.args.top))))) answer).0,
      begun (c.args.message.now) ((top_in c.args.top)) c.requires.top_value_2 c.args.text.now _ _ answer c.decoded.ensures.text_after c.requires.text_len,
    )) in
    (decodes).1.long ∙ sym c.requires.text_len

pub shape_of-table-in_err-judged : goal.shape_of-table-in_err-judged
shape_of-table-in_err-judged c =
    let decodes : (first (text_tests ((top_in c.args.top)).protected ((text (c.args.message.now) ((top_in c.args.top))))) ≡ 0)
    × Begun ((text (c.args.message.now) ((top_in c.args.top)))) c.args.text.now c.decoded.new.text c.in_ok-h.h = (let answer = sym (ap as_stage c.in_ok-h.was) ∙ c.decoded.ensures.value in (
      (passed_is _ (first (text_tests ((top_in c.args.top)).protected ((text (c.args.message.now) ((top_in c.args.top)))))) (length ((text (c.args.message.now) ((top_in c.args.top))))) answer).0,
      begun (c.args.message.now) ((top_in c.args.top)) c.requires.top_value_2 c.args.text.now _ _ answer c.decoded.ensures.text_after c.requires.text_len,
    )) in
    let collects : (first (protected_tests ((top_in c.args.top)).protected ((text (c.args.message.now) ((top_in c.args.top))))) ≡ 0)
    × Collected ((text (c.args.message.now) ((top_in c.args.top)))) (protected_entries ((text (c.args.message.now) ((top_in c.args.top))))) 0 c.args.table.now
    c.protected.new.table c.in_ok-p.p = protected_collected ((text (c.args.message.now) ((top_in c.args.top)))) ((top_in c.args.top)).protected _ _ (decodes).1.front refl _ _ _
    (sym (ap as_stage c.in_ok-p.was) ∙ c.protected.ensures.value) c.protected.ensures.table_after in
    let collected-long : length c.protected.new.table ≡ 768 = c.protected.auto.table ∙ c.requires.table_len in
    let gathers : (let n = c.in_ok-p.p + c.in_ok-s.s in
    let last = c.unprotected.new.table in
    (first (object_order (c.args.message.now) (shared_entries (c.args.message.now) ((top_in c.args.top)))) ≡ 0)
    × ((n ≤ 64)
    × ((length last ≡ 768)
    × ((entries_of n last ≡ protected_entries ((text (c.args.message.now) ((top_in c.args.top)))) ++ shared_entries (c.args.message.now) ((top_in c.args.top)))
    × Printed (read_texts ((text (c.args.message.now) ((top_in c.args.top)))) (c.args.message.now)) n last)))) = (let own = collects in
    let shared = shared_collected (c.args.message.now) ((top_in c.args.top)) _ _ _ _
    (sym (ap as_stage c.in_ok-s.was) ∙ c.unprotected.ensures.value) c.unprotected.ensures.table_after in
    let long = collected-long in (
      shared.0,
      (
        omega (arith, own.1.short, shared.1.short),
        (
          c.unprotected.auto.table ∙ long,
          (behind own.1 shared.1 long, front_printed ((top_in c.args.top)) own.1 shared.1 long),
        ),
      ),
    )) in
    c.judged.auto.table ∙ (gathers).1.1.0 ∙ sym c.requires.table_len

pub shape_of-own-in_err-judged : goal.shape_of-own-in_err-judged
shape_of-own-in_err-judged c = c.judged.auto.own

pub shape_of-counts-in_err-judged : goal.shape_of-counts-in_err-judged
shape_of-counts-in_err-judged c = c.judged.auto.counts

pub returns-in_err-judged : goal.returns-in_err-judged
returns-in_err-judged c =
    let decodes : (first (text_tests ((top_in c.args.top)).protected ((text (c.args.message.now) ((top_in c.args.top))))) ≡ 0)
    × Begun ((text (c.args.message.now) ((top_in c.args.top)))) c.args.text.now c.decoded.new.text c.in_ok-h.h = (let answer = sym (ap as_stage c.in_ok-h.was) ∙ c.decoded.ensures.value in (
      (passed_is _ (first (text_tests ((top_in c.args.top)).protected ((text (c.args.message.now) ((top_in c.args.top)))))) (length ((text (c.args.message.now) ((top_in c.args.top))))) answer).0,
      begun (c.args.message.now) ((top_in c.args.top)) c.requires.top_value_2 c.args.text.now _ _ answer c.decoded.ensures.text_after c.requires.text_len,
    )) in
    let collects : (first (protected_tests ((top_in c.args.top)).protected ((text (c.args.message.now) ((top_in c.args.top))))) ≡ 0)
    × Collected ((text (c.args.message.now) ((top_in c.args.top)))) (protected_entries ((text (c.args.message.now) ((top_in c.args.top))))) 0 c.args.table.now
    c.protected.new.table c.in_ok-p.p = protected_collected ((text (c.args.message.now) ((top_in c.args.top)))) ((top_in c.args.top)).protected _ _ (decodes).1.front refl _ _ _
    (sym (ap as_stage c.in_ok-p.was) ∙ c.protected.ensures.value) c.protected.ensures.table_after in
    let collected-long : length c.protected.new.table ≡ 768 = c.protected.auto.table ∙ c.requires.table_len in
    let gathers : (let n = c.in_ok-p.p + c.in_ok-s.s in
    let last = c.unprotected.new.table in
    (first (object_order (c.args.message.now) (shared_entries (c.args.message.now) ((top_in c.args.top)))) ≡ 0)
    × ((n ≤ 64)
    × ((length last ≡ 768)
    × ((entries_of n last ≡ protected_entries ((text (c.args.message.now) ((top_in c.args.top)))) ++ shared_entries (c.args.message.now) ((top_in c.args.top)))
    × Printed (read_texts ((text (c.args.message.now) ((top_in c.args.top)))) (c.args.message.now)) n last)))) = (let own = collects in
    let shared = shared_collected (c.args.message.now) ((top_in c.args.top)) _ _ _ _
    (sym (ap as_stage c.in_ok-s.was) ∙ c.unprotected.ensures.value) c.unprotected.ensures.table_after in
    let long = collected-long in (
      shared.0,
      (
        omega (arith, own.1.short, shared.1.short),
        (
          c.unprotected.auto.table ∙ long,
          (behind own.1 shared.1 long, front_printed ((top_in c.args.top)) own.1 shared.1 long),
        ),
      ),
    )) in
    let asks : (as_stage c.judged.result)
    ≡ stage_of
    (first (all_tests (names c.args.known.now) ((text (c.args.message.now) ((top_in c.args.top)))) (c.args.message.now)
    (protected_entries ((text (c.args.message.now) ((top_in c.args.top)))) ++ shared_entries (c.args.message.now) ((top_in c.args.top))) ((top_in c.args.top)).components ((recipients_of c.args.number c.args.of.now))))
    c.args.number = c.judged.ensures.value
    ∙ ap₂ (λ (l : List ℕ) (es : List Entry).
    stage_of (first (all_tests (names c.args.known.now) l (c.args.message.now) es ((top_in c.args.top)).components ((recipients_of c.args.number c.args.of.now)))) c.args.number)
    (decodes).1.front (gathers).1.1.1.0 in
    let rest : first (json_later (names c.args.known.now) (c.args.message.now) ((top_in c.args.top)) ((recipients_of c.args.number c.args.of.now)) 0)
    ≡ first (headed_order (names c.args.known.now) ((text (c.args.message.now) ((top_in c.args.top)))) (c.args.message.now)
    (protected_entries ((text (c.args.message.now) ((top_in c.args.top)))) ++ shared_entries (c.args.message.now) ((top_in c.args.top))) ((top_in c.args.top)).components ((recipients_of c.args.number c.args.of.now)) 0) = shaped_rest (names c.args.known.now) (c.args.message.now) ((top_in c.args.top)) ((recipients_of c.args.number c.args.of.now)) 0 (decodes).0
    (collects).0 (gathers).0 in
    let known = names c.args.known.now in
    let front = protected_entries ((text (c.args.message.now) ((top_in c.args.top)))) ++ shared_entries (c.args.message.now) ((top_in c.args.top)) in
    let refusal = (ap as_stage c.in_err-judged.was) in
    let fails = refused_is _ (first (all_tests known ((text (c.args.message.now) ((top_in c.args.top)))) (c.args.message.now) front ((top_in c.args.top)).components ((recipients_of c.args.number c.args.of.now)))) c.args.number
    (sym refusal ∙ asks) in
    holds_handed (c.args.message.now) _ _ _
    (rest
    ∙ heads_all known ((text (c.args.message.now) ((top_in c.args.top)))) (c.args.message.now) front ((top_in c.args.top)).components ((recipients_of c.args.number c.args.of.now)) 0 fails.0 fails.1) fails.1
    _ _ _ _ _ _ (hands_up_holding _ _ c.in_err-judged.was _ c.from_residual-in_err-judged.ensures.1) refusal

pub shape_of-text : goal.shape_of-text
shape_of-text c =
    let decodes : (first (text_tests ((top_in c.args.top)).protected ((text (c.args.message.now) ((top_in c.args.top))))) ≡ 0)
    × Begun ((text (c.args.message.now) ((top_in c.args.top)))) c.args.text.now c.decoded.new.text c.in_ok-h.h = (let answer = sym (ap as_stage c.in_ok-h.was) ∙ c.decoded.ensures.value in (
      (passed_is _ (first (text_tests ((top_in c.args.top)).protected ((text (c.args.message.now) ((top_in c.args.top)))))) (length ((text (c.args.message.now) ((top_in c.args.top))))) answer).0,
      begun (c.args.message.now) ((top_in c.args.top)) c.requires.top_value_2 c.args.text.now _ _ answer c.decoded.ensures.text_after c.requires.text_len,
    )) in
    (decodes).1.long ∙ sym c.requires.text_len

pub shape_of-table : goal.shape_of-table
shape_of-table c =
    let decodes : (first (text_tests ((top_in c.args.top)).protected ((text (c.args.message.now) ((top_in c.args.top))))) ≡ 0)
    × Begun ((text (c.args.message.now) ((top_in c.args.top)))) c.args.text.now c.decoded.new.text c.in_ok-h.h = (let answer = sym (ap as_stage c.in_ok-h.was) ∙ c.decoded.ensures.value in (
      (passed_is _ (first (text_tests ((top_in c.args.top)).protected ((text (c.args.message.now) ((top_in c.args.top)))))) (length ((text (c.args.message.now) ((top_in c.args.top))))) answer).0,
      begun (c.args.message.now) ((top_in c.args.top)) c.requires.top_value_2 c.args.text.now _ _ answer c.decoded.ensures.text_after c.requires.text_len,
    )) in
    let collects : (first (protected_tests ((top_in c.args.top)).protected ((text (c.args.message.now) ((top_in c.args.top))))) ≡ 0)
    × Collected ((text (c.args.message.now) ((top_in c.args.top)))) (protected_entries ((text (c.args.message.now) ((top_in c.args.top))))) 0 c.args.table.now
    c.protected.new.table c.in_ok-p.p = protected_collected ((text (c.args.message.now) ((top_in c.args.top)))) ((top_in c.args.top)).protected _ _ (decodes).1.front refl _ _ _
    (sym (ap as_stage c.in_ok-p.was) ∙ c.protected.ensures.value) c.protected.ensures.table_after in
    let collected-long : length c.protected.new.table ≡ 768 = c.protected.auto.table ∙ c.requires.table_len in
    let gathers : (let n = c.in_ok-p.p + c.in_ok-s.s in
    let last = c.unprotected.new.table in
    (first (object_order (c.args.message.now) (shared_entries (c.args.message.now) ((top_in c.args.top)))) ≡ 0)
    × ((n ≤ 64)
    × ((length last ≡ 768)
    × ((entries_of n last ≡ protected_entries ((text (c.args.message.now) ((top_in c.args.top)))) ++ shared_entries (c.args.message.now) ((top_in c.args.top)))
    × Printed (read_texts ((text (c.args.message.now) ((top_in c.args.top)))) (c.args.message.now)) n last)))) = (let own = collects in
    let shared = shared_collected (c.args.message.now) ((top_in c.args.top)) _ _ _ _
    (sym (ap as_stage c.in_ok-s.was) ∙ c.unprotected.ensures.value) c.unprotected.ensures.table_after in
    let long = collected-long in (
      shared.0,
      (
        omega (arith, own.1.short, shared.1.short),
        (
          c.unprotected.auto.table ∙ long,
          (behind own.1 shared.1 long, front_printed ((top_in c.args.top)) own.1 shared.1 long),
        ),
      ),
    )) in
    c.judged.auto.table ∙ (gathers).1.1.0 ∙ sym c.requires.table_len

pub shape_of-own : goal.shape_of-own
shape_of-own c = c.judged.auto.own

pub shape_of-counts : goal.shape_of-counts
shape_of-counts c = c.judged.auto.counts

pub returns : goal.returns
returns c =
    let decodes : (first (text_tests ((top_in c.args.top)).protected ((text (c.args.message.now) ((top_in c.args.top))))) ≡ 0)
    × Begun ((text (c.args.message.now) ((top_in c.args.top)))) c.args.text.now c.decoded.new.text c.in_ok-h.h = (let answer = sym (ap as_stage c.in_ok-h.was) ∙ c.decoded.ensures.value in (
      (passed_is _ (first (text_tests ((top_in c.args.top)).protected ((text (c.args.message.now) ((top_in c.args.top)))))) (length ((text (c.args.message.now) ((top_in c.args.top))))) answer).0,
      begun (c.args.message.now) ((top_in c.args.top)) c.requires.top_value_2 c.args.text.now _ _ answer c.decoded.ensures.text_after c.requires.text_len,
    )) in
    let collects : (first (protected_tests ((top_in c.args.top)).protected ((text (c.args.message.now) ((top_in c.args.top))))) ≡ 0)
    × Collected ((text (c.args.message.now) ((top_in c.args.top)))) (protected_entries ((text (c.args.message.now) ((top_in c.args.top))))) 0 c.args.table.now
    c.protected.new.table c.in_ok-p.p = protected_collected ((text (c.args.message.now) ((top_in c.args.top)))) ((top_in c.args.top)).protected _ _ (decodes).1.front refl _ _ _
    (sym (ap as_stage c.in_ok-p.was) ∙ c.protected.ensures.value) c.protected.ensures.table_after in
    let collected-long : length c.protected.new.table ≡ 768 = c.protected.auto.table ∙ c.requires.table_len in
    let gathers : (let n = c.in_ok-p.p + c.in_ok-s.s in
    let last = c.unprotected.new.table in
    (first (object_order (c.args.message.now) (shared_entries (c.args.message.now) ((top_in c.args.top)))) ≡ 0)
    × ((n ≤ 64)
    × ((length last ≡ 768)
    × ((entries_of n last ≡ protected_entries ((text (c.args.message.now) ((top_in c.args.top)))) ++ shared_entries (c.args.message.now) ((top_in c.args.top)))
    × Printed (read_texts ((text (c.args.message.now) ((top_in c.args.top)))) (c.args.message.now)) n last)))) = (let own = collects in
    let shared = shared_collected (c.args.message.now) ((top_in c.args.top)) _ _ _ _
    (sym (ap as_stage c.in_ok-s.was) ∙ c.unprotected.ensures.value) c.unprotected.ensures.table_after in
    let long = collected-long in (
      shared.0,
      (
        omega (arith, own.1.short, shared.1.short),
        (
          c.unprotected.auto.table ∙ long,
          (behind own.1 shared.1 long, front_printed ((top_in c.args.top)) own.1 shared.1 long),
        ),
      ),
    )) in
    let asks : (as_stage c.judged.result)
    ≡ stage_of
    (first (all_tests (names c.args.known.now) ((text (c.args.message.now) ((top_in c.args.top)))) (c.args.message.now)
    (protected_entries ((text (c.args.message.now) ((top_in c.args.top)))) ++ shared_entries (c.args.message.now) ((top_in c.args.top))) ((top_in c.args.top)).components ((recipients_of c.args.number c.args.of.now))))
    c.args.number = c.judged.ensures.value
    ∙ ap₂ (λ (l : List ℕ) (es : List Entry).
    stage_of (first (all_tests (names c.args.known.now) l (c.args.message.now) es ((top_in c.args.top)).components ((recipients_of c.args.number c.args.of.now)))) c.args.number)
    (decodes).1.front (gathers).1.1.1.0 in
    let rest : first (json_later (names c.args.known.now) (c.args.message.now) ((top_in c.args.top)) ((recipients_of c.args.number c.args.of.now)) 0)
    ≡ first (headed_order (names c.args.known.now) ((text (c.args.message.now) ((top_in c.args.top)))) (c.args.message.now)
    (protected_entries ((text (c.args.message.now) ((top_in c.args.top)))) ++ shared_entries (c.args.message.now) ((top_in c.args.top))) ((top_in c.args.top)).components ((recipients_of c.args.number c.args.of.now)) 0) = shaped_rest (names c.args.known.now) (c.args.message.now) ((top_in c.args.top)) ((recipients_of c.args.number c.args.of.now)) 0 (decodes).0
    (collects).0 (gathers).0 in
    let args = c.args in
    let known = names args.known.now in
    let begins = (decodes).1 in
    let has = gathers in
    let front = protected_entries ((text (c.args.message.now) ((top_in c.args.top)))) ++ shared_entries (c.args.message.now) ((top_in c.args.top)) in
    let passed = (passed_is _ (first (all_tests known ((text (c.args.message.now) ((top_in c.args.top)))) (c.args.message.now) front ((top_in c.args.top)).components ((recipients_of c.args.number c.args.of.now)))) args.number
    (sym (ap as_stage c.in_ok-judged.was) ∙ asks)).0 in
    let none = rest
    ∙ heads_one known ((text (c.args.message.now) ((top_in c.args.top)))) (c.args.message.now) front ((top_in c.args.top)).components ((recipients_of c.args.number c.args.of.now)) 0 passed
    (omega (arith, recipients_length args.number args.of.now, c.requires.le_number)) in
    let owned = subst (LeavesOwn args.number (c.args.message.now) args.of.now _ _) (ap as_stage c.in_ok-judged.was)
    c.judged.ensures.leaves_own in
    let keeps = c.judged.ensures.keeps_front in
    record {
      number = sym none;
      holds = λ z.
          record {
            form = refl;
            recipients = sym (recipients_length args.number args.of.now);
            some = c.requires.le_number;
            few = c.requires.number_le_most_recipients;
            components = refl;
            fits = omega (arith, begins.fits, begins.long);
            header = begins.front;
            common = record {
              few = has.1.0;
              entries = keeps.entries ∙ has.1.1.1.0;
              printed = subst
                  (λ (l : List ℕ).
                  Printed (read_texts l (c.args.message.now))
                  (c.in_ok-p.p + c.in_ok-s.s)
                  c.judged.new.table)
                  begins.front keeps.printed;
            };
            share = shares (c.args.message.now) ((top_in c.args.top)) args.number args.of.now _ _ owned;
          };
    }
