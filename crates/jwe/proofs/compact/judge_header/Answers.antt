-- `judge_header` goes by stages: what each stage answers tells the first refusal, or what the next begins with.
use mathlib.Core.Path.{◌≡◌, refl, ap, ap₂, sym, subst, ◌∙◌}
use mathlib.Core.Bool.{false}
use mathlib.Core.List.{List}
use Prim.Native.Nat.{ℕ}
use native.Mathlib.Omega.{arith}
use lib.ListN.{length, take}
use Rattle.names.specs.Names.{names}
use Rattle.prelude.specs.Any.{any}
use Rattle.rows.specs.Rows.{Entry, read_texts}
use Rattle.rows.specs.Tables.{entries_of}
use Rattle.rows.specs.Inner.Prints.{collected_table, Printed}
use Rattle.rows.proofs.Printing.{entries_stand, printed_at}
use Rattle.jose.specs.Registered.{registered}
use Rattle.prelude.specs.Refusals.{first, stage_of, as_stage, number_of}
use Rattle.jose.specs.declared.Sizes.{Sizes}
use Rattle.jose.specs.HeaderRules.{recipient_order, mode_in}
use Rattle.headers.specs.Components.{misspelled, places, sizes_of}
use Rattle.headers.specs.Headers.{header_text, text_order, outermost, protected_entries, object_order}
use Rattle.headers.specs.Answers.{place_of, components_of, header_buffer}
use Rattle.headers.proofs.Stages.{passed_is, refused_is}
use Rattle.headers.proofs.Collected.{Kept, kept_passed, kept_printed, table_length}
use Rattle.jwe.specs.Compact.{compact_components}
use Rattle.jwe.specs.Inner.Outcomes.{compact_outcome}
use Rattle.headers.specs.declared.Components.{Components}
use Rattle.jwe.proofs.Splitting.{none_first, asked_are}
use Rattle.jwe.proofs.CompactOrder.{header, entries, rules}
use Rattle.jwe.proofs.CompactOrder.{first_text, first_object, first_rule, first_19, first_none}
use Rattle.jwe.proofs.Stages.{Read, read_passed, buffer_length, accepted_are}
use Rattle.jwe.proofs.JsonHeads.{judges_refused}
use Rattle.jwe.proofs.Answering.{answered_accepted, refuses}
use Rattle.jwe.proofs.SmallOutcomes.{mode_low}
use Rattle.jwe.proofs.Exits.{hands_up_result, refused_as}
use Rattle.prelude.specs.declared.refusal.Refusal.TheVariants.{NoSuchRecipient}
use Rattle.jwe.proofs.compact.judge_header.Goals as goal

pub header-requires : goal.header-requires
header-requires c =
    record {
      place_value = none_first (misspelled (c.args.message.now)) _ _ c.requires.q_value_2;
      buffer_len = c.requires.text_len;
    }

pub returns-in_err-n : goal.returns-in_err-n
returns-in_err-n c =
    let header_is : header_text (c.args.message.now) (place_of c.args.q.protected) ≡ header (c.args.message.now) = ap (λ (q : Components). header_text (c.args.message.now) (place_of q.protected)) c.requires.q_value in
    let text-answer : (let h = header (c.args.message.now) in (as_stage c.header.result) ≡ stage_of (first (text_order h)) (length h)) = c.header.ensures.value
    ∙ ap (λ (h : List ℕ). stage_of (first (text_order h)) (length h)) (header_is) in
    let spelled : any (misspelled (c.args.message.now)) (places (compact_components (c.args.message.now))) ≡ false = sym (asked_are (c.args.message.now) c.args.q c.requires.q_value) ∙ c.requires.q_value_2 in
    let text-left : c.header.new.buffer ≡ header_buffer (header (c.args.message.now)) c.args.text.now = c.header.ensures.buffer_after
    ∙ ap (λ (h : List ℕ). header_buffer h c.args.text.now) (header_is) in
    let r = refused_is (number_of c.in_err-n.field-0.0) _ _ (sym (ap as_stage c.in_err-n.was) ∙ text-answer) in
    judges_refused (c.args.message.now) _ _ _ _ _ (hands_up_result _ _ c.in_err-n.was _ c.from_residual.ensures.1) (ap as_stage c.in_err-n.was)
    (first_text (c.args.message.now) _ _ c.requires.message_value (spelled) (number_of c.in_err-n.field-0.0) r.0 r.1) r.1
    c.args.text.now _ c.args.table.now _
    (ap length (text-left) ∙ buffer_length _ _ c.requires.text_len) refl

pub slice_bounds-protected_entries-end : goal.slice_bounds-protected_entries-end
slice_bounds-protected_entries-end c =
    let header_is : header_text (c.args.message.now) (place_of c.args.q.protected) ≡ header (c.args.message.now) = ap (λ (q : Components). header_text (c.args.message.now) (place_of q.protected)) c.requires.q_value in
    let text-answer : (let h = header (c.args.message.now) in (as_stage c.header.result) ≡ stage_of (first (text_order h)) (length h)) = c.header.ensures.value
    ∙ ap (λ (h : List ℕ). stage_of (first (text_order h)) (length h)) (header_is) in
    let text-left : c.header.new.buffer ≡ header_buffer (header (c.args.message.now)) c.args.text.now = c.header.ensures.buffer_after
    ∙ ap (λ (h : List ℕ). header_buffer h c.args.text.now) (header_is) in
    let read : Read (header (c.args.message.now)) c.args.text.now c.header.new.buffer
    c.in_ok-n.n = read_passed (header (c.args.message.now)) c.args.text.now _ _ c.requires.text_len
    (sym (ap as_stage c.in_ok-n.was) ∙ text-answer) (text-left) in
    (read).fits

pub slice_bounds-protected_entries-end-2 : goal.slice_bounds-protected_entries-end-2
slice_bounds-protected_entries-end-2 c =
    let header_is : header_text (c.args.message.now) (place_of c.args.q.protected) ≡ header (c.args.message.now) = ap (λ (q : Components). header_text (c.args.message.now) (place_of q.protected)) c.requires.q_value in
    let text-answer : (let h = header (c.args.message.now) in (as_stage c.header.result) ≡ stage_of (first (text_order h)) (length h)) = c.header.ensures.value
    ∙ ap (λ (h : List ℕ). stage_of (first (text_order h)) (length h)) (header_is) in
    let text-left : c.header.new.buffer ≡ header_buffer (header (c.args.message.now)) c.args.text.now = c.header.ensures.buffer_after
    ∙ ap (λ (h : List ℕ). header_buffer h c.args.text.now) (header_is) in
    let read : Read (header (c.args.message.now)) c.args.text.now c.header.new.buffer
    c.in_ok-n.n = read_passed (header (c.args.message.now)) c.args.text.now _ _ c.requires.text_len
    (sym (ap as_stage c.in_ok-n.was) ∙ text-answer) (text-left) in
    let r = read in r.size ∙ sym (ap length r.front)

pub protected_entries-requires : goal.protected_entries-requires
protected_entries-requires c =
    let header_is : header_text (c.args.message.now) (place_of c.args.q.protected) ≡ header (c.args.message.now) = ap (λ (q : Components). header_text (c.args.message.now) (place_of q.protected)) c.requires.q_value in
    let text-answer : (let h = header (c.args.message.now) in (as_stage c.header.result) ≡ stage_of (first (text_order h)) (length h)) = c.header.ensures.value
    ∙ ap (λ (h : List ℕ). stage_of (first (text_order h)) (length h)) (header_is) in
    let text-left : c.header.new.buffer ≡ header_buffer (header (c.args.message.now)) c.args.text.now = c.header.ensures.buffer_after
    ∙ ap (λ (h : List ℕ). header_buffer h c.args.text.now) (header_is) in
    let read : Read (header (c.args.message.now)) c.args.text.now c.header.new.buffer
    c.in_ok-n.n = read_passed (header (c.args.message.now)) c.args.text.now _ _ c.requires.text_len
    (sym (ap as_stage c.in_ok-n.was) ∙ text-answer) (text-left) in
    let r = read in
    record {
      header_len_bound = omega (arith, ap length r.front, r.within);
      header_table_in_bounds = omega (arith, c.requires.header_table_in_bounds);
    }

pub returns-in_err-count : goal.returns-in_err-count
returns-in_err-count c =
    let header_is : header_text (c.args.message.now) (place_of c.args.q.protected) ≡ header (c.args.message.now) = ap (λ (q : Components). header_text (c.args.message.now) (place_of q.protected)) c.requires.q_value in
    let text-answer : (let h = header (c.args.message.now) in (as_stage c.header.result) ≡ stage_of (first (text_order h)) (length h)) = c.header.ensures.value
    ∙ ap (λ (h : List ℕ). stage_of (first (text_order h)) (length h)) (header_is) in
    let text-left : c.header.new.buffer ≡ header_buffer (header (c.args.message.now)) c.args.text.now = c.header.ensures.buffer_after
    ∙ ap (λ (h : List ℕ). header_buffer h c.args.text.now) (header_is) in
    let read : Read (header (c.args.message.now)) c.args.text.now c.header.new.buffer
    c.in_ok-n.n = read_passed (header (c.args.message.now)) c.args.text.now _ _ c.requires.text_len
    (sym (ap as_stage c.in_ok-n.was) ∙ text-answer) (text-left) in
    let entries-answer : (let m = c.args.message.now in
    (as_stage c.protected_entries.result) ≡ stage_of (first (object_order (header m) (entries m))) (length (entries m))) = c.protected_entries.ensures.value
    ∙ ap (λ (h : List ℕ). stage_of (first (object_order h (protected_entries h))) (length (protected_entries h)))
    (read).front in
    let spelled : any (misspelled (c.args.message.now)) (places (compact_components (c.args.message.now))) ≡ false = sym (asked_are (c.args.message.now) c.args.q c.requires.q_value) ∙ c.requires.q_value_2 in
    let entries-left : c.protected_entries.new.table
    ≡ collected_table 0 (header (c.args.message.now)) (entries (c.args.message.now)) c.args.table.now = c.protected_entries.ensures.table_after
    ∙ ap
    (λ (h : List ℕ). collected_table 0 h (protected_entries h) c.args.table.now)
    (read).front in
    let text = read in
    let r = refused_is (number_of c.in_err-count.field-0.0) _ _ (sym (ap as_stage c.in_err-count.was) ∙ entries-answer) in
    judges_refused (c.args.message.now) _ _ _ _ _ (hands_up_result _ _ c.in_err-count.was _ c.from_residual-in_err-count.ensures.1) (ap as_stage c.in_err-count.was)
    (first_object (c.args.message.now) _ _ c.requires.message_value (spelled) text.passes (number_of c.in_err-count.field-0.0) r.0 r.1) r.1
    c.args.text.now _ c.args.table.now _ text.same
    (ap length (entries-left) ∙ table_length _ _ _ (omega (arith, c.requires.header_table_in_bounds)))

pub slice_bounds-texts-end : goal.slice_bounds-texts-end
slice_bounds-texts-end c =
    let header_is : header_text (c.args.message.now) (place_of c.args.q.protected) ≡ header (c.args.message.now) = ap (λ (q : Components). header_text (c.args.message.now) (place_of q.protected)) c.requires.q_value in
    let text-answer : (let h = header (c.args.message.now) in (as_stage c.header.result) ≡ stage_of (first (text_order h)) (length h)) = c.header.ensures.value
    ∙ ap (λ (h : List ℕ). stage_of (first (text_order h)) (length h)) (header_is) in
    let text-left : c.header.new.buffer ≡ header_buffer (header (c.args.message.now)) c.args.text.now = c.header.ensures.buffer_after
    ∙ ap (λ (h : List ℕ). header_buffer h c.args.text.now) (header_is) in
    let read : Read (header (c.args.message.now)) c.args.text.now c.header.new.buffer
    c.in_ok-n.n = read_passed (header (c.args.message.now)) c.args.text.now _ _ c.requires.text_len
    (sym (ap as_stage c.in_ok-n.was) ∙ text-answer) (text-left) in
    (read).fits

pub slice_bounds-texts-end-2 : goal.slice_bounds-texts-end-2
slice_bounds-texts-end-2 c =
    let header_is : header_text (c.args.message.now) (place_of c.args.q.protected) ≡ header (c.args.message.now) = ap (λ (q : Components). header_text (c.args.message.now) (place_of q.protected)) c.requires.q_value in
    let text-answer : (let h = header (c.args.message.now) in (as_stage c.header.result) ≡ stage_of (first (text_order h)) (length h)) = c.header.ensures.value
    ∙ ap (λ (h : List ℕ). stage_of (first (text_order h)) (length h)) (header_is) in
    let text-left : c.header.new.buffer ≡ header_buffer (header (c.args.message.now)) c.args.text.now = c.header.ensures.buffer_after
    ∙ ap (λ (h : List ℕ). header_buffer h c.args.text.now) (header_is) in
    let read : Read (header (c.args.message.now)) c.args.text.now c.header.new.buffer
    c.in_ok-n.n = read_passed (header (c.args.message.now)) c.args.text.now _ _ c.requires.text_len
    (sym (ap as_stage c.in_ok-n.was) ∙ text-answer) (text-left) in
    let r = read in r.size ∙ sym (ap length r.front)

pub invariant_of-entries : goal.invariant_of-entries
unfolding protected_entries
invariant_of-entries c =
    let header_is : header_text (c.args.message.now) (place_of c.args.q.protected) ≡ header (c.args.message.now) = ap (λ (q : Components). header_text (c.args.message.now) (place_of q.protected)) c.requires.q_value in
    let text-answer : (let h = header (c.args.message.now) in (as_stage c.header.result) ≡ stage_of (first (text_order h)) (length h)) = c.header.ensures.value
    ∙ ap (λ (h : List ℕ). stage_of (first (text_order h)) (length h)) (header_is) in
    let text-left : c.header.new.buffer ≡ header_buffer (header (c.args.message.now)) c.args.text.now = c.header.ensures.buffer_after
    ∙ ap (λ (h : List ℕ). header_buffer h c.args.text.now) (header_is) in
    let read : Read (header (c.args.message.now)) c.args.text.now c.header.new.buffer
    c.in_ok-n.n = read_passed (header (c.args.message.now)) c.args.text.now _ _ c.requires.text_len
    (sym (ap as_stage c.in_ok-n.was) ∙ text-answer) (text-left) in
    let entries-answer : (let m = c.args.message.now in
    (as_stage c.protected_entries.result) ≡ stage_of (first (object_order (header m) (entries m))) (length (entries m))) = c.protected_entries.ensures.value
    ∙ ap (λ (h : List ℕ). stage_of (first (object_order h (protected_entries h))) (length (protected_entries h)))
    (read).front in
    let entries-left : c.protected_entries.new.table
    ≡ collected_table 0 (header (c.args.message.now)) (entries (c.args.message.now)) c.args.table.now = c.protected_entries.ensures.table_after
    ∙ ap
    (λ (h : List ℕ). collected_table 0 h (protected_entries h) c.args.table.now)
    (read).front in
    let kept : Kept (header (c.args.message.now)) (entries (c.args.message.now)) c.args.table.now
    c.protected_entries.new.table c.in_ok-count.count = kept_passed (header (c.args.message.now)) (entries (c.args.message.now)) c.args.table.now _ _
    (omega (arith, c.requires.header_table_in_bounds))
    (sym (ap as_stage c.in_ok-count.was) ∙ entries-answer) (entries-left) in
    let printed : (let m = c.args.message.now in
    Printed (read_texts (header m) m) c.in_ok-count.count
    c.protected_entries.new.table) = (let m = c.args.message.now in
    let ts = read_texts (header m) m in
    kept_printed ts (kept) (entries_stand registered ts (header m) 0 (outermost (header m)) refl)) in
    let m = c.args.message.now in
    let text = read in
    let count = c.in_ok-count.count in
    let after = c.protected_entries.new.table in
    record { fits = (kept).fits }

pub invariant_of-only : goal.invariant_of-only
unfolding protected_entries
invariant_of-only c =
    let header_is : header_text (c.args.message.now) (place_of c.args.q.protected) ≡ header (c.args.message.now) = ap (λ (q : Components). header_text (c.args.message.now) (place_of q.protected)) c.requires.q_value in
    let text-answer : (let h = header (c.args.message.now) in (as_stage c.header.result) ≡ stage_of (first (text_order h)) (length h)) = c.header.ensures.value
    ∙ ap (λ (h : List ℕ). stage_of (first (text_order h)) (length h)) (header_is) in
    let text-left : c.header.new.buffer ≡ header_buffer (header (c.args.message.now)) c.args.text.now = c.header.ensures.buffer_after
    ∙ ap (λ (h : List ℕ). header_buffer h c.args.text.now) (header_is) in
    let read : Read (header (c.args.message.now)) c.args.text.now c.header.new.buffer
    c.in_ok-n.n = read_passed (header (c.args.message.now)) c.args.text.now _ _ c.requires.text_len
    (sym (ap as_stage c.in_ok-n.was) ∙ text-answer) (text-left) in
    let entries-answer : (let m = c.args.message.now in
    (as_stage c.protected_entries.result) ≡ stage_of (first (object_order (header m) (entries m))) (length (entries m))) = c.protected_entries.ensures.value
    ∙ ap (λ (h : List ℕ). stage_of (first (object_order h (protected_entries h))) (length (protected_entries h)))
    (read).front in
    let entries-left : c.protected_entries.new.table
    ≡ collected_table 0 (header (c.args.message.now)) (entries (c.args.message.now)) c.args.table.now = c.protected_entries.ensures.table_after
    ∙ ap
    (λ (h : List ℕ). collected_table 0 h (protected_entries h) c.args.table.now)
    (read).front in
    let kept : Kept (header (c.args.message.now)) (entries (c.args.message.now)) c.args.table.now
    c.protected_entries.new.table c.in_ok-count.count = kept_passed (header (c.args.message.now)) (entries (c.args.message.now)) c.args.table.now _ _
    (omega (arith, c.requires.header_table_in_bounds))
    (sym (ap as_stage c.in_ok-count.was) ∙ entries-answer) (entries-left) in
    let printed : (let m = c.args.message.now in
    Printed (read_texts (header m) m) c.in_ok-count.count
    c.protected_entries.new.table) = (let m = c.args.message.now in
    let ts = read_texts (header m) m in
    kept_printed ts (kept) (entries_stand registered ts (header m) 0 (outermost (header m)) refl)) in
    let m = c.args.message.now in
    let text = read in
    let count = c.in_ok-count.count in
    let after = c.protected_entries.new.table in
    let prints = subst (λ (h : List ℕ). Printed (read_texts h m) count after) (sym text.front) printed in
    record { printed = λ i below. printed_at _ i _ _ below prints }

pub shape_of-text-in_err-mode : goal.shape_of-text-in_err-mode
shape_of-text-in_err-mode c =
    let header_is : header_text (c.args.message.now) (place_of c.args.q.protected) ≡ header (c.args.message.now) = ap (λ (q : Components). header_text (c.args.message.now) (place_of q.protected)) c.requires.q_value in
    let text-answer : (let h = header (c.args.message.now) in (as_stage c.header.result) ≡ stage_of (first (text_order h)) (length h)) = c.header.ensures.value
    ∙ ap (λ (h : List ℕ). stage_of (first (text_order h)) (length h)) (header_is) in
    let text-left : c.header.new.buffer ≡ header_buffer (header (c.args.message.now)) c.args.text.now = c.header.ensures.buffer_after
    ∙ ap (λ (h : List ℕ). header_buffer h c.args.text.now) (header_is) in
    let read : Read (header (c.args.message.now)) c.args.text.now c.header.new.buffer
    c.in_ok-n.n = read_passed (header (c.args.message.now)) c.args.text.now _ _ c.requires.text_len
    (sym (ap as_stage c.in_ok-n.was) ∙ text-answer) (text-left) in
    (read).same

pub returns-in_err-mode : goal.returns-in_err-mode
returns-in_err-mode c =
    let header_is : header_text (c.args.message.now) (place_of c.args.q.protected) ≡ header (c.args.message.now) = ap (λ (q : Components). header_text (c.args.message.now) (place_of q.protected)) c.requires.q_value in
    let text-answer : (let h = header (c.args.message.now) in (as_stage c.header.result) ≡ stage_of (first (text_order h)) (length h)) = c.header.ensures.value
    ∙ ap (λ (h : List ℕ). stage_of (first (text_order h)) (length h)) (header_is) in
    let text-left : c.header.new.buffer ≡ header_buffer (header (c.args.message.now)) c.args.text.now = c.header.ensures.buffer_after
    ∙ ap (λ (h : List ℕ). header_buffer h c.args.text.now) (header_is) in
    let read : Read (header (c.args.message.now)) c.args.text.now c.header.new.buffer
    c.in_ok-n.n = read_passed (header (c.args.message.now)) c.args.text.now _ _ c.requires.text_len
    (sym (ap as_stage c.in_ok-n.was) ∙ text-answer) (text-left) in
    let entries-answer : (let m = c.args.message.now in
    (as_stage c.protected_entries.result) ≡ stage_of (first (object_order (header m) (entries m))) (length (entries m))) = c.protected_entries.ensures.value
    ∙ ap (λ (h : List ℕ). stage_of (first (object_order h (protected_entries h))) (length (protected_entries h)))
    (read).front in
    let entries-left : c.protected_entries.new.table
    ≡ collected_table 0 (header (c.args.message.now)) (entries (c.args.message.now)) c.args.table.now = c.protected_entries.ensures.table_after
    ∙ ap
    (λ (h : List ℕ). collected_table 0 h (protected_entries h) c.args.table.now)
    (read).front in
    let kept : Kept (header (c.args.message.now)) (entries (c.args.message.now)) c.args.table.now
    c.protected_entries.new.table c.in_ok-count.count = kept_passed (header (c.args.message.now)) (entries (c.args.message.now)) c.args.table.now _ _
    (omega (arith, c.requires.header_table_in_bounds))
    (sym (ap as_stage c.in_ok-count.was) ∙ entries-answer) (entries-left) in
    let rules-answer : (as_stage c.judge.result)
    ≡ stage_of (first (rules (c.args.message.now) (names c.args.known.now) c.args.recipient))
    (mode_in (read_texts (header (c.args.message.now)) (c.args.message.now)) (entries (c.args.message.now))) = (let known = names c.args.known.now in
    let m = c.args.message.now in
    c.judge.ensures
    ∙ ap₂ (λ (h : List ℕ) (es : List Entry).
    stage_of (first (recipient_order known (read_texts h m) es c.sizes.result)) (mode_in (read_texts h m) es))
    (read).front (kept).entries
    ∙ ap (λ (z : Sizes).
    stage_of (first (recipient_order known (read_texts (header m) m) (entries m) z))
    (mode_in (read_texts (header m) m) (entries m)))
    (c.sizes.ensures ∙ ap (λ (q : Components). sizes_of (components_of q)) c.requires.q_value)) in
    let spelled : any (misspelled (c.args.message.now)) (places (compact_components (c.args.message.now))) ≡ false = sym (asked_are (c.args.message.now) c.args.q c.requires.q_value) ∙ c.requires.q_value_2 in
    let text = read in
    let table = kept in
    let r = refused_is (number_of c.in_err-mode.field-0.0) _ _ (sym (ap as_stage c.in_err-mode.was) ∙ rules-answer) in
    judges_refused (c.args.message.now) _ _ _ _ _ (hands_up_result _ _ c.in_err-mode.was _ c.from_residual-in_err-mode.ensures.1) (ap as_stage c.in_err-mode.was)
    (first_rule (c.args.message.now) _ _ c.requires.message_value (spelled) text.passes table.passes (number_of c.in_err-mode.field-0.0) r.0
    r.1)
    r.1 c.args.text.now _ c.args.table.now _ text.same table.same

pub shape_of-text-then-recipient-ge1 : goal.shape_of-text-then-recipient-ge1
shape_of-text-then-recipient-ge1 c =
    let header_is : header_text (c.args.message.now) (place_of c.args.q.protected) ≡ header (c.args.message.now) = ap (λ (q : Components). header_text (c.args.message.now) (place_of q.protected)) c.requires.q_value in
    let text-answer : (let h = header (c.args.message.now) in (as_stage c.header.result) ≡ stage_of (first (text_order h)) (length h)) = c.header.ensures.value
    ∙ ap (λ (h : List ℕ). stage_of (first (text_order h)) (length h)) (header_is) in
    let text-left : c.header.new.buffer ≡ header_buffer (header (c.args.message.now)) c.args.text.now = c.header.ensures.buffer_after
    ∙ ap (λ (h : List ℕ). header_buffer h c.args.text.now) (header_is) in
    let read : Read (header (c.args.message.now)) c.args.text.now c.header.new.buffer
    c.in_ok-n.n = read_passed (header (c.args.message.now)) c.args.text.now _ _ c.requires.text_len
    (sym (ap as_stage c.in_ok-n.was) ∙ text-answer) (text-left) in
    (read).same

pub returns-then-recipient-ge1 : goal.returns-then-recipient-ge1
returns-then-recipient-ge1 c =
    let header_is : header_text (c.args.message.now) (place_of c.args.q.protected) ≡ header (c.args.message.now) = ap (λ (q : Components). header_text (c.args.message.now) (place_of q.protected)) c.requires.q_value in
    let text-answer : (let h = header (c.args.message.now) in (as_stage c.header.result) ≡ stage_of (first (text_order h)) (length h)) = c.header.ensures.value
    ∙ ap (λ (h : List ℕ). stage_of (first (text_order h)) (length h)) (header_is) in
    let text-left : c.header.new.buffer ≡ header_buffer (header (c.args.message.now)) c.args.text.now = c.header.ensures.buffer_after
    ∙ ap (λ (h : List ℕ). header_buffer h c.args.text.now) (header_is) in
    let read : Read (header (c.args.message.now)) c.args.text.now c.header.new.buffer
    c.in_ok-n.n = read_passed (header (c.args.message.now)) c.args.text.now _ _ c.requires.text_len
    (sym (ap as_stage c.in_ok-n.was) ∙ text-answer) (text-left) in
    let entries-answer : (let m = c.args.message.now in
    (as_stage c.protected_entries.result) ≡ stage_of (first (object_order (header m) (entries m))) (length (entries m))) = c.protected_entries.ensures.value
    ∙ ap (λ (h : List ℕ). stage_of (first (object_order h (protected_entries h))) (length (protected_entries h)))
    (read).front in
    let entries-left : c.protected_entries.new.table
    ≡ collected_table 0 (header (c.args.message.now)) (entries (c.args.message.now)) c.args.table.now = c.protected_entries.ensures.table_after
    ∙ ap
    (λ (h : List ℕ). collected_table 0 h (protected_entries h) c.args.table.now)
    (read).front in
    let kept : Kept (header (c.args.message.now)) (entries (c.args.message.now)) c.args.table.now
    c.protected_entries.new.table c.in_ok-count.count = kept_passed (header (c.args.message.now)) (entries (c.args.message.now)) c.args.table.now _ _
    (omega (arith, c.requires.header_table_in_bounds))
    (sym (ap as_stage c.in_ok-count.was) ∙ entries-answer) (entries-left) in
    let rules-answer : (as_stage c.judge.result)
    ≡ stage_of (first (rules (c.args.message.now) (names c.args.known.now) c.args.recipient))
    (mode_in (read_texts (header (c.args.message.now)) (c.args.message.now)) (entries (c.args.message.now))) = (let known = names c.args.known.now in
    let m = c.args.message.now in
    c.judge.ensures
    ∙ ap₂ (λ (h : List ℕ) (es : List Entry).
    stage_of (first (recipient_order known (read_texts h m) es c.sizes.result)) (mode_in (read_texts h m) es))
    (read).front (kept).entries
    ∙ ap (λ (z : Sizes).
    stage_of (first (recipient_order known (read_texts (header m) m) (entries m) z))
    (mode_in (read_texts (header m) m) (entries m)))
    (c.sizes.ensures ∙ ap (λ (q : Components). sizes_of (components_of q)) c.requires.q_value)) in
    let spelled : any (misspelled (c.args.message.now)) (places (compact_components (c.args.message.now))) ≡ false = sym (asked_are (c.args.message.now) c.args.q c.requires.q_value) ∙ c.requires.q_value_2 in
    let text = read in
    let table = kept in
    let r = passed_is c.in_ok-mode.mode _ _ (sym (ap as_stage c.in_ok-mode.was) ∙ rules-answer) in
    refuses (c.args.message.now) _ _ _ (refused_as NoSuchRecipient)
    (first_19 (c.args.message.now) _ _ c.requires.message_value (spelled) text.passes table.passes r.0 c.if-recipient-ge1.true)
    (omega arith) c.args.text.now _ c.args.table.now _ text.same table.same

pub overflow_cast-result : goal.overflow_cast-result
overflow_cast-result c =
    let header_is : header_text (c.args.message.now) (place_of c.args.q.protected) ≡ header (c.args.message.now) = ap (λ (q : Components). header_text (c.args.message.now) (place_of q.protected)) c.requires.q_value in
    let text-answer : (let h = header (c.args.message.now) in (as_stage c.header.result) ≡ stage_of (first (text_order h)) (length h)) = c.header.ensures.value
    ∙ ap (λ (h : List ℕ). stage_of (first (text_order h)) (length h)) (header_is) in
    let text-left : c.header.new.buffer ≡ header_buffer (header (c.args.message.now)) c.args.text.now = c.header.ensures.buffer_after
    ∙ ap (λ (h : List ℕ). header_buffer h c.args.text.now) (header_is) in
    let read : Read (header (c.args.message.now)) c.args.text.now c.header.new.buffer
    c.in_ok-n.n = read_passed (header (c.args.message.now)) c.args.text.now _ _ c.requires.text_len
    (sym (ap as_stage c.in_ok-n.was) ∙ text-answer) (text-left) in
    let entries-answer : (let m = c.args.message.now in
    (as_stage c.protected_entries.result) ≡ stage_of (first (object_order (header m) (entries m))) (length (entries m))) = c.protected_entries.ensures.value
    ∙ ap (λ (h : List ℕ). stage_of (first (object_order h (protected_entries h))) (length (protected_entries h)))
    (read).front in
    let entries-left : c.protected_entries.new.table
    ≡ collected_table 0 (header (c.args.message.now)) (entries (c.args.message.now)) c.args.table.now = c.protected_entries.ensures.table_after
    ∙ ap
    (λ (h : List ℕ). collected_table 0 h (protected_entries h) c.args.table.now)
    (read).front in
    let kept : Kept (header (c.args.message.now)) (entries (c.args.message.now)) c.args.table.now
    c.protected_entries.new.table c.in_ok-count.count = kept_passed (header (c.args.message.now)) (entries (c.args.message.now)) c.args.table.now _ _
    (omega (arith, c.requires.header_table_in_bounds))
    (sym (ap as_stage c.in_ok-count.was) ∙ entries-answer) (entries-left) in
    let rules-answer : (as_stage c.judge.result)
    ≡ stage_of (first (rules (c.args.message.now) (names c.args.known.now) c.args.recipient))
    (mode_in (read_texts (header (c.args.message.now)) (c.args.message.now)) (entries (c.args.message.now))) = (let known = names c.args.known.now in
    let m = c.args.message.now in
    c.judge.ensures
    ∙ ap₂ (λ (h : List ℕ) (es : List Entry).
    stage_of (first (recipient_order known (read_texts h m) es c.sizes.result)) (mode_in (read_texts h m) es))
    (read).front (kept).entries
    ∙ ap (λ (z : Sizes).
    stage_of (first (recipient_order known (read_texts (header m) m) (entries m) z))
    (mode_in (read_texts (header m) m) (entries m)))
    (c.sizes.ensures ∙ ap (λ (q : Components). sizes_of (components_of q)) c.requires.q_value)) in
    let spelled : any (misspelled (c.args.message.now)) (places (compact_components (c.args.message.now))) ≡ false = sym (asked_are (c.args.message.now) c.args.q c.requires.q_value) ∙ c.requires.q_value_2 in
    let text = read in
    let table = kept in
    let r = passed_is c.in_ok-mode.mode _ _ (sym (ap as_stage c.in_ok-mode.was) ∙ rules-answer) in
    omega (arith, r.1, mode_low (read_texts (header c.args.message.now) c.args.message.now) (entries c.args.message.now))

pub shape_of-text : goal.shape_of-text
shape_of-text c =
    let header_is : header_text (c.args.message.now) (place_of c.args.q.protected) ≡ header (c.args.message.now) = ap (λ (q : Components). header_text (c.args.message.now) (place_of q.protected)) c.requires.q_value in
    let text-answer : (let h = header (c.args.message.now) in (as_stage c.header.result) ≡ stage_of (first (text_order h)) (length h)) = c.header.ensures.value
    ∙ ap (λ (h : List ℕ). stage_of (first (text_order h)) (length h)) (header_is) in
    let text-left : c.header.new.buffer ≡ header_buffer (header (c.args.message.now)) c.args.text.now = c.header.ensures.buffer_after
    ∙ ap (λ (h : List ℕ). header_buffer h c.args.text.now) (header_is) in
    let read : Read (header (c.args.message.now)) c.args.text.now c.header.new.buffer
    c.in_ok-n.n = read_passed (header (c.args.message.now)) c.args.text.now _ _ c.requires.text_len
    (sym (ap as_stage c.in_ok-n.was) ∙ text-answer) (text-left) in
    (read).same

pub returns : goal.returns
unfolding compact_outcome protected_entries
returns c =
    let header_is : header_text (c.args.message.now) (place_of c.args.q.protected) ≡ header (c.args.message.now) = ap (λ (q : Components). header_text (c.args.message.now) (place_of q.protected)) c.requires.q_value in
    let text-answer : (let h = header (c.args.message.now) in (as_stage c.header.result) ≡ stage_of (first (text_order h)) (length h)) = c.header.ensures.value
    ∙ ap (λ (h : List ℕ). stage_of (first (text_order h)) (length h)) (header_is) in
    let text-left : c.header.new.buffer ≡ header_buffer (header (c.args.message.now)) c.args.text.now = c.header.ensures.buffer_after
    ∙ ap (λ (h : List ℕ). header_buffer h c.args.text.now) (header_is) in
    let read : Read (header (c.args.message.now)) c.args.text.now c.header.new.buffer
    c.in_ok-n.n = read_passed (header (c.args.message.now)) c.args.text.now _ _ c.requires.text_len
    (sym (ap as_stage c.in_ok-n.was) ∙ text-answer) (text-left) in
    let entries-answer : (let m = c.args.message.now in
    (as_stage c.protected_entries.result) ≡ stage_of (first (object_order (header m) (entries m))) (length (entries m))) = c.protected_entries.ensures.value
    ∙ ap (λ (h : List ℕ). stage_of (first (object_order h (protected_entries h))) (length (protected_entries h)))
    (read).front in
    let entries-left : c.protected_entries.new.table
    ≡ collected_table 0 (header (c.args.message.now)) (entries (c.args.message.now)) c.args.table.now = c.protected_entries.ensures.table_after
    ∙ ap
    (λ (h : List ℕ). collected_table 0 h (protected_entries h) c.args.table.now)
    (read).front in
    let kept : Kept (header (c.args.message.now)) (entries (c.args.message.now)) c.args.table.now
    c.protected_entries.new.table c.in_ok-count.count = kept_passed (header (c.args.message.now)) (entries (c.args.message.now)) c.args.table.now _ _
    (omega (arith, c.requires.header_table_in_bounds))
    (sym (ap as_stage c.in_ok-count.was) ∙ entries-answer) (entries-left) in
    let rules-answer : (as_stage c.judge.result)
    ≡ stage_of (first (rules (c.args.message.now) (names c.args.known.now) c.args.recipient))
    (mode_in (read_texts (header (c.args.message.now)) (c.args.message.now)) (entries (c.args.message.now))) = (let known = names c.args.known.now in
    let m = c.args.message.now in
    c.judge.ensures
    ∙ ap₂ (λ (h : List ℕ) (es : List Entry).
    stage_of (first (recipient_order known (read_texts h m) es c.sizes.result)) (mode_in (read_texts h m) es))
    (read).front (kept).entries
    ∙ ap (λ (z : Sizes).
    stage_of (first (recipient_order known (read_texts (header m) m) (entries m) z))
    (mode_in (read_texts (header m) m) (entries m)))
    (c.sizes.ensures ∙ ap (λ (q : Components). sizes_of (components_of q)) c.requires.q_value)) in
    let spelled : any (misspelled (c.args.message.now)) (places (compact_components (c.args.message.now))) ≡ false = sym (asked_are (c.args.message.now) c.args.q c.requires.q_value) ∙ c.requires.q_value_2 in
    let printed : (let m = c.args.message.now in
    Printed (read_texts (header m) m) c.in_ok-count.count
    c.protected_entries.new.table) = (let m = c.args.message.now in
    let ts = read_texts (header m) m in
    kept_printed ts (kept) (entries_stand registered ts (header m) 0 (outermost (header m)) refl)) in
    let text = read in
    let table = kept in
    let r = passed_is c.in_ok-mode.mode _ _ (sym (ap as_stage c.in_ok-mode.was) ∙ rules-answer) in
    let none = first_none (c.args.message.now) _ _ c.requires.message_value (spelled) text.passes table.passes r.0
    c.if-recipient-ge1.false in
    record {
      answers = accepted_are (c.args.message.now) _ _ _ _ c.requires.q_value r.1 text.size table.size
          ∙ answered_accepted (c.args.message.now) (compact_outcome (c.args.message.now)) none;
      same_text = text.same;
      same_table = table.same;
      header = λ z. sym (ap (λ (n : ℕ). take n c.header.new.buffer) text.size) ∙ text.front;
      entries = λ z. (
        table.same,
        (
          omega (arith, table.size, table.fits),
          ap (λ (n : ℕ). entries_of n c.protected_entries.new.table)
              (sym table.size) ∙ table.entries,
        ),
      );
      printed = λ z. subst
          (λ (n : ℕ).
          Printed (read_texts (header (c.args.message.now)) (c.args.message.now)) n
          c.protected_entries.new.table)
          table.size (printed);
    }
