-- `hold` hands up the refusals of the top level, of the elements and of the components in their order; what stands in its
-- tables then is the message's members and recipients.
use mathlib.Core.Path.{refl, ◌≡◌, ap, sym, subst, ◌∙◌}
use mathlib.Core.Bool.{false}
use mathlib.Core.List.{List}
use Prim.Native.Nat.{◌*◌, ◌≤◌}
use native.Mathlib.Omega.{arith}
use lib.ListN.{length, replicate}
use Rattle.prelude.specs.Buffer.{written}
use Rattle.names.specs.Names.{names}
use Rattle.rows.specs.Tables.{entries_of}
use Rattle.prelude.specs.Refusals.{first, as_stage}
use Rattle.headers.specs.Components.{absent}
use Rattle.headers.proofs.Stages.{passed_is, refused_is}
use Rattle.shape.specs.Shape.{Recipient}
use Rattle.shape.specs.Recipients.{Top, top_of, top_entries, top_order, elements_order, recipients_in}
use Rattle.shape.specs.Inner.Answers.{flat_recipients, recipient_width, top_in}
use Rattle.shape.proofs.Objects.{top_written}
use Rattle.shape.proofs.Forms.{all_written}
use Rattle.shape.proofs.Known.{shared_known, own_known}
use Rattle.jwe.specs.General.{any_misspelled}
use Rattle.jwe.specs.Inner.Stages.{HeaderKnown, HeadersKnown, recipients_of}
use Rattle.jwe.proofs.JsonOrder.{json_top, json_elements, json_misspelled}
use Rattle.jwe.proofs.JsonHeaders.{no_component}
use Rattle.jwe.proofs.JsonTop.{top_is, elements_as, listed_is, misspelled_as, protected_sound}
use Rattle.jwe.proofs.HeldTables.{holds_refused, holds_handed, holds_json}
use Rattle.jwe.proofs.Exits.{hands_up_holding}
use Rattle.jwe.specs.Answers.{as_holding}
use Rattle.jwe.proofs.general.hold.Goals as goal

pub top-requires : goal.top-requires
top-requires c =
    record {
      message_len_bound = c.requires.message_len_bound;
      header_table_in_bounds = omega arith;
    }

pub returns-in_err-count : goal.returns-in_err-count
returns-in_err-count c =
    let args = c.args in
    let m = args.message.now in
    let refusal = (ap as_stage c.in_err-count.was) in
    let told = refused_is _ (first (top_order m)) (length (top_entries m)) (sym refusal ∙ c.top.ensures.value) in
    holds_handed m _ _ _ (json_top m (names args.known.now) 0 told.0 told.1) told.1 _ _ _ _ _ _
    (hands_up_holding _ _ c.in_err-count.was _ c.from_residual.ensures.1) refusal

pub invariant_of-members : goal.invariant_of-members
invariant_of-members c =
    let tops : (let m = c.args.message.now in
    (first (top_order m) ≡ 0) × ((c.in_ok-count.count ≤ 32) × ((entries_of c.in_ok-count.count c.top.new.table) ≡ top_entries m))) = (let m = c.args.message.now in
    let told = sym (ap as_stage c.in_ok-count.was) ∙ c.top.ensures.value in
    let passed = passed_is _ (first (top_order m)) (length (top_entries m)) told in
    top_is m (replicate 256 0) c.top.new.table _ told
    (c.top.ensures.table_after ∙ top_written m (replicate 256 0) passed.0)) in
    record { fits = omega (arith, (tops).1.0, c.top.auto.table) }

pub recipients-requires : goal.recipients-requires
recipients-requires c =
    let tops : (let m = c.args.message.now in
    (first (top_order m) ≡ 0) × ((c.in_ok-count.count ≤ 32) × ((entries_of c.in_ok-count.count c.top.new.table) ≡ top_entries m))) = (let m = c.args.message.now in
    let told = sym (ap as_stage c.in_ok-count.was) ∙ c.top.ensures.value in
    let passed = passed_is _ (first (top_order m)) (length (top_entries m)) told in
    top_is m (replicate 256 0) c.top.new.table _ told
    (c.top.ensures.table_after ∙ top_written m (replicate 256 0) passed.0)) in
    let top = tops in
    record {
      message_len_bound = c.requires.message_len_bound;
      recipients_room_in_bounds = omega (arith, c.requires.of_len);
      message_value = top.0;
      members_value = top.1.1;
    }

pub shape_of-of-in_err-number : goal.shape_of-of-in_err-number
shape_of-of-in_err-number c = c.recipients.auto.into

pub returns-in_err-number : goal.returns-in_err-number
returns-in_err-number c =
    let tops : (let m = c.args.message.now in
    (first (top_order m) ≡ 0) × ((c.in_ok-count.count ≤ 32) × ((entries_of c.in_ok-count.count c.top.new.table) ≡ top_entries m))) = (let m = c.args.message.now in
    let told = sym (ap as_stage c.in_ok-count.was) ∙ c.top.ensures.value in
    let passed = passed_is _ (first (top_order m)) (length (top_entries m)) told in
    top_is m (replicate 256 0) c.top.new.table _ told
    (c.top.ensures.table_after ∙ top_written m (replicate 256 0) passed.0)) in
    let args = c.args in
    let m = args.message.now in
    let top = tops in
    let fs = (entries_of c.in_ok-count.count c.top.new.table) in
    let refusal = (ap as_stage c.in_err-number.was) in
    let told = refused_is _ (first (elements_order m fs)) (length (recipients_in m fs))
    (sym refusal ∙ c.recipients.ensures.value) in
    holds_handed m _ _ _
    (json_elements m (names args.known.now) 0 top.0 (sym (elements_as m (top_entries m) fs top.1.1) ∙ told.0) told.1)
    told.1 _ _ _ _ _ _ (hands_up_holding _ _ c.in_err-number.was _ c.from_residual-in_err-number.ensures.1) refusal

pub misspelled-requires : goal.misspelled-requires
misspelled-requires c =
    let tops : (let m = c.args.message.now in
    (first (top_order m) ≡ 0) × ((c.in_ok-count.count ≤ 32) × ((entries_of c.in_ok-count.count c.top.new.table) ≡ top_entries m))) = (let m = c.args.message.now in
    let told = sym (ap as_stage c.in_ok-count.was) ∙ c.top.ensures.value in
    let passed = passed_is _ (first (top_order m)) (length (top_entries m)) told in
    top_is m (replicate 256 0) c.top.new.table _ told
    (c.top.ensures.table_after ∙ top_written m (replicate 256 0) passed.0)) in
    let lists : (let m = c.args.message.now in
    (first (elements_order m (top_entries m)) ≡ 0)
    × (((1 ≤ c.in_ok-number.number) × (c.in_ok-number.number ≤ 8)) × ((recipients_of c.in_ok-number.number c.recipients.new.into) ≡ recipients_in m (top_entries m)))) = (let m = c.args.message.now in
    let fs = (entries_of c.in_ok-count.count c.top.new.table) in
    let told = sym (ap as_stage c.in_ok-number.was) ∙ c.recipients.ensures.value in
    let passed = passed_is _ (first (elements_order m fs)) (length (recipients_in m fs)) told in
    listed_is m (top_entries m) fs (tops).1.1 c.args.of.now c.recipients.new.into _ told
    (c.recipients.ensures.into_after ∙ ap (λ (rs : List Recipient). written 0 (flat_recipients rs) c.args.of.now)
    (all_written m fs passed.0))) in
    let room : c.in_ok-number.number * recipient_width ≤ length c.recipients.new.into = omega (arith, (lists).1.0.1, c.recipients.auto.into, c.requires.of_len) in
    room

pub shape_of-of-then-misspelled : goal.shape_of-of-then-misspelled
shape_of-of-then-misspelled c = c.recipients.auto.into

pub returns-then-misspelled : goal.returns-then-misspelled
returns-then-misspelled c =
    let tops : (let m = c.args.message.now in
    (first (top_order m) ≡ 0) × ((c.in_ok-count.count ≤ 32) × ((entries_of c.in_ok-count.count c.top.new.table) ≡ top_entries m))) = (let m = c.args.message.now in
    let told = sym (ap as_stage c.in_ok-count.was) ∙ c.top.ensures.value in
    let passed = passed_is _ (first (top_order m)) (length (top_entries m)) told in
    top_is m (replicate 256 0) c.top.new.table _ told
    (c.top.ensures.table_after ∙ top_written m (replicate 256 0) passed.0)) in
    let lists : (let m = c.args.message.now in
    (first (elements_order m (top_entries m)) ≡ 0)
    × (((1 ≤ c.in_ok-number.number) × (c.in_ok-number.number ≤ 8)) × ((recipients_of c.in_ok-number.number c.recipients.new.into) ≡ recipients_in m (top_entries m)))) = (let m = c.args.message.now in
    let fs = (entries_of c.in_ok-count.count c.top.new.table) in
    let told = sym (ap as_stage c.in_ok-number.was) ∙ c.recipients.ensures.value in
    let passed = passed_is _ (first (elements_order m fs)) (length (recipients_in m fs)) told in
    listed_is m (top_entries m) fs (tops).1.1 c.args.of.now c.recipients.new.into _ told
    (c.recipients.ensures.into_after ∙ ap (λ (rs : List Recipient). written 0 (flat_recipients rs) c.args.of.now)
    (all_written m fs passed.0))) in
    let holds : top_in c.held-top.result ≡ top_of (top_entries (c.args.message.now)) = c.held-top.ensures ∙ ap top_of (tops).1.1 in
    let spelled : (let m = c.args.message.now in c.misspelled.result ≡ any_misspelled m (top_entries m)) = (let m = c.args.message.now in
    c.misspelled.ensures ∙ misspelled_as m (top_entries m) _ _ (holds) (lists).1.1) in
    let args = c.args in
    holds_refused args.message.now _ _ _
    (json_misspelled args.message.now (names args.known.now) 0
    (tops).0 (lists).0 (sym (spelled) ∙ c.if-misspelled.true))
    (omega arith) _ _ _ _ _ refl

pub shaped-requires : goal.shaped-requires
shaped-requires c =
    let tops : (let m = c.args.message.now in
    (first (top_order m) ≡ 0) × ((c.in_ok-count.count ≤ 32) × ((entries_of c.in_ok-count.count c.top.new.table) ≡ top_entries m))) = (let m = c.args.message.now in
    let told = sym (ap as_stage c.in_ok-count.was) ∙ c.top.ensures.value in
    let passed = passed_is _ (first (top_order m)) (length (top_entries m)) told in
    top_is m (replicate 256 0) c.top.new.table _ told
    (c.top.ensures.table_after ∙ top_written m (replicate 256 0) passed.0)) in
    let lists : (let m = c.args.message.now in
    (first (elements_order m (top_entries m)) ≡ 0)
    × (((1 ≤ c.in_ok-number.number) × (c.in_ok-number.number ≤ 8)) × ((recipients_of c.in_ok-number.number c.recipients.new.into) ≡ recipients_in m (top_entries m)))) = (let m = c.args.message.now in
    let fs = (entries_of c.in_ok-count.count c.top.new.table) in
    let told = sym (ap as_stage c.in_ok-number.was) ∙ c.recipients.ensures.value in
    let passed = passed_is _ (first (elements_order m fs)) (length (recipients_in m fs)) told in
    listed_is m (top_entries m) fs (tops).1.1 c.args.of.now c.recipients.new.into _ told
    (c.recipients.ensures.into_after ∙ ap (λ (rs : List Recipient). written 0 (flat_recipients rs) c.args.of.now)
    (all_written m fs passed.0))) in
    let holds : top_in c.held-top.result ≡ top_of (top_entries (c.args.message.now)) = c.held-top.ensures ∙ ap top_of (tops).1.1 in
    let room : c.in_ok-number.number * recipient_width ≤ length c.recipients.new.into = omega (arith, (lists).1.0.1, c.recipients.auto.into, c.requires.of_len) in
    let m = c.args.message.now in
    let top = tops in
    let rows = lists in
    let is = sym (holds) in
    let shared = subst (λ (t : Top). HeaderKnown m t.shared) is (shared_known m top.0) in
    let own = subst (HeadersKnown m) (sym rows.1.1) (own_known m top.0 rows.0) in
    let none = subst (λ (t : Top). t.protected ≡ false → t.components.protected ≡ absent) is
    (no_component 1 (top_entries m)) in
    let sound = sym c.misspelled.ensures ∙ c.if-misspelled.false in
    record {
      message_len_bound = c.requires.message_len_bound;
      known_value = c.requires.known_value;
      le_number = rows.1.0.0;
      number_le_most_recipients = rows.1.0.1;
      recipient_width_in_bounds = room;
      top_value = protected_sound m _ _ sound;
      top_value_2 = none;
      text_len = c.requires.text_len;
      table_len = c.requires.table_len;
      own_len = c.requires.own_len;
      counts_len = c.requires.counts_len;
      header_known = shared;
      headers_known = own;
    }

pub shape_of-of : goal.shape_of-of
shape_of-of c = c.recipients.auto.into

pub returns : goal.returns
returns c =
    let tops : (let m = c.args.message.now in
    (first (top_order m) ≡ 0) × ((c.in_ok-count.count ≤ 32) × ((entries_of c.in_ok-count.count c.top.new.table) ≡ top_entries m))) = (let m = c.args.message.now in
    let told = sym (ap as_stage c.in_ok-count.was) ∙ c.top.ensures.value in
    let passed = passed_is _ (first (top_order m)) (length (top_entries m)) told in
    top_is m (replicate 256 0) c.top.new.table _ told
    (c.top.ensures.table_after ∙ top_written m (replicate 256 0) passed.0)) in
    let lists : (let m = c.args.message.now in
    (first (elements_order m (top_entries m)) ≡ 0)
    × (((1 ≤ c.in_ok-number.number) × (c.in_ok-number.number ≤ 8)) × ((recipients_of c.in_ok-number.number c.recipients.new.into) ≡ recipients_in m (top_entries m)))) = (let m = c.args.message.now in
    let fs = (entries_of c.in_ok-count.count c.top.new.table) in
    let told = sym (ap as_stage c.in_ok-number.was) ∙ c.recipients.ensures.value in
    let passed = passed_is _ (first (elements_order m fs)) (length (recipients_in m fs)) told in
    listed_is m (top_entries m) fs (tops).1.1 c.args.of.now c.recipients.new.into _ told
    (c.recipients.ensures.into_after ∙ ap (λ (rs : List Recipient). written 0 (flat_recipients rs) c.args.of.now)
    (all_written m fs passed.0))) in
    let holds : top_in c.held-top.result ≡ top_of (top_entries (c.args.message.now)) = c.held-top.ensures ∙ ap top_of (tops).1.1 in
    let spelled : (let m = c.args.message.now in c.misspelled.result ≡ any_misspelled m (top_entries m)) = (let m = c.args.message.now in
    c.misspelled.ensures ∙ misspelled_as m (top_entries m) _ _ (holds) (lists).1.1) in
    let args = c.args in
    let top = tops in
    let rows = lists in
    holds_json args.message.now (names args.known.now) top.0 rows.0 (sym (spelled) ∙ c.if-misspelled.false)
    (as_holding c.shaped.result) _ _ _ _ _ _ _ (holds) rows.1.1 c.shaped.ensures
