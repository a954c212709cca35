-- An accepted message hands out, laid out as document 01 has it, the header and the entries of exactly the parameters
-- that apply to the recipient that is asked for, and their number; and they fit.
use mathlib.Core.Path.{◌≡◌, ap, sym, subst, ◌∙◌}
use mathlib.Core.Bool.{Bool, true, false, cond}
use mathlib.Core.List.{List}
use Prim.Native.Nat.{ℕ, ◌≤◌, ◌<◌}
use lib.ListN.{length, get_or}
use lib.Dec.{eqb}
use borrow.Author.Tests.{eq-eqb}
use Rattle.prelude.specs.Buffer.{written}
use Rattle.names.specs.Names.{names}
use Rattle.grammar.specs.Places.{placed_text, parts_of}
use Rattle.grammar.specs.Reader.{opens_object}
use Rattle.rows.specs.Rows.{Entry}
use Rattle.rows.specs.Tables.{listed}
use Rattle.prelude.specs.Refusals.{first}
use Rattle.jose.specs.Registered.{registered}
use Rattle.headers.specs.Headers.{header_text, protected_entries, header_entries}
use Rattle.shape.specs.Shape.{member_entries, protected, component}
use Rattle.shape.specs.Recipients.{top_entries, components_in}
use Rattle.jwe.proofs.Outcomes.{by_form}
use Rattle.jwe.specs.Compact.{compact_order}
use Rattle.jwe.specs.General.{shared_entries, own_entries, parameters, json_order}
use Rattle.jwe.specs.Judge.{Call, call_for, refusal, Outcome, outcome, accepted, refused}
use Rattle.jwe.specs.Inner.Outcomes.{compact_outcome, outcome_of, json_outcome}
use Rattle.jwe.specs.Judge.{result_of, header_after, list_after}
use Rattle.meets.specs.Handed.{Rows, entries, count, Applies}
use Rattle.meets.specs.Meets.{Meets}
use Rattle.meets.specs.Meets as meets
use Rattle.meets.proofs.Rows.{unread_decides}
use Rattle.meets.proofs.CompactDecided.{compact_decided}
use Rattle.meets.proofs.HandedOut.{listed_rows, counted_rows, outermost_rows, compact_rows, compact_applies}
use Rattle.meets.proofs.HandedOut.{compact_listed}
use Rattle.meets.proofs.MemberPlaced.{entries_at}
use Rattle.meets.proofs.JsonPassed.{Passed, json_passed}
use Rattle.meets.proofs.JsonApplies.{rows_for, rows_apply}
use Rattle.meets.proofs.HandedFits.{form_tests, form_passed, handed_fits}

-- The outcome for a recipient is what applies to it.
pub record Handed (message : List ℕ) (recipient : ℕ) (o : Outcome) : Type 0 where
  pub rows : Rows
  pub applies : Applies message recipient o.header rows
  pub list : listed o.entries ≡ entries rows
  pub size : length o.entries ≡ count rows

module _ (known : List (List ℕ)) (message : List ℕ) (recipient : ℕ) where
  compact_handed : first (compact_order message known recipient) ≡ 0 → Handed message recipient (compact_outcome message)
  unfolding compact_outcome
  compact_handed e =
      let l = compact_listed message in
      record {
        rows = compact_rows (compact_outcome message).header;
        applies = compact_applies known message recipient ((compact_decided known message recipient).0 e).0;
        list = l.0;
        size = l.1;
      }

  json_applies : first (json_order message known recipient) ≡ 0 →
      Applies message recipient (header_text message (component protected (top_entries message)))
      (rows_for message recipient (top_entries message))
  unfolding top_entries member_entries
  json_applies e =
      let p = json_passed known message recipient e in
      let r = (unread_decides message).0 p.0 in
      let same : top_entries message ≡ entries_at message (parts_of (placed_text r.text)) =
      ap (member_entries message) (outermost_rows message r) in
      subst (λ (es : List Entry). Applies message recipient (header_text message (component protected es))
      (rows_for message recipient es)) (sym same)
      (rows_apply message recipient r (subst (λ (es : List Entry). Passed message recipient es) same p.1))

  json_handed : first (json_order message known recipient) ≡ 0 →
      Handed message recipient (json_outcome message recipient)
  unfolding json_outcome outcome_of components_in parameters shared_entries own_entries protected_entries header_entries
  json_handed e =
      let es = top_entries message in
      let header = header_text message (component protected es) in
      record {
        rows = rows_for message recipient es;
        applies = json_applies e;
        list = listed_rows registered header message (rows_for message recipient es);
        size = counted_rows registered header message (rows_for message recipient es);
      }

-- Where nothing is refused.
module _ (c : Call) where
  abbrev message : List ℕ
  message = c.message

  abbrev recipient : ℕ
  recipient = c.recipient

  pub outcome_handed : refusal c ≡ 0 → Handed c.message c.recipient (outcome c.message c.recipient)
  outcome_handed e =
      by_form message recipient (Handed message recipient) (cases (opens_object message) (form_passed c e).2)
    where
      cases : (b : Bool) → first (form_tests c b) ≡ 0 →
          Handed message recipient (cond b (json_outcome message recipient) (compact_outcome message))
      cases true f = json_handed (names c.known) message recipient f
      cases false f = compact_handed (names c.known) message recipient f

  -- What is in the lent memory afterwards, and the two lengths in the result (its last two numbers).
  module _ (buffer list : List ℕ) where
    pub record HandedOut : Type 0 where
      pub header : List ℕ
      pub rows : Rows
      pub applies : Applies c.message c.recipient header rows
      pub header_is : header_after c buffer ≡ written 0 header buffer
      pub list_is : list_after c list ≡ written 0 (entries rows) list
      pub header_fits : length header ≤ c.header_lent
      pub list_fits : length (entries rows) ≤ c.list_lent
      pub header_length : get_or (result_of c) 16 0 ≡ length header
      pub parameter_count : get_or (result_of c) 17 0 ≡ count rows

    pub handed_exactly : refusal c ≡ 0 → HandedOut
    unfolding header_after list_after result_of accepted
    handed_exactly e =
        let n = refusal c in
        let o = outcome message recipient in
        let h = outcome_handed e in
        let fits = handed_fits c e in
        let none : eqb n 0 ≡ true = eq-eqb n 0 e in
        record {
          header = o.header;
          rows = h.rows;
          applies = h.applies;
          header_is = ap (λ (b : Bool). cond b (written 0 o.header buffer) buffer) none;
          list_is =
              ap (λ (b : Bool). cond b (written 0 (listed o.entries) list) list) none
              ∙ ap (λ (xs : List ℕ). written 0 xs list) h.list;
          header_fits = fits.0;
          list_fits = subst (λ (xs : List ℕ). length xs ≤ c.list_lent) h.list fits.1;
          header_length = ap (λ (b : Bool). get_or (cond b (accepted message o) (refused n)) 16 0) none;
          parameter_count = ap (λ (b : Bool). get_or (cond b (accepted message o) (refused n)) 17 0) none ∙ h.size;
        }

-- What meets the rules for one recipient does for each below the count.
pub each_recipient : (c : Call) (m : Meets c) (n : ℕ) → n < meets.count m.form → Meets (call_for n c)
each_recipient c m n h = record {
  room = m.room;
  size = m.size;
  list = m.list;
  form = m.form;
  asked = h;
}
