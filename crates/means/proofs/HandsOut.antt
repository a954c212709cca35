-- Demand 3 in one piece: what is handed out for each recipient below the count applies to it, nothing else does, and it is
-- the header's octets and a row for each parameter of what the message meets.
use mathlib.Core.Path.{◌≡◌, ap, ap₂, sym, subst, ◌∙◌}
use mathlib.Core.List.{List, ◌++◌}
use Prim.Native.Nat.{ℕ, ◌+◌, ◌≤◌, ◌<◌}
use lib.ListN.{length, length-append}
use Rattle.grammar.specs.Places.{placed_text, parts_of}
use Rattle.rows.specs.Rows.{Entry, value_of}
use Rattle.headers.specs.Headers.{header_text}
use Rattle.shape.specs.Shape.{member_entries, component}
use Rattle.shape.specs.Recipients.{top_entries, recipients_in}
use Rattle.jwe.specs.Compact.{compact_components}
use Rattle.jwe.specs.Judge.{Call, call_for, refusal, asked}
use Rattle.meets.specs.Rules.{Headers, parameters}
use Rattle.meets.specs.Meets.{Json, Message, compact, json, count, Meets}
use Rattle.meets.specs.Handed.{Rows, entries, Applies}
use Rattle.meets.specs.Handed as handed
use Rattle.meets.proofs.HandedOut.{outermost_rows, compact_rows, compact_applies}
use Rattle.meets.proofs.HandedExactly.{handed_exactly, each_recipient}
use Rattle.meets.proofs.MemberPlaced.{entries_at}
use Rattle.meets.proofs.JsonApplies.{rows_for, rows_apply}
use Rattle.meets.proofs.JsonPassed.{Passed}
use Rattle.meets.proofs.AppliesOnce.{reading_passed, applies_once, applies_handed}
use Rattle.meets.proofs.Accepted.{accepted_exactly}
use Rattle.means.specs.Means.{header_of, headers_of, RowShows, RowsShow, HandsOut}
use Rattle.means.proofs.FormTold.{form_told}
use Rattle.meets.proofs.OneForOne.{zip_length}
use Rattle.means.proofs.OneReading.{message_read_lem, header_read_lem}
use Rattle.means.proofs.RowsShown.{outermost_show, members_show}
use Rattle.means.proofs.JsonStands.{json_stands}
use Rattle.means.proofs.ResultMeans.{compact_header, compact_stand}

-- As many rows as parameters.
rows_counted : (header message : List ℕ) (h : Headers) (x : Rows) → RowsShow header message h x →
    handed.count x ≡ length (parameters h)
rows_counted header message h x s =
    ap₂ ◌+◌ (sym (zip_length (RowShows header) h.protected x.protected s.protected))
    (ap₂ ◌+◌ (sym (zip_length (RowShows message) h.shared x.shared s.shared))
    (sym (zip_length (RowShows message) h.own x.own s.own)))
    ∙ sym (length-append h.protected (h.shared ++ h.own)
    ∙ ap (λ (k : ℕ). length h.protected + k) (length-append h.shared h.own))

-- A header and rows that apply and are those of what the message meets.
record Applied {names : List (List ℕ)} {message : List ℕ} (f : Message names message) (n : ℕ) : Type 0 where
  header : List ℕ
  rows : Rows
  applies : Applies message n header rows
  header_is : header ≡ header_of f
  shows : RowsShow header message (headers_of f n) rows

json_applied : (names : List (List ℕ)) (message : List ℕ) (j : Json names message) (n : ℕ) →
    n < length j.recipients →
    Passed message n (entries_at message (parts_of (placed_text j.reading.text))) → Applied (json j) n
unfolding top_entries member_entries
json_applied names message j n below passed =
    let es = top_entries message in
    let H = header_text message (component 1 es) in
    let s = json_stands names message j n below in
    let same : top_entries message ≡ entries_at message (parts_of (placed_text j.reading.text)) =
    ap (member_entries message) (outermost_rows message j.reading) in
    record {
      header = H;
      rows = rows_for message n es;
      applies =
          subst (λ (fs : List Entry).
          Applies message n (header_text message (component 1 fs)) (rows_for message n fs))
          (sym same) (rows_apply message n j.reading passed);
      header_is = s.header_is;
      shows = record {
        protected = outermost_show H j.protected s.protected;
        shared = members_show message (value_of 2 es).start j.shared s.shared;
        own = members_show message (asked (recipients_in message es) n).header (headers_of (json j) n).own s.own;
      };
    }

module _ (c : Call) (passes : refusal c ≡ 0) where
  abbrev message : List ℕ
  message = c.message

  abbrev n : ℕ
  n = c.recipient

  applied : (names : List (List ℕ)) (f : Message names message) → n < count f → Applied f n
  applied names (compact x) below =
      let header = header_text message (compact_components message).protected in
      record {
        header = header;
        rows = compact_rows header;
        applies = compact_applies names message n x;
        header_is = compact_header names message x n;
        shows = record {
          protected = outermost_show header (headers_of (compact x) n).protected (compact_stand names message x n);
          shared = tt;
          own = tt;
        };
      }
  applied names (json j) below = json_applied names message j n below (reading_passed c passes j.reading)

  pub passed_hands : (names : List (List ℕ)) (f : Message names c.message) → c.recipient < count f →
      (buffer list : List ℕ) → HandsOut c buffer list f
  passed_hands names f below buffer list =
      let a = applied names f below in
      let h = handed_exactly c buffer list passes in
      let t = applies_handed c buffer list passes a.header a.rows a.applies in
      let once = applies_once c passes in
      let e = once h.header a.header h.rows a.rows h.applies a.applies in
      record {
        header = a.header;
        rows = a.rows;
        applies = a.applies;
        only = λ k x b. once k a.header x a.rows b a.applies;
        header_left = t.0;
        list_left = t.1;
        header_fits = subst (λ (w : List ℕ). length w ≤ c.header_lent) e.0 h.header_fits;
        list_fits = subst (λ (x : Rows). length (entries x) ≤ c.list_lent) e.1 h.list_fits;
        header_length = t.2;
        parameter_count = t.3;
        header_is = a.header_is;
        shows = a.shows;
        counted = rows_counted a.header message (headers_of f n) a.rows a.shows;
        message_read = λ o. message_read_lem f ((form_told f).1 o);
        header_read = header_read_lem message n a.header a.rows a.applies;
      }

-- For each recipient below the count.
pub hands_out : (c : Call) (m : Meets c) (n : ℕ) → n < count m.form → (buffer list : List ℕ) →
    HandsOut (call_for n c) buffer list m.form
hands_out c m n below =
    passed_hands (call_for n c) ((accepted_exactly (call_for n c)).1 (each_recipient c m n below)) m.list.names m.form below
