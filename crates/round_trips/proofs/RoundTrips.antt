-- The two round trips (demand 2), by what the contracts of `write`, `read`, `component` and `decode` cite, and when the writer
-- refuses nothing.
use mathlib.Core.Path.{◌≡◌, refl, ap, sym, subst, ◌∙◌}
use mathlib.Core.Bool.{Bool, true, false, cond}
use mathlib.Core.Logic.{◌↔◌}
use mathlib.Core.List.{List}
use Prim.Native.Nat.{ℕ, ◌≤◌}
use lib.ListN.{length, get_or}
use lib.Dec.{eqb}
use native.Mathlib.Omega.{arith}
use borrow.Author.Tests.{eq-eqb, eqb-true}
use Rattle.prelude.specs.Buffer.{written}
use Rattle.prelude.specs.Limits.{header_room, list_room}
use Rattle.prelude.proofs.Writing.{begins}
use Rattle.grammar.specs.Reader.{opens_object}
use Rattle.rows.specs.Tables.{listed}
use Rattle.headers.specs.Components.{Components}
use Rattle.jwe.specs.Compact.{compact_components}
use Rattle.jwe.specs.Judge.{Call, call, Outcome, refusal, refused, outcome, accepted, places_in}
use Rattle.jwe.specs.Judge.{result_of, header_after, list_after}
use Rattle.jwe_write.specs.Write.{Raw, compact_text, write_refusal}
use Rattle.meets.specs.Meets.{Meets}
use Rattle.meets.proofs.Accepted.{accepted_exactly}
use Rattle.meets.proofs.HeaderOctets.{encoded_opens_none}
use Rattle.round_trips.specs.Trips.{RawOctets, written_places, written_outcome, AllComeBack, wrote, ReadsBack}
use Rattle.round_trips.specs.Trips.{taken_apart, WritesBack}
use Rattle.round_trips.proofs.ComingBack.{all_come_back}
use Rattle.round_trips.proofs.Passing.{write_decided}
use Rattle.round_trips.proofs.Places.{spelled, written_stands}
use Rattle.round_trips.proofs.WrittenReads as WrittenReads
use Rattle.round_trips.proofs.ReadWrites.{compact_form_lem, places_read, raw, raw_octets, stands, taken, same_text_lem}
use Rattle.round_trips.proofs.ReadWrites.{written_again}

-- What is written reads back

-- What the writer left is the message.
wrote_is : (c : Raw) (known out : List ℕ) → write_refusal c known (length out) ≡ 0 → wrote c known out ≡ compact_text c
wrote_is c known out e =
    let z = eq-eqb (write_refusal c known (length out)) 0 e in
    begins _ (compact_text c) _ out (sym (ap (λ (b : Bool). cond b (length (compact_text c)) 0) z))
    (ap (λ (b : Bool). cond b (written 0 (compact_text c) out) out) z)

module _ (c : Raw) (known out buffer list : List ℕ) (o : RawOctets c) (e : write_refusal c known (length out) ≡ 0)
    (h : header_room ≤ length buffer) (l : list_room ≤ length list) where
  abbrev message : List ℕ
  message = compact_text c

  abbrev reading : Call
  reading = call message known 0 (length buffer) (length list)

  passes : eqb (refusal reading) 0 ≡ true
  passes = eq-eqb _ 0 (WrittenReads.accepted c o known (length out) e (length buffer) (length list) h l)

  same : outcome message 0 ≡ written_outcome c
  same = WrittenReads.handed c o known (length out) e

  result_is : result_of reading ≡ accepted message (written_outcome c)
  unfolding result_of
  result_is =
      ap (λ (b : Bool). cond b (accepted message (outcome message 0)) (refused (refusal reading))) passes
      ∙ ap (accepted message) same

  reads_back : ReadsBack c reading buffer list
  unfolding header_after list_after accepted written_outcome
  reads_back = record {
    accepted = ap (λ (r : List ℕ). get_or r 0 0) result_is;
    compact = ap (λ (r : List ℕ). get_or r 1 0) result_is;
    header_left =
        ap (λ (b : Bool). cond b (written 0 (outcome message 0).header buffer) buffer) passes
        ∙ ap (λ (x : Outcome). written 0 x.header buffer) same;
    list_left =
        ap (λ (b : Bool). cond b (written 0 (listed (outcome message 0).entries) list) list) passes
        ∙ ap (λ (x : Outcome). written 0 (listed x.entries) list) same;
    components =
        subst (λ (q : Components). AllComeBack message q c) (sym (ap places_in result_is))
        (all_come_back message (written_places c) c o (written_stands c o));
  }

  pub written_reads_back : ReadsBack c (call (wrote c known out) known 0 (length buffer) (length list)) buffer list
  written_reads_back =
      subst (λ (m : List ℕ). ReadsBack c (call m known 0 (length buffer) (length list)) buffer list)
      (sym (wrote_is c known out e)) reads_back

-- What is read writes back

module _ (c : Call) where
  abbrev number : ℕ
  number = refusal c

  abbrev answer : List ℕ
  answer = result_of c

  abbrev handed : Outcome
  handed = outcome c.message c.recipient

  pub number_first : get_or answer 0 0 ≡ number
  unfolding result_of accepted refused
  number_first = cases (eqb number 0) refl
    where
      cases : (b : Bool) → eqb number 0 ≡ b →
          get_or (cond b (accepted c.message handed) (refused number)) 0 0 ≡ number
      cases true t = sym (eqb-true number 0 t)
      cases false t = refl

  module _ (zero : get_or answer 0 0 ≡ 0) where
    passed : number ≡ 0
    passed = sym number_first ∙ zero

    answer_is : answer ≡ accepted c.message handed
    unfolding result_of
    answer_is =
        ap (λ (b : Bool). cond b (accepted c.message handed) (refused number)) (eq-eqb number 0 passed)

    module _ (form : get_or answer 1 0 ≡ 0) where
      compact : opens_object c.message ≡ false
      unfolding accepted
      compact = compact_form_lem c.message c.recipient (sym (ap (λ (r : List ℕ). get_or r 1 0) answer_is) ∙ form)

      places_are_read : places_in answer ≡ compact_components c.message
      unfolding accepted
      places_are_read = ap places_in answer_is ∙ places_read c.message c.recipient compact

      writes_back : (out : List ℕ) → length c.message ≤ length out →
          WritesBack c.message c.known out (compact_components c.message)
      writes_back out fits =
          let message = c.message in
          let (s, e) = written_again c (length out) passed compact fits in
          let t = taken message s in
          let text = ap compact_text t ∙ same_text_lem message s in
          let x = taken_apart message (compact_components message) in
          let refuses : write_refusal x c.known (length out) ≡ 0 =
          ap (λ (y : Raw). write_refusal y c.known (length out)) t ∙ e in
          let z = eq-eqb _ 0 refuses in
          record {
            components =
                subst (λ (y : Raw). AllComeBack message (compact_components message) y) (sym t)
                (all_come_back message (compact_components message) (raw message s) (raw_octets message s) (stands message s));
            accepted = refuses;
            count = ap (λ (b : Bool). cond b (length (compact_text x)) 0) z ∙ ap length text;
            left =
                ap (λ (b : Bool). cond b (written 0 (compact_text x) out) out) z
                ∙ ap (λ (m : List ℕ). written 0 m out) text;
          }

      pub read_writes_back : (out : List ℕ) → length c.message ≤ length out →
          WritesBack c.message c.known out (places_in answer)
      read_writes_back out fits =
          subst (λ (q : Components). WritesBack c.message c.known out q) (sym places_are_read) (writes_back out fits)

-- When the writer refuses nothing

opens_none : (c : Raw) → RawOctets c → opens_object (compact_text c) ≡ false
unfolding compact_text
opens_none c o = encoded_opens_none c.header _ o.header

pub writes_exactly : (c : Raw) (known : List ℕ) (room : ℕ) → RawOctets c →
    (write_refusal c known room ≡ 0)
    ↔ (Meets (call (compact_text c) known 0 header_room list_room) × (length (compact_text c) ≤ room))
writes_exactly c known room o = (
  (λ e. (
    (accepted_exactly (call (compact_text c) known 0 header_room list_room)).0
        (WrittenReads.accepted c o known room e header_room list_room (omega arith) (omega arith)),
    ((write_decided c known room).0 e).fits,
  )),
  (λ w.
      let m = compact_text c in
      let none = opens_none c o in
      let read = call m known 0 header_room list_room in
      let (s, e) = written_again read room ((accepted_exactly read).1 w.0) none w.1 in
      let t : raw m s ≡ c = sym (taken m s) ∙ taken m (spelled c o) in
      ap (λ (x : Raw). write_refusal x known room) (sym t) ∙ e),
)
