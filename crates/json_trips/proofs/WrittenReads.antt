-- What the JSON writer leaves is read back for each recipient: json_message has what the reader hands out of it, and here that is
-- said of the result and of the lent memory.
use mathlib.Core.Path.{◌≡◌, ap, sym, subst, ◌∙◌}
use mathlib.Core.Bool.{Bool, true, cond}
use mathlib.Core.List.{List, [], ◌∷◌}
use Prim.Native.Nat.{ℕ, zero, suc, ◌≤◌, ◌<◌}
use native.Mathlib.Omega.{arith}
use lib.ListN.{length, get_or}
use lib.Dec.{eqb}
use borrow.Author.Tests.{eq-eqb}
use Rattle.prelude.specs.Buffer.{AllBelow, written}
use Rattle.prelude.specs.Limits.{header_room, list_room}
use Rattle.prelude.specs.Result.{number_at, form_at, recipients_at, header_at, parameters_at}
use Rattle.prelude.proofs.Writing.{begins}
use Rattle.grammar.specs.Bounds.{Every}
use Rattle.rows.specs.Rows.{Entry}
use Rattle.rows.specs.Tables.{listed}
use Rattle.jwe.specs.Judge.{Call, call, Outcome, refusal, refused, outcome, accepted, places_in, result_of, header_after}
use Rattle.jwe.specs.Judge.{list_after}
use Rattle.recipients.specs.Table.{RawRecipient}
use Rattle.recipients.specs.Parsed.{said_count, recipients_in}
use Rattle.recipients.proofs.Places.{recipients_count}
use Rattle.json_message.specs.JsonWrite.{RawJson, message_of, written_text, json_write_refusal}
use Rattle.json_message.specs.Handed.{numbered_recipient, JsonHanded}
use Rattle.json_message.proofs.Theorems.{written_reads_back}
use Rattle.meets.proofs.Accepted.{list_decided}
use Rattle.round_trips.proofs.ComingBack.{comes_back}
use Rattle.json_trips.specs.JsonTrips.{JsonOctets, json_wrote, given_recipient, JsonComeBack, TextsComeBack, JsonReadsBack}
use Rattle.json_trips.proofs.Given.{message_octets, some_given, few_given, given_passes}

-- What the writer left is the message.
wrote_is : (general : Bool) (c : RawJson) (known out : List ℕ) → json_write_refusal general c known (length out) ≡ 0 →
    json_wrote general c known out ≡ written_text general c
wrote_is general c known out e =
    let z = eq-eqb (json_write_refusal general c known (length out)) 0 e in
    let m = written_text general c in
    begins _ m _ out (sym (ap (λ (b : Bool). cond b (length m) 0) z)) (ap (λ (b : Bool). cond b (written 0 m out) out) z)

every_numbered : (P : RawRecipient → Type 0) (rs : List RawRecipient) → Every P rs → (n : ℕ) → n < length rs →
    P (numbered_recipient rs n)
unfolding numbered_recipient
every_numbered P [] h n l = absurd (omega arith)
every_numbered P (r ∷ rs) h zero l = h.0
every_numbered P (r ∷ rs) h (suc n) l = every_numbered P rs h.1 n (omega arith)

module _ (general : Bool) (c : RawJson) (known out buffer list : List ℕ) (o : JsonOctets c)
    (e : json_write_refusal general c known (length out) ≡ 0) (h : header_room ≤ length buffer) (l : list_room ≤ length list)
    (n : ℕ) (below : n < said_count c.recipients) where
  abbrev message : List ℕ
  message = written_text general c

  abbrev reading : Call
  reading = call message known n (length buffer) (length list)

  abbrev r : RawRecipient
  r = given_recipient c n

  inside : n < length (recipients_in c.recipients)
  inside = omega (arith, recipients_count c.recipients)

  back : (refusal reading ≡ 0) × JsonHanded general (message_of c) n message (outcome message n)
  back =
      let w = (given_passes general c known (length out) o).0 e in
      let s = w.1.0.0 in
      let f = w.1.0.1 in
      written_reads_back general (message_of c) (message_octets c o) (some_given general c.recipients o.recipients s f)
      (few_given general c.recipients o.recipients s f) known (length out) ((list_decided known).1 w.0) w.1.1 n
      (length buffer) (length list) inside h l

  passes : eqb (refusal reading) 0 ≡ true
  passes = eq-eqb _ 0 back.0

  abbrev x : Outcome
  x = outcome message n

  result_is : result_of reading ≡ accepted message x
  unfolding result_of
  result_is = ap (λ (b : Bool). cond b (accepted message x) (refused (refusal reading))) passes

  -- Everything that is said of the numbers of the result holds where it holds of what is handed out.
  by_result : (P : List ℕ → Type 0) → P (accepted message x) → P (result_of reading)
  by_result P p = subst P (sym result_is) p

  components_back : JsonComeBack message x.components c r
  components_back =
      let z = back.1 in
      let m = message_octets c o in
      let q = x.components in
      record {
        places = z.places;
        protected = comes_back c.protected o.protected message q.protected z.protected;
        key =
            comes_back r.key (every_numbered (λ y. AllBelow 256 y.key) (recipients_in c.recipients) m.keys n inside)
            message q.key z.key;
        iv = comes_back c.iv o.iv message q.iv z.iv;
        aad = comes_back c.aad o.aad message q.aad z.aad;
        ciphertext = comes_back c.ciphertext o.ciphertext message q.ciphertext z.ciphertext;
        tag = comes_back c.tag o.tag message q.tag z.tag;
      }

  texts_back : TextsComeBack c n r reading list
  unfolding list_after accepted
  texts_back =
      let z = back.1 in
      record {
        shared_from = z.shared_from;
        own_from = z.own_from;
        shared_given = z.shared_given;
        own_given = z.own_given;
        shared_text = z.shared_text;
        own_text = z.own_text;
        list_left =
            ap (λ (b : Bool). cond b (written 0 (listed x.entries) list) list) passes
            ∙ ap (λ (es : List Entry). written 0 (listed es) list) z.entries;
        parameters = ap (λ (ns : List ℕ). get_or ns parameters_at 0) result_is ∙ ap length z.entries;
      }

  reads_back : JsonReadsBack general c n reading buffer list
  unfolding header_after accepted
  reads_back =
      let z = back.1 in
      record {
        accepted = ap (λ (ns : List ℕ). get_or ns number_at 0) result_is;
        form = ap (λ (ns : List ℕ). get_or ns form_at 0) result_is ∙ z.form;
        count = ap (λ (ns : List ℕ). get_or ns recipients_at 0) result_is ∙ z.recipients ∙ recipients_count c.recipients;
        header_left =
            ap (λ (b : Bool). cond b (written 0 x.header buffer) buffer) passes
            ∙ ap (λ (w : List ℕ). written 0 w buffer) z.header;
        header_size = ap (λ (ns : List ℕ). get_or ns header_at 0) result_is ∙ ap length z.header;
        texts = texts_back;
        components = by_result (λ ns. JsonComeBack message (places_in ns) c r) components_back;
      }

  pub json_written_reads_back :
      JsonReadsBack general c n (call (json_wrote general c known out) known n (length buffer) (length list)) buffer list
  json_written_reads_back =
      subst (λ (w : List ℕ). JsonReadsBack general c n (call w known n (length buffer) (length list)) buffer list)
      (sym (wrote_is general c known out e)) reads_back
