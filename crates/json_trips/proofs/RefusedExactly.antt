-- What is given to the JSON writer is refused as the table of its numbers says.
use mathlib.Core.Path.{◌≡◌, refl, sym, subst}
use mathlib.Core.Bool.{Bool}
use mathlib.Core.List.{List}
use mathlib.Core.Logic.{◌↔◌}
use Prim.Native.Nat.{ℕ}
use native.Mathlib.Omega.{arith}
use lib.ListN.{length}
use borrow.Author.Tests.{ltb-false, le-ltb}
use Rattle.prelude.specs.Limits.{longest, header_room, levels}
use Rattle.prelude.specs.Refusals.{first}
use Rattle.grammar.specs.Bounds.{Every}
use Rattle.names.specs.Names.{names, sound}
use Rattle.jwe.specs.General.{json_order}
use Rattle.json_message.specs.JsonText.{RawMessage}
use Rattle.json_message.specs.WriteOrder.{unread_alone, message_order}
use Rattle.json_message.specs.JsonWrite.{RawJson, message_of, written_text, json_write_order, json_write_refusal}
use Rattle.json_message.specs.Inner.PiecesOrder.{pieces_order}
use Rattle.json_message.proofs.Unread.{text_iff, alone_iff}
use Rattle.json_message.proofs.ReadsBack.{ready}
use Rattle.json_message.proofs.Theorems.{judged_in_pieces}
use Rattle.meets.specs.Meets.{Known}
use Rattle.meets.proofs.Deciding.{FalseWhere, not_where}
use Rattle.meets.proofs.Accepted.{list_decided, list_names}
use Rattle.refusals.specs.Table.{Refuses}
use Rattle.refusals.specs.Numbers.{json_table}
use Rattle.refusals.proofs.Steps.{step, last, exactly}
use Rattle.refusals.proofs.JsonRefuses.{json_refuses}
use Rattle.json_trips.specs.JsonTrips.{JsonOctets, ReadsAlone, json_write_numbers}
use Rattle.json_trips.specs.JsonNumbers.{json_write_table}
use Rattle.json_trips.proofs.Given.{message_octets, text_alone, texts_alone, table_decided, some_given, few_given}
use Rattle.json_trips.proofs.Listed.{listed_nonzero}
use Rattle.json_trips.proofs.Passing.{pieces_ours}
use Rattle.json_trips.proofs.Followed.{reader_followed}

-- 7 on each text alone.
alone_decided : (c : RawMessage) →
    FalseWhere (unread_alone c)
    (ReadsAlone c.protected × (ReadsAlone c.shared × Every (λ r. ReadsAlone r.header) c.recipients))
alone_decided c =
    let a = alone_iff c in
    let p = text_iff levels c.protected in
    let q = text_alone c.protected in
    let t = texts_alone c in (
      (λ e. let h = a.0 e in (q.1 (p.0 h.0), t.1 h.1)),
      (λ w. a.1 (p.1 (q.0 w.0), t.0 w.1)),
    )

module _ (general : Bool) (c : RawJson) (known : List ℕ) (room : ℕ) (o : JsonOctets c) where
  abbrev message : List ℕ
  message = written_text general c

  abbrev given : RawMessage
  given = message_of c

  abbrev table : List ℕ
  table = c.recipients

  -- What the reader's rules say of the message, by the names that are read of the list.
  reader_refuses : (k : Known known) → Refuses (json_table k.names message 0) (first (json_order message (names known) 0))
  reader_refuses k =
      subst (λ (ns : List (List ℕ)). Refuses (json_table k.names message 0) (first (json_order message ns 0)))
      (sym (list_names known k)) (json_refuses k.names message 0)

  refuses : Refuses (json_write_table general c known room) (json_write_refusal general c known room)
  unfolding json_write_table json_write_refusal json_write_order message_order
  refuses =
      step 3 _ _ _ (not_where (sound known) (list_decided known)) λ k.
      step 20 _ _ _ (table_decided general table o.recipients) λ s.
      step 6 _ _ _ (ltb-false header_room (length c.protected), le-ltb header_room (length c.protected)) λ short.
      step 7 _ _ _ (alone_decided given) λ alone.
      step 2 _ _ _ (ltb-false longest (length message), le-ltb longest (length message)) λ size.
      let some = some_given general table o.recipients s.0 s.1 in
      let few = few_given general table o.recipients s.0 s.1 in
      let r = ready general given (message_octets c o) some few ((alone_decided given).1 alone) in
      let pieces = pieces_order general (names known) given in
      reader_followed k.names message _ (json_order message (names known) 0) pieces _
      (judged_in_pieces general given r (names known) 0 (omega (arith, some)))
      (listed_nonzero json_write_numbers refl pieces (pieces_ours general (names known) given))
      (reader_refuses k)
      (step 1 _ _ _ (ltb-false room (length message), le-ltb room (length message)) λ lent. last)

  -- A number is given exactly where the table says it; 0 is none.
  pub json_write_refused_exactly : (k : ℕ) →
      (json_write_refusal general c known room ≡ k) ↔ Refuses (json_write_table general c known room) k
  json_write_refused_exactly = exactly (json_write_table general c known room) (json_write_refusal general c known room) refuses
