-- The JSON writer refuses nothing exactly where what it would write meets demand 2 for each recipient, each text reads alone, the
-- table of recipients is sound and there is room. The reader's tests on the message are those on its pieces, so that they
-- also say what is asked of the protected header first.
use mathlib.Core.Path.{◌≡◌, refl, ap, sym, ◌∙◌}
use mathlib.Core.Bool.{Bool, false, not, ◌||◌, cond}
use mathlib.Core.Logic.{◌↔◌}
use mathlib.Core.List.{List, [], ◌∷◌}
use Prim.Native.Nat.{ℕ, ◌≤◌, ◌<◌}
use native.Mathlib.Omega.{arith}
use lib.ListN.{length}
use lib.Dec.{ltb}
use Rattle.prelude.specs.Any.{any}
use Rattle.prelude.specs.Limits.{longest, header_room, list_room}
use Rattle.prelude.specs.Refusals.{Test, ◌if◌, first}
use Rattle.grammar.specs.Reader.{opens_object}
use Rattle.names.specs.Names.{names, sound}
use Rattle.jwe.specs.Compact.{compact_order}
use Rattle.jwe.specs.General.{json_order}
use Rattle.jwe.specs.Judge.{Call, call, order, refusal}
use Rattle.recipients.specs.Table.{Sound}
use Rattle.recipients.specs.Parsed.{said_count, recipients_in}
use Rattle.recipients.proofs.Places.{recipients_count}
use Rattle.json_message.specs.JsonText.{RawMessage}
use Rattle.json_message.specs.WriteOrder.{most_for, unread_alone, message_order}
use Rattle.json_message.specs.JsonWrite.{RawJson, message_of, written_text, json_write_refusal}
use Rattle.json_message.specs.Inner.Judged.{Ready}
use Rattle.json_message.specs.Inner.PiecesOrder.{pieces_order}
use Rattle.json_message.proofs.Agree.{Agree, agreed}
use Rattle.json_message.proofs.Unread.{alone_iff}
use Rattle.json_message.proofs.ReadsBack.{opens, ready}
use Rattle.json_message.proofs.Theorems.{judged_in_pieces, written_reads_back}
use Rattle.meets.specs.Meets.{Meets}
use Rattle.meets.proofs.InOrder.{first_append}
use Rattle.meets.proofs.Accepted.{list_decided, accepted_exactly}
use Rattle.json_trips.specs.JsonTrips.{JsonOctets}
use Rattle.json_trips.specs.JsonTrips.{JsonWritable}
use Rattle.json_trips.proofs.Given.{message_octets, texts_alone, some_given, few_given, given_passes}
use Rattle.json_trips.proofs.Passing.{Passes, message_passes, pieces_protected}

module _ (general : Bool) (c : RawJson) (known : List ℕ) (room : ℕ) (o : JsonOctets c) where
  abbrev text : List ℕ
  text = written_text general c

  abbrev given : RawMessage
  given = message_of c

  abbrev table : List ℕ
  table = c.recipients

  abbrev reader : ℕ → Call
  reader n = call text known n header_room list_room

  module _ (s : Sound table) (few : said_count table ≤ most_for general) where
    abbrev some : 1 ≤ length (recipients_in table)
    some = some_given general table o.recipients s few

    -- The reader's tests on the message are those on its pieces, where the texts read alone.
    in_pieces : unread_alone given ≡ false → Agree (json_order text (names known) 0) (pieces_order general (names known) given)
    in_pieces a =
        judged_in_pieces general given
        (ready general given (message_octets c o) some (few_given general table o.recipients s few) a) (names known) 0
        (omega (arith, some))

    passes_from_six : (first (message_order general given (names known) room) ≡ 0) ↔ Passes general given (names known) room
    passes_from_six = message_passes general given (names known) room in_pieces

  writable : json_write_refusal general c known room ≡ 0 → JsonWritable general c known room
  writable e =
      let w = (given_passes general c known room o).0 e in
      let s = w.1.0.0 in
      let few = w.1.0.1 in
      let p = (passes_from_six s few).0 w.1.1 in
      let a = (texts_alone given).1 ((alone_iff given).0 p.alone).1 in
      record {
        table = s;
        few = few;
        shared = a.0;
        own = a.1;
        meets = λ n below.
            (accepted_exactly (reader n)).0
            (written_reads_back general given (message_octets c o) (some s few)
            (few_given general table o.recipients s few) known room ((list_decided known).1 w.0) w.1.1 n header_room
            list_room (omega (arith, recipients_count table)) (omega arith) (omega arith)).0;
        fits = p.fits;
      }

  -- What demand 2 says of the message for its first recipient.
  judged : Meets (reader 0) → first (json_order text (names known) 0) ≡ 0
  unfolding refusal order any
  judged m =
      let front = 1 if (ltb header_room header_room || ltb list_room list_room)
      ∷ 2 if ltb longest (length text)
      ∷ 3 if not (sound known)
      ∷ [] in
      let form : Bool → List Test = λ b. cond b (json_order text (names known) 0) (compact_order text (names known) 0) in
      let h = ((first_append front (form (opens_object text)) refl).0 ((accepted_exactly (reader 0)).1 m)).1 in
      ap (λ (b : Bool). first (form b)) (sym (opens general given)) ∙ h

  refuses_nothing : JsonWritable general c known room → json_write_refusal general c known room ≡ 0
  refuses_nothing w =
      let s = w.table in
      let few = w.few in
      let first_asked : 0 < said_count table = omega (arith, some s few, recipients_count table) in
      let m = w.meets 0 first_asked in
      let texts = (texts_alone given).0 (w.shared, w.own) in
      let r : Ready general given = record {
        octets = message_octets c o;
        some = some s few;
        few = few_given general table o.recipients s few;
        texts = texts;
      } in
      let j = judged m in
      let agree = judged_in_pieces general given r (names known) 0 (omega (arith, some s few)) in
      let p = pieces_protected general (names known) given (sym (agreed agree) ∙ j) in
      (given_passes general c known room o).1 (
        m.list,
        (
          (s, few),
          (passes_from_six s few).1 (record {
            short = p.0;
            alone = (alone_iff given).1 (p.1, texts);
            size = m.size;
            judged = j;
            fits = w.fits;
          }),
        ),
      )

  pub json_writes_exactly : (json_write_refusal general c known room ≡ 0) ↔ JsonWritable general c known room
  json_writes_exactly = (writable, refuses_nothing)
