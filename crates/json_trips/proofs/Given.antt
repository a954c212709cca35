-- What the writer is given: where it is octets, so are the keys in the table of recipients; and 3 and 20 are not given exactly
-- where the known names are a list of names and the table is sound and short enough.
use mathlib.Core.Path.{◌≡◌, refl}
use mathlib.Core.List.{List, [], ◌∷◌}
use mathlib.Core.Bool.{Bool, not}
use mathlib.Core.Logic.{◌↔◌}
use Prim.Native.Nat.{ℕ, zero, suc, ◌+◌, ◌≤◌}
use native.Mathlib.Omega.{arith}
use lib.ListN.{length}
use lib.Dec.{ltb}
use borrow.Author.Tests.{ltb-false, le-ltb}
use Rattle.prelude.specs.Any.{any}
use Rattle.prelude.specs.Buffer.{AllBelow}
use Rattle.prelude.specs.Limits.{levels}
use Rattle.prelude.specs.Refusals.{Test, ◌if◌, first}
use Rattle.parts.proofs.Laws.{part_below}
use Rattle.grammar.specs.Bounds.{Every}
use Rattle.names.specs.Names.{names, sound}
use Rattle.recipients.specs.Table.{RawRecipient, Sound}
use Rattle.recipients.specs.Parsed.{said_count, header_length, key_length, body_start, recipient_at, recipients_from, recipients_in}
use Rattle.recipients.specs.Parsed.{sound_table}
use Rattle.recipients.proofs.Laws.{sound_decides}
use Rattle.recipients.proofs.Places.{sound_some, recipients_count}
use Rattle.json_message.specs.JsonText.{RawMessage}
use Rattle.json_message.specs.WriteOrder.{most_for, message_order}
use Rattle.json_message.specs.JsonWrite.{RawJson, message_of, wrong_table, json_write_order, json_write_refusal}
use Rattle.json_message.specs.Handed.{MessageOctets}
use Rattle.json_message.specs.Inner.Judged.{Judged, TextsJudged}
use Rattle.meets.specs.Meets.{Known}
use Rattle.meets.proofs.Deciding.{FalseWhere, not_where, neither, every_map, first_none}
use Rattle.meets.proofs.InOrder.{first_append}
use Rattle.meets.proofs.Accepted.{list_decided}
use Rattle.json_trips.specs.JsonTrips.{JsonOctets, ReadsAlone}

keys_below : (t : List ℕ) → AllBelow 256 t → (n i : ℕ) → Every (λ r. AllBelow 256 r.key) (recipients_from t n i)
unfolding recipients_from recipient_at
keys_below t o zero i = tt
keys_below t o (suc n) i = (
  part_below t (body_start t i + header_length t i) (key_length t i) 256 o,
  keys_below t o n (suc i),
)

pub message_octets : (c : RawJson) → JsonOctets c → MessageOctets (message_of c)
unfolding recipients_in
message_octets c o = record {
  protected = o.protected;
  keys = keys_below c.recipients o.recipients (said_count c.recipients) 0;
  aad = o.aad;
  iv = o.iv;
  ciphertext = o.ciphertext;
  tag = o.tag;
}

-- Texts that read alone.

pub text_alone : (w : List ℕ) → ReadsAlone w ↔ Judged levels w
text_alone [] = ((λ h. h), (λ h. h))
text_alone (c ∷ w) = ((λ h. h), (λ h. h))

pub texts_alone : (c : RawMessage) →
    (ReadsAlone c.shared × Every (λ r. ReadsAlone r.header) c.recipients) ↔ TextsJudged levels levels c
texts_alone c =
    let Alone : RawRecipient → Type 0 = λ r. ReadsAlone r.header in
    let OwnOf : RawRecipient → Type 0 = λ r. Judged levels r.header in (
      (λ h. record {
        shared = (text_alone c.shared).0 h.0;
        own = every_map Alone OwnOf (λ r. (text_alone r.header).0) c.recipients h.1;
      }),
      (λ j. (
        (text_alone c.shared).1 j.shared,
        every_map OwnOf Alone (λ r. (text_alone r.header).1) c.recipients j.own,
      )),
    )

-- 20
pub table_decided : (general : Bool) (t : List ℕ) → AllBelow 256 t →
    FalseWhere (wrong_table general t) (Sound t × (said_count t ≤ most_for general))
unfolding wrong_table
table_decided general t o =
    neither (not (sound_table t)) (ltb (most_for general) (said_count t)) (not_where (sound_table t) (sound_decides t o))
    (ltb-false (most_for general) (said_count t), le-ltb (most_for general) (said_count t))

-- A sound table has recipients, no more than the form allows.
module _ (general : Bool) (t : List ℕ) (o : AllBelow 256 t) (s : Sound t) (few : said_count t ≤ most_for general) where
  pub some_given : 1 ≤ length (recipients_in t)
  some_given = omega (arith, recipients_count t, sound_some t ((sound_decides t o).1 s))

  pub few_given : length (recipients_in t) ≤ most_for general
  few_given = omega (arith, recipients_count t)

-- 3 and 20 are not given, and no number behind them is.
module _ (general : Bool) (c : RawJson) (known : List ℕ) (room : ℕ) (o : JsonOctets c) where
  abbrev rest : List Test
  rest = message_order general (message_of c) (names known) room

  pub given_passes : (json_write_refusal general c known room ≡ 0)
      ↔ (Known known × ((Sound c.recipients × (said_count c.recipients ≤ most_for general)) × (first rest ≡ 0)))
  unfolding json_write_refusal json_write_order any
  given_passes =
      let ts = 3 if not (sound known) ∷ 20 if wrong_table general c.recipients ∷ [] in
      let t = first_append ts rest refl in
      let u = first_none ts refl in
      let list = not_where (sound known) (list_decided known) in
      let table = table_decided general c.recipients o.recipients in (
        (λ e.
            let h = t.0 e in
            let a = u.0 h.0 in
            (list.0 a.0, (table.0 a.1.0, h.1))),
        (λ w. t.1 (u.1 (list.1 w.0, (table.1 w.1.0, tt)), w.1.1)),
      )
