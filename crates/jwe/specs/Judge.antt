-- The judgement: the refusal of what was lent, and where there is none what is handed out (document 01, 'What the reader
-- hands out').
use Rattle.std.specs.Prelude.{List, [], ◌∷◌, ◌++◌, not, ◌||◌, cond, ℕ, zero, suc, ◌+◌, ◌-◌, length, get_or, replicate, eqb, ltb}
use Rattle.names.specs.Names.{names, sound}
use Rattle.grammar.specs.Places.{Place}
use Rattle.grammar.specs.Reader.{opens_object}
use Rattle.rows.specs.Rows.{Entry, read_texts}
use Rattle.rows.specs.Tables.{listed}
use Rattle.prelude.specs.Refusals.{Test, ◌if◌, first}
use Rattle.prelude.specs.Outputs.{output_after}
pub use Rattle.prelude.specs.Call.{Call, call, call_for}
use Rattle.jose.specs.HeaderRules.{mode_in}
use Rattle.prelude.specs.Limits.{longest, header_room, list_room}
use Rattle.prelude.specs.Result.{protected_at, key_at, iv_at, aad_at, ciphertext_at, tag_at, result_room}
use Rattle.headers.specs.Components.{Components, with_key, compact_form}
use Rattle.headers.specs.Headers.{header_text, protected_entries}
use Rattle.shape.specs.Shape.{Recipient, recipient_of}
use Rattle.shape.specs.Recipients.{top_of, top_entries, recipients_in}
use Rattle.jwe.specs.Compact.{compact_components, compact_order}
use Rattle.jwe.specs.General.{shared_entries, own_entries, json_order}

-- All refusals in order, of what the reader is called with.
unfoldable pub order : Call → List Test
order c =
    1 if (ltb c.header_lent header_room || ltb c.list_lent list_room)
    ∷ 2 if ltb longest (length c.message)
    ∷ 3 if not (sound c.known)
    ∷ cond (opens_object c.message)
    (json_order c.message (names c.known) c.recipient)
    (compact_order c.message (names c.known) c.recipient)

unfoldable pub refusal : Call → ℕ
refusal c = first (order c)

-- What an accepted message holds, for any recipient

-- Of one recipient: the place of its key, and the parameters of its own header.
pub record Share : Type 0 where
  pub key : Place
  pub own : List Entry

-- The form, the components but the keys, the decoded protected header, the parameters that are all recipients', how many recipients
-- there are, and what the n-th of them, counted from 0, has.
pub record Held : Type 0 where
  pub form : ℕ
  pub components : Components
  pub header : List ℕ
  pub common : List Entry
  pub recipients : ℕ
  pub share : ℕ → Share

abbrev pub compact_held : List ℕ → Held
compact_held message =
    let q = compact_components message in
    let header = header_text message q.protected in
    record {
      form = compact_form;
      components = q;
      header = header;
      common = protected_entries header;
      recipients = 1;
      share = λ n. record { key = q.key; own = [] };
    }

-- The n-th recipient; one without header and key where there is none.
unfoldable pub asked : List Recipient → ℕ → Recipient
asked [] n = recipient_of []
asked (r ∷ rs) zero = r
asked (r ∷ rs) (suc n) = asked rs n

abbrev pub json_held : List ℕ → Held
json_held message =
    let es = top_entries message in
    let t = top_of es in
    let rs = recipients_in message es in
    let header = header_text message t.components.protected in
    record {
      form = t.form;
      components = t.components;
      header = header;
      common = protected_entries header ++ shared_entries message t;
      recipients = length rs;
      share = λ n. let r = asked rs n in record { key = r.key; own = own_entries message r };
    }

unfoldable pub held : List ℕ → Held
held message = let j = json_held message in let c = compact_held message in cond (opens_object message) j c

-- What is handed out for a recipient, of what the message holds.
pub record Outcome : Type 0 where
  pub form : ℕ
  pub recipients : ℕ
  pub components : Components
  pub header : List ℕ
  pub entries : List Entry

abbrev pub outcome_for : Held → ℕ → Outcome
outcome_for h n = record {
  form = h.form;
  recipients = h.recipients;
  components = with_key h.components (h.share n).key;
  header = h.header;
  entries = h.common ++ (h.share n).own;
}

unfoldable pub outcome : List ℕ → ℕ → Outcome
outcome message n = outcome_for (held message) n

-- The numbers of the result, in document 01's order: number, form, recipient count, mode, the six places, header length,
-- parameter count. Refused, all but the first are 0.
abbrev pub place : Place → List ℕ → List ℕ
place q rest = q.start ∷ q.size ∷ rest

unfoldable pub accepted : List ℕ → Outcome → List ℕ
accepted message x =
    0
    ∷ x.form
    ∷ x.recipients
    ∷ mode_in (read_texts x.header message) x.entries
    ∷ place x.components.protected
    (place x.components.key
    (place x.components.iv
    (place x.components.aad
    (place x.components.ciphertext
    (place x.components.tag (length x.header ∷ length x.entries ∷ []))))))

unfoldable pub refused : ℕ → List ℕ
refused n = n ∷ replicate (result_room - 1) 0

-- The six places in a result.
abbrev pub place_in : List ℕ → ℕ → Place
place_in r k = record { start = get_or r k 0; size = get_or r (k + 1) 0 }

abbrev pub places_in : List ℕ → Components
places_in r = record {
  protected = place_in r protected_at;
  key = place_in r key_at;
  iv = place_in r iv_at;
  aad = place_in r aad_at;
  ciphertext = place_in r ciphertext_at;
  tag = place_in r tag_at;
}

-- The result, and what the lent header buffer and list hold afterwards, by what they held before.

-- Those of a refusal, 0 where there is none, and of what is handed out.
abbrev pub answered : List ℕ → ℕ → Outcome → List ℕ
answered message n x = cond (eqb n 0) (accepted message x) (refused n)

unfoldable pub result_of : Call → List ℕ
result_of c = answered c.message (refusal c) (outcome c.message c.recipient)

unfoldable pub header_after : Call → List ℕ → List ℕ
header_after c before = output_after (refusal c) (outcome c.message c.recipient).header before

unfoldable pub list_after : Call → List ℕ → List ℕ
list_after c before = output_after (refusal c) (listed (outcome c.message c.recipient).entries) before
