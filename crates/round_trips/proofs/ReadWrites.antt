-- What is read as compact is written again: it is five encoded texts, and is taken apart to what they encode; its
-- header and its key pass the reader's tests and so the writer's.
use mathlib.Core.Path.{◌≡◌, refl, ap, sym, ◌∙◌}
use mathlib.Core.Bool.{Bool, true, false, cond}
use mathlib.Core.List.{List}
use Prim.Native.Nat.{ℕ, ◌≤◌}
use native.Mathlib.Omega.{arith}
use lib.ListN.{length}
use Rattle.prelude.specs.Buffer.{AllBelow}
use Rattle.base64url.specs.Base64url.{encoded, decoded}
use Rattle.base64url.proofs.Laws.{decode_encode}
use Rattle.names.specs.Names.{names}
use Rattle.grammar.specs.Reader.{opens_object}
use Rattle.rows.specs.Rows.{present}
use Rattle.shape.specs.Shape.{recipients}
use Rattle.shape.specs.Recipients.{top_entries}
use Rattle.jwe.proofs.Outcomes.{outcome_is}
use Rattle.jwe.specs.Compact.{compact_components}
use Rattle.jwe.specs.Judge.{Call, refusal, outcome, Outcome}
use Rattle.jwe.specs.Inner.Outcomes.{compact_outcome, outcome_of, json_outcome}
use Rattle.jwe_write.specs.Write.{Raw, compact_text, write_refusal}
use Rattle.meets.proofs.FiveParts.{parts_placed}
use Rattle.meets.proofs.SpelledDecided.{Spelled, spelled_parts}
use Rattle.round_trips.specs.Trips.{RawOctets, taken_apart}
use Rattle.round_trips.proofs.ComingBack.{Stands}
use Rattle.round_trips.proofs.Passing.{write_decided, compact_decided, read_decided}

raw_same : (h k i x t h' k' i' x' t' : List ℕ) → h ≡ h' → k ≡ k' → i ≡ i' → x ≡ x' → t ≡ t' →
    ◌≡◌ {A = Raw} (record { header = h; key = k; iv = i; ciphertext = x; tag = t })
    (record { header = h'; key = k'; iv = i'; ciphertext = x'; tag = t' })
raw_same h k i x t h' k' i' x' t' a b c d e = cc

-- Only what opens no object is handed out as compact, with the places of its five parts.
module _ (message : List ℕ) (recipient : ℕ) where
  pub compact_form_lem : (outcome message recipient).form ≡ 0 → opens_object message ≡ false
  unfolding json_outcome outcome_of
  compact_form_lem e = cases (opens_object message) (sym (ap (λ (x : Outcome). x.form) (outcome_is message recipient)) ∙ e)
    where
      no_json : (b : Bool) → ◌≡◌ {A = ℕ} (cond b 2 1) 0 → ⊥
      no_json true z = omega arith
      no_json false z = omega arith

      cases : (b : Bool) → (cond b (json_outcome message recipient) (compact_outcome message)).form ≡ 0 → b ≡ false
      cases true z = absurd (no_json (present recipients (top_entries message)) z)
      cases false z = refl

  pub places_read : opens_object message ≡ false → (outcome message recipient).components ≡ compact_components message
  unfolding compact_outcome
  places_read compact =
      ap (λ (x : Outcome). x.components) (outcome_is message recipient)
      ∙ ap (λ (b : Bool). (cond b (json_outcome message recipient) (compact_outcome message)).components) compact

-- Five encoded texts are taken apart to what they encode.
module _ (message : List ℕ) (s : Spelled message) where
  abbrev pub raw : Raw
  raw = record {
    header = s.header;
    key = s.key;
    iv = s.iv;
    ciphertext = s.ciphertext;
    tag = s.tag;
  }

  pub raw_octets : RawOctets raw
  raw_octets = record {
    header = s.octets.0;
    key = s.octets.1;
    iv = s.octets.2;
    ciphertext = s.octets.3;
    tag = s.octets.4;
  }

  pub stands : Stands message (compact_components message) raw
  stands =
      let p = parts_placed message (spelled_parts message s) in
      record { header = p.header; key = p.key; iv = p.iv; ciphertext = p.ciphertext; tag = p.tag }

  pub taken : taken_apart message (compact_components message) ≡ raw
  unfolding taken_apart
  taken =
      let p = stands in
      let o = raw_octets in
      raw_same _ _ _ _ _ _ _ _ _ _ (said s.header o.header _ p.header) (said s.key o.key _ p.key)
      (said s.iv o.iv _ p.iv) (said s.ciphertext o.ciphertext _ p.ciphertext)
      (said s.tag o.tag _ p.tag)
    where
      said : (xs : List ℕ) → AllBelow 256 xs → (text : List ℕ) → text ≡ encoded xs → decoded text ≡ xs
      said xs o text e = ap decoded e ∙ decode_encode xs o

  pub same_text_lem : compact_text raw ≡ message
  unfolding compact_text
  same_text_lem = s.spelled

-- A compact message that is accepted is five encoded texts that the writer takes.
pub written_again : (c : Call) (room : ℕ) → refusal c ≡ 0 → opens_object c.message ≡ false → length c.message ≤ room →
    (s : Spelled c.message) × (write_refusal (raw c.message s) c.known room ≡ 0)
written_again c room e compact fits =
    let r = (read_decided c compact).0 e in
    let w = (compact_decided (names c.known) c.message c.recipient).0 r.1 in
    let s = w.0 in
    let text = same_text_lem c.message s in
    let size = r.0.size in
    let passed = (write_decided (raw c.message s) c.known room).1
    (record {
      list = r.0.list;
      header = w.1.0;
      size = omega (arith, ap length text);
      fits = omega (arith, ap length text);
    }) in
    (s, passed)
