-- A compact message is refused as the table of its numbers says.
use mathlib.Core.Path.{◌≡◌, refl, ap, sym, subst, ◌∙◌}
use mathlib.Core.Bool.{Bool, true, false, not}
use mathlib.Core.Logic.{◌↔◌}
use mathlib.Core.List.{List, [], ◌∷◌, ◌++◌, append-nil}
use Prim.Native.Nat.{ℕ, ◌<◌}
use lib.ListN.{length}
use lib.Dec.{eqb, leb}
use borrow.Author.Tests.{eqb-false, ne_eqb, leb-false, lt-leb}
use Rattle.jose.specs.declared.Sizes.{Sizes}
use Rattle.base64url.specs.Base64url.{decoded}
use Rattle.base64url.proofs.Laws.{decode_encode}
use Rattle.parts.specs.Parts.{holds}
use Rattle.grammar.specs.Places.{Place}
use Rattle.prelude.specs.Any.{any}
use Rattle.rows.specs.Rows.{Entry, read_texts}
use Rattle.jose.specs.Registered.{registered}
use Rattle.prelude.specs.Refusals.{Test, ◌if◌, first}
use Rattle.jose.specs.HeaderRules.{recipient_order}
use Rattle.headers.specs.Components.{octets_at, places, misspelled, sizes_of}
use Rattle.headers.specs.Headers.{header_text, text_order, protected_entries, object_order}
use Rattle.jwe.specs.Compact.{four_stops, compact_components, compact_order}
use Rattle.meets.specs.Members.{Member, members_of}
use Rattle.meets.specs.Rules.{Headers}
use Rattle.meets.specs.Meets.{Protected}
use Rattle.meets.proofs.Deciding.{FalseWhere, not_where, neither}
use Rattle.meets.proofs.FiveParts as parts
use Rattle.meets.proofs.SpelledDecided.{spelling_decided, absent_spelled, none_decoded}
use Rattle.meets.proofs.CompactHeader.{protected_stands}
use Rattle.refusals.specs.Table.{Table, pass, rule, Refuses}
use Rattle.refusals.specs.Numbers.{Stopless, FiveParts, Encoding, Encodings, text_table, object_table, recipient_table}
use Rattle.refusals.specs.Numbers.{compact_table}
use Rattle.refusals.proofs.Steps.{step, last}
use Rattle.refusals.proofs.RulesRefuse.{object_refuses, text_refuses, recipient_refuses}

-- 4

stopless_where : (s : List ℕ) → FalseWhere (holds 46 s) (Stopless s)
unfolding holds
stopless_where [] = ((λ e. tt), (λ h. refl))
stopless_where (c ∷ s) = neither (eqb c 46) (holds 46 s) (eqb-false c 46, ne_eqb c 46) (stopless_where s)

-- The parts of meets, and these.

abbrev found : (message : List ℕ) → FiveParts message → parts.FiveParts message
found message f = record {
  header = f.header;
  key = f.key;
  iv = f.iv;
  ciphertext = f.ciphertext;
  tag = f.tag;
  none_in_header = (stopless_where f.header).1 f.stopless.0;
  none_in_key = (stopless_where f.key).1 f.stopless.1;
  none_in_iv = (stopless_where f.iv).1 f.stopless.2;
  none_in_ciphertext = (stopless_where f.ciphertext).1 f.stopless.3;
  none_in_tag = (stopless_where f.tag).1 f.stopless.4;
  is = sym f.is;
}

parts_decided : (message : List ℕ) → FalseWhere (not (four_stops message)) (FiveParts message)
parts_decided message =
    let d = parts.stops_decided message in
    not_where (four_stops message) (
      (λ e.
          let p = d.0 e in record {
            header = p.header;
            key = p.key;
            iv = p.iv;
            ciphertext = p.ciphertext;
            tag = p.tag;
            stopless = (
              (stopless_where p.header).0 p.none_in_header,
              (stopless_where p.key).0 p.none_in_key,
              (stopless_where p.iv).0 p.none_in_iv,
              (stopless_where p.ciphertext).0 p.none_in_ciphertext,
              (stopless_where p.tag).0 p.none_in_tag,
            );
            is = sym p.is;
          }),
      (λ f. d.1 (found message f)),
    )

module _ (message : List ℕ) (f : FiveParts message) where
  abbrev placed : parts.Placed message (found message f)
  placed = parts.parts_placed message (found message f)

  -- 5
  one_where : (q : Place) (text : List ℕ) → octets_at message q ≡ text → FalseWhere (misspelled message q) (Encoding text)
  one_where q text e =
      subst (λ (w : List ℕ). FalseWhere (misspelled message q) (Encoding w)) e (spelling_decided message q)

  aad_spelled_lem : misspelled message (compact_components message).aad ≡ false
  unfolding compact_components
  aad_spelled_lem = absent_spelled message

  spelled_where : FalseWhere (any (misspelled message) (places (compact_components message))) (Encodings f)
  unfolding any
  spelled_where =
      let q = compact_components message in
      let test : Place → Bool = misspelled message in
      let d = neither (test q.protected) _ (one_where q.protected f.header placed.header)
      (neither (test q.key) _ (one_where q.key f.key placed.key)
      (neither (test q.iv) _ (one_where q.iv f.iv placed.iv)
      (neither {P = Unit {0}} (test q.aad) _ ((λ e. tt), (λ u. aad_spelled_lem))
      (neither (test q.ciphertext) _ (one_where q.ciphertext f.ciphertext placed.ciphertext)
      (neither {Q = Unit {0}} (test q.tag) false (one_where q.tag f.tag placed.tag)
      ((λ e. tt), (λ u. refl))))))) in (
        (λ e.
            let h = d.0 e in
            (h.0, h.1.0, h.1.1.0, h.1.1.1.1.0, h.1.1.1.1.1.0)),
        (λ h. d.1 (h.0, (h.1, (h.2, (tt, (h.3, (h.4, tt))))))),
      )

  module _ (e : Encodings f) where
    header_is_lem : header_text message (compact_components message).protected ≡ e.0.0
    unfolding header_text
    header_is_lem = ap decoded (placed.header ∙ sym e.0.2) ∙ decode_encode e.0.0 e.0.1

    keyed : (eqb (sizes_of (compact_components message)).key 0 ≡ true) ↔ (e.1.0 ≡ [])
    keyed = none_decoded e.1.0 (compact_components message).key.size (placed.key_size ∙ ap length (sym e.1.2))

-- 6 to 19, by the header.
module _ (known : List (List ℕ)) (message : List ℕ) (recipient : ℕ) (key : List ℕ) (sizes : Sizes)
    (keyed : (eqb sizes.key 0 ≡ true) ↔ (key ≡ [])) where
  abbrev last_order : List Test
  last_order = 19 if leb 1 recipient ∷ []

  abbrev last_table : Table
  last_table = rule 19 (recipient < 1) λ asked. pass

  asked_refuses : Refuses last_table (first last_order)
  asked_refuses = step 19 _ _ _ (leb-false 1 recipient, lt-leb 1 recipient) λ asked. last

  abbrev alone : List Member → Headers
  alone ms = record { protected = ms; shared = []; own = [] }

  -- The rules on the header's members, and the tests on its entries.

  abbrev members_table : List Member → Table
  members_table ms = object_table ms (recipient_table known (alone ms) key last_table)

  abbrev rules_order : List ℕ → List Test
  rules_order header = recipient_order known (read_texts header message) (protected_entries header) sizes ++ last_order

  abbrev header_order : List ℕ → List Test
  header_order header = text_order header ++ (object_order header (protected_entries header) ++ rules_order header)

  pub header_refuses : (header : List ℕ) → Refuses (text_table header members_table) (first (header_order header))
  header_refuses header =
      let es = protected_entries header in
      text_refuses header members_table (object_order header es ++ rules_order header) λ short r.
      let p : Protected header = record { short = short; reading = r } in
      let ms = members_of r.text.value in
      object_refuses registered header 0 ms es (protected_stands header header p)
      (recipient_table known (alone ms) key last_table) (rules_order header) λ few once.
      subst (λ (xs : List Entry).
      Refuses (recipient_table known (alone ms) key last_table)
      (first (recipient_order known (read_texts header message) xs sizes ++ last_order)))
      (append-nil es)
      (recipient_refuses known (read_texts header message) (alone ms) es [] [] key sizes (protected_stands header message p) tt tt
      (record { protected = once; shared = tt; own = tt }) keyed last_table last_order λ has. asked_refuses)

pub compact_refuses : (known : List (List ℕ)) (message : List ℕ) (recipient : ℕ) →
    Refuses (compact_table known message recipient) (first (compact_order message known recipient))
unfolding compact_table compact_order
compact_refuses known message recipient =
    let sizes = sizes_of (compact_components message) in
    step 4 _ _ _ (parts_decided message) λ f.
    step 5 _ _ _ (spelled_where message f) λ e.
    let key = e.1.0 in
    let k = keyed message f e in
    subst (λ (header : List ℕ).
    Refuses (text_table e.0.0 (members_table known message recipient key sizes k))
    (first (header_order known message recipient key sizes k header)))
    (sym (header_is_lem message f e)) (header_refuses known message recipient key sizes k e.0.0)
