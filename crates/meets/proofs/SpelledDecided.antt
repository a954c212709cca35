-- Refusals 4 and 5 of the compact form: a message is five encoded texts with full stops between exactly where neither
-- refuses. A full stop is outside the alphabet, so it stands in no encoded text, and each text is spelled in one way.
use mathlib.Core.Path.{◌≡◌, refl, ap, ap₂, sym, ◌∙◌}
use mathlib.Core.Bool.{Bool, true, false, ◌||◌, true≢false}
use mathlib.Core.Logic.{◌↔◌}
use mathlib.Core.List.{List, [], ◌∷◌, map}
use Prim.Native.Nat.{ℕ, zero-le}
use native.Mathlib.Omega.{arith}
use lib.ListN.{length}
use lib.Dec.{eqb}
use borrow.Author.Tests.{ne_eqb, eq-eqb, eqb-true}
use Rattle.prelude.specs.Ascii.{ascii}
use Rattle.prelude.specs.Buffer.{AllBelow}
use Rattle.base64url.specs.Base64url.{alphabet, character, place_in, six_bits, sextets, encoded, decoded, decoded_length}
use Rattle.base64url.specs.Fault.{Fault, none, at, fault}
use Rattle.base64url.specs.Answers.{of_fault}
use Rattle.base64url.proofs.Alphabet.{value_of_character}
use Rattle.base64url.proofs.Groups.{sextets_below}
use Rattle.base64url.proofs.Laws.{accepted_exactly, decode_encode, length_back}
use Rattle.parts.specs.Parts.{holds}
use Rattle.parts.proofs.Laws.{part_fits}
use Rattle.grammar.specs.Places.{Place}
use Rattle.prelude.specs.Any.{any}
use Rattle.jose.specs.declared.Sizes.{Sizes}
use Rattle.headers.specs.Components.{absent, octets_at, places, misspelled, sizes_of}
use Rattle.headers.specs.Headers.{header_text}
use Rattle.jwe.specs.Compact.{four_stops, compact_components}
use Rattle.headers.specs.Components.{dotted}
use Rattle.meets.specs.Meets.{Octets}
use Rattle.meets.proofs.Deciding.{FalseWhere, or_false}
use Rattle.meets.proofs.FiveParts.{FiveParts, parts_placed, stops_decided}

-- An octet outside the alphabet stands in no encoded text.

module _ (c : ℕ) (outside : six_bits c ≡ 64) where
  outside_characters : (vs : List ℕ) → AllBelow 64 vs → holds c (map character vs) ≡ false
  unfolding holds
  outside_characters [] h = refl
  outside_characters (v ∷ vs) h =
      let differ : character v ≡ c → ⊥ =
      λ e. let same : v ≡ 64 = sym (value_of_character v h.0) ∙ ap six_bits e ∙ outside in omega (arith, h.0) in
      ap₂ ◌||◌ (ne_eqb (character v) c differ) (outside_characters vs h.1)

  pub outside_encoded : (xs : List ℕ) → Octets xs → holds c (encoded xs) ≡ false
  unfolding encoded
  outside_encoded xs h = outside_characters (sextets xs) (sextets_below xs h)

pub stop_outside : six_bits 46 ≡ 64
unfolding ascii alphabet place_in six_bits
stop_outside = refl

-- 5 on one component

is_none : (f : Fault) → (of_fault f false true ≡ false) ↔ (f ≡ none)
is_none none = ((λ e. refl), (λ e. refl))
is_none (at k) = (
  (λ e. absurd (true≢false e)),
  (λ e. let z : ◌≡◌ {A = ℕ} 0 1 = cc in absurd (omega arith)),
)

-- Octets whose encoding is a text.
abbrev pub Spelling : List ℕ → Type 0
Spelling text = (xs : List ℕ) × AllBelow 256 xs × (encoded xs ≡ text)

pub spelling_decided : (message : List ℕ) (q : Place) →
    FalseWhere (misspelled message q) (Spelling (octets_at message q))
unfolding misspelled
spelling_decided message q =
    let t = is_none (fault (octets_at message q)) in
    let a = accepted_exactly (octets_at message q) in
    ((λ e. a.0 (t.0 e)), (λ w. t.1 (a.1 w)))

-- A component that is absent has no octets, which is well spelled.
pub absent_spelled : (message : List ℕ) → misspelled message absent ≡ false
unfolding encoded sextets
absent_spelled message = (spelling_decided message absent).1 ([], tt, sym (part_fits message 0 0 zero-le))

-- 4 and 5

-- Five encoded texts with full stops between.
pub record Spelled (message : List ℕ) : Type 0 where
  pub header : List ℕ
  pub key : List ℕ
  pub iv : List ℕ
  pub ciphertext : List ℕ
  pub tag : List ℕ
  pub octets : Octets header × Octets key × Octets iv × Octets ciphertext × Octets tag
  pub spelled : dotted header key iv ciphertext tag ≡ message

-- They are five parts ..
abbrev pub spelled_parts : (message : List ℕ) → Spelled message → FiveParts message
spelled_parts message s = record {
  header = encoded s.header;
  key = encoded s.key;
  iv = encoded s.iv;
  ciphertext = encoded s.ciphertext;
  tag = encoded s.tag;
  none_in_header = outside_encoded 46 stop_outside s.header s.octets.0;
  none_in_key = outside_encoded 46 stop_outside s.key s.octets.1;
  none_in_iv = outside_encoded 46 stop_outside s.iv s.octets.2;
  none_in_ciphertext = outside_encoded 46 stop_outside s.ciphertext s.octets.3;
  none_in_tag = outside_encoded 46 stop_outside s.tag s.octets.4;
  is = sym s.spelled;
}

-- .. of which the first is decoded to the header ..
pub spelled_header : (message : List ℕ) (s : Spelled message) →
    header_text message (compact_components message).protected ≡ s.header
unfolding header_text
spelled_header message s =
    ap decoded (parts_placed message (spelled_parts message s)).header ∙ decode_encode s.header s.octets.0

-- Octets are none exactly where their encoded text decodes to none.
pub none_decoded : (xs : List ℕ) (n : ℕ) → n ≡ length (encoded xs) → (eqb (decoded_length n) 0 ≡ true) ↔ (xs ≡ [])
none_decoded xs n e =
    let size : decoded_length n ≡ length xs = ap decoded_length e ∙ length_back xs in (
      (λ b. no_length xs (sym size ∙ eqb-true (decoded_length n) 0 b)),
      (λ z. eq-eqb (decoded_length n) 0 (size ∙ ap length z)),
    )
  where
    no_length : (w : List ℕ) → length w ≡ 0 → w ≡ []
    no_length [] h = refl
    no_length (x ∷ w) h = absurd (omega (arith, h))

-- .. and the second is empty exactly where there is no key.
pub spelled_key : (message : List ℕ) (s : Spelled message) →
    (eqb (sizes_of (compact_components message)).key 0 ≡ true) ↔ (s.key ≡ [])
spelled_key message s =
    none_decoded s.key (compact_components message).key.size (parts_placed message (spelled_parts message s)).key_size

-- All sizes are those of the octets.
abbrev pub spelled_sizes : {message : List ℕ} → Spelled message → Sizes
spelled_sizes s = record {
  key = length s.key;
  iv = length s.iv;
  ciphertext = length s.ciphertext;
  tag = length s.tag;
}

pub spelled_sizes_lem : (message : List ℕ) (s : Spelled message) → sizes_of (compact_components message) ≡ spelled_sizes s
spelled_sizes_lem message s =
    let p = parts_placed message (spelled_parts message s) in
    rw (
      ap decoded_length p.key_size ∙ length_back s.key,
      ap decoded_length p.iv_size ∙ length_back s.iv,
      ap decoded_length p.ciphertext_size ∙ length_back s.ciphertext,
      ap decoded_length p.tag_size ∙ length_back s.tag,
    )

-- No component misspelled.
abbrev WellSpelled : List ℕ → Type 0
WellSpelled message = any (misspelled message) (places (compact_components message)) ≡ false

parts_spelled : (message : List ℕ) → FiveParts message → WellSpelled message → Spelled message
unfolding any compact_components
parts_spelled message f e =
    let q = compact_components message in
    let p = parts_placed message f in
    let test : Place → Bool = misspelled message in
    let a = (or_false (test q.protected) _).0 e in
    let b = (or_false (test q.key) _).0 a.1 in
    let c = (or_false (test q.iv) _).0 b.1 in
    let d = (or_false (test q.aad) _).0 c.1 in
    let g = (or_false (test q.ciphertext) _).0 d.1 in
    let h = (or_false (test q.tag) _).0 g.1 in
    let header = (spelling_decided message q.protected).0 a.0 in
    let key = (spelling_decided message q.key).0 b.0 in
    let iv = (spelling_decided message q.iv).0 c.0 in
    let ciphertext = (spelling_decided message q.ciphertext).0 g.0 in
    let tag = (spelling_decided message q.tag).0 h.0 in
    let eh = header.2 ∙ p.header in
    let ek = key.2 ∙ p.key in
    let ei = iv.2 ∙ p.iv in
    let ec = ciphertext.2 ∙ p.ciphertext in
    let et = tag.2 ∙ p.tag in
    record {
      header = header.0;
      key = key.0;
      iv = iv.0;
      ciphertext = ciphertext.0;
      tag = tag.0;
      octets = (header.1, key.1, iv.1, ciphertext.1, tag.1);
      spelled = cc f.is;
    }

spelled_well : (message : List ℕ) → Spelled message → WellSpelled message
unfolding any compact_components
spelled_well message s =
    let q = compact_components message in
    let p = parts_placed message (spelled_parts message s) in
    let test : Place → Bool = misspelled message in
    let well : (x : Place) (xs : List ℕ) → Octets xs → octets_at message x ≡ encoded xs → test x ≡ false =
    λ x xs o e. (spelling_decided message x).1 (xs, o, sym e) in
    (or_false (test q.protected) _).1 (
      well q.protected s.header s.octets.0 p.header,
      (or_false (test q.key) _).1 (
        well q.key s.key s.octets.1 p.key,
        (or_false (test q.iv) _).1 (
          well q.iv s.iv s.octets.2 p.iv,
          (or_false (test q.aad) _).1 (
            absent_spelled message,
            (or_false (test q.ciphertext) _).1 (
              well q.ciphertext s.ciphertext s.octets.3 p.ciphertext,
              (or_false (test q.tag) _).1 (well q.tag s.tag s.octets.4 p.tag, refl),
            ),
          ),
        ),
      ),
    )

pub spelled_decided : (message : List ℕ) → ((four_stops message ≡ true) × WellSpelled message) ↔ Spelled message
spelled_decided message = (
  (λ h. parts_spelled message ((stops_decided message).0 h.0) h.1),
  (λ s. ((stops_decided message).1 (spelled_parts message s), spelled_well message s)),
)
