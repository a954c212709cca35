-- Refusal 4: a message has exactly four full stops exactly where it is five parts with a full stop between each two and
-- none in any; the components of the compact form are those parts. A full stop is found where the octets before it end.
use mathlib.Core.Path.{◌≡◌, refl, ap, ap₂, sym, ◌∙◌}
use mathlib.Core.Bool.{Bool, true, false, ◌&&◌, false≢true}
use mathlib.Core.Logic.{◌↔◌}
use mathlib.Core.List.{List, [], ◌∷◌, ◌++◌, append-nil}
use Prim.Native.Nat.{ℕ, ◌+◌, ◌-◌, ◌≤◌, ◌<◌}
use native.Mathlib.Omega.{arith}
use lib.ListN.{length, take, drop, length-append, length-drop}
use lib.Seq.{take-append_seam, drop-append_seam, drop-drop, take_all}
use lib.Dec.{eqb, ltb}
use borrow.Author.Tests.{eqb-true, ltb-true, lt-ltb, eq-eqb}
use Rattle.prelude.proofs.Lists.{split_drop}
use Rattle.parts.specs.Parts.{part, seek_in, seek, holds}
use Rattle.parts.proofs.Laws.{part_fits, seek_bounds, seek_before, seek_rest}
use Rattle.parts.proofs.Seeking as seeking
use Rattle.headers.specs.Components.{octets_at}
use Rattle.jwe.specs.Compact.{stops, four_stops, compact_components}

-- Five parts with a full stop between each two.
abbrev pub five_parts : List ℕ → List ℕ → List ℕ → List ℕ → List ℕ → List ℕ
five_parts header key iv ciphertext tag =
    header ++ (46 ∷ (key ++ (46 ∷ (iv ++ (46 ∷ (ciphertext ++ (46 ∷ tag)))))))

-- A message that is so, no full stop standing in a part.
pub record FiveParts (message : List ℕ) : Type 0 where
  pub header : List ℕ
  pub key : List ℕ
  pub iv : List ℕ
  pub ciphertext : List ℕ
  pub tag : List ℕ
  pub none_in_header : holds 46 header ≡ false
  pub none_in_key : holds 46 key ≡ false
  pub none_in_iv : holds 46 iv ≡ false
  pub none_in_ciphertext : holds 46 ciphertext ≡ false
  pub none_in_tag : holds 46 tag ≡ false
  pub is : message ≡ five_parts header key iv ciphertext tag

-- Octets a without a full stop stand at a position of the text s, and behind them a full stop, the next one, and b.
pub record Stop (s : List ℕ) (at : ℕ) (a b : List ℕ) : Type 0 where
  pub place : seek 46 s at ≡ at + length a
  pub inside : seek 46 s at < length s
  pub octets : part s at (seek 46 s at - at) ≡ a
  pub rest : drop (seek 46 s at + 1) s ≡ b

module _ (s : List ℕ) (at : ℕ) (a : List ℕ) where
  -- Octets are the part at their place ..
  part_there : (r : List ℕ) → at ≤ length s → drop at s ≡ a ++ r → part s at (length a) ≡ a
  part_there r h e =
      part_fits s at (length a) (omega (arith, length-drop at s, ap length e, length-append a r))
      ∙ ap (take (length a)) e ∙ take-append_seam a r

  -- .. also where they end the text.
  part_last : at ≤ length s → drop at s ≡ a → part s at (length s - at) ≡ a
  part_last h e =
      ap (part s at) (omega (arith, length-drop at s, ap length e))
      ∙ part_there [] h (e ∙ sym (append-nil a))

  module _ (none : holds 46 a ≡ false) where
    stop_there : (b : List ℕ) → drop at s ≡ a ++ (46 ∷ b) → seek 46 s at ≡ at + length a
    unfolding seek seek_in
    stop_there b e = ap (λ (t : List ℕ). seek_in 46 t at) e ∙ seeking.passed 46 a (46 ∷ b) at none

    stop_at : (b : List ℕ) → drop at s ≡ a ++ (46 ∷ b) → Stop s at a b
    stop_at b e =
        let place = stop_there b e in
        let size : length (a ++ (46 ∷ b)) ≡ length s - at = sym (ap length e) ∙ length-drop at s in
        let sum : seek 46 s at + 1 ≡ at + (length a + 1) = omega arith in
        record {
          place = place;
          inside = omega (arith, length-append a (46 ∷ b));
          octets =
              ap (part s at) (omega arith) ∙ part_there (46 ∷ b) (omega (arith, length-append a (46 ∷ b))) e;
          rest =
              ap (λ (k : ℕ). drop k s) sum ∙ sym (drop-drop (length a + 1) at s) ∙ ap (drop (length a + 1)) e
              ∙ sym (drop-drop 1 (length a) (a ++ (46 ∷ b))) ∙ ap (drop 1) (drop-append_seam a (46 ∷ b));
        }

    -- Where nothing stands behind them, the end of the text is found.
    end_there : at ≤ length s → drop at s ≡ a → seek 46 s at ≡ length s
    unfolding seek seek_in
    end_there h e =
        ap (λ (t : List ℕ). seek_in 46 t at) (e ∙ sym (append-nil a)) ∙ seeking.passed 46 a [] at none
        ∙ omega (arith, length-drop at s, ap length e)

-- Where the full stops of a message stand.
module _ (message : List ℕ) where
  abbrev one : ℕ
  one = seek 46 message 0

  abbrev two : ℕ
  two = seek 46 message (one + 1)

  abbrev three : ℕ
  three = seek 46 message (two + 1)

  abbrev four : ℕ
  four = seek 46 message (three + 1)

-- The four full stops of five parts.
module _ (message : List ℕ) (f : FiveParts message) where
  first_stop : Stop message 0 f.header
      (f.key ++ (46 ∷ (f.iv ++ (46 ∷ (f.ciphertext ++ (46 ∷ f.tag))))))
  first_stop = stop_at message 0 f.header f.none_in_header _ f.is

  second_stop : Stop message (one message + 1) f.key (f.iv ++ (46 ∷ (f.ciphertext ++ (46 ∷ f.tag))))
  second_stop = stop_at message (one message + 1) f.key f.none_in_key _ first_stop.rest

  third_stop : Stop message (two message + 1) f.iv (f.ciphertext ++ (46 ∷ f.tag))
  third_stop = stop_at message (two message + 1) f.iv f.none_in_iv _ second_stop.rest

  fourth_stop : Stop message (three message + 1) f.ciphertext f.tag
  fourth_stop = stop_at message (three message + 1) f.ciphertext f.none_in_ciphertext _ third_stop.rest

  parts_stop : four_stops message ≡ true
  unfolding four_stops stops
  parts_stop =
      let d = four message in
      let h = fourth_stop.inside in
      let e = end_there message (d + 1) f.tag f.none_in_tag (omega arith) fourth_stop.rest in
      ap₂ ◌&&◌ (lt-ltb d (length message) h) (eq-eqb (seek 46 message (d + 1)) (length message) e)

-- The components are the parts.
pub record Placed (message : List ℕ) (f : FiveParts message) : Type 0 where
  pub header : octets_at message (compact_components message).protected ≡ f.header
  pub key : octets_at message (compact_components message).key ≡ f.key
  pub iv : octets_at message (compact_components message).iv ≡ f.iv
  pub ciphertext : octets_at message (compact_components message).ciphertext ≡ f.ciphertext
  pub tag : octets_at message (compact_components message).tag ≡ f.tag
  pub key_size : (compact_components message).key.size ≡ length f.key
  pub iv_size : (compact_components message).iv.size ≡ length f.iv
  pub ciphertext_size : (compact_components message).ciphertext.size ≡ length f.ciphertext
  pub tag_size : (compact_components message).tag.size ≡ length f.tag

pub parts_placed : (message : List ℕ) (f : FiveParts message) → Placed message f
unfolding compact_components stops
parts_placed message f =
    let a = first_stop message f in
    let b = second_stop message f in
    let c = third_stop message f in
    let d = fourth_stop message f in
    let inside = d.inside in
    let place = b.place in
    record {
      header = ap (part message 0) (omega arith) ∙ a.octets;
      key = b.octets;
      iv = c.octets;
      ciphertext = d.octets;
      tag = part_last message (four message + 1) f.tag (omega arith) d.rest;
      key_size = omega arith;
      iv_size = omega (arith, c.place);
      ciphertext_size = omega (arith, d.place);
      tag_size = omega (arith, ap length d.rest, length-drop (four message + 1) message);
    }

-- From the stops to the parts

module _ (s : List ℕ) (at : ℕ) where
  -- What stands before the next full stop, and behind it.
  cut : seek 46 s at < length s →
      drop at s ≡ take (seek 46 s at - at) (drop at s) ++ (46 ∷ drop (seek 46 s at + 1) s)
  cut h =
      let e = seek 46 s at in
      split_drop s at e (seek_bounds 46 s at).0
      ∙ ap (λ (t : List ℕ). take (e - at) (drop at s) ++ t) (seek_rest 46 s at e refl h)

  none_last : seek 46 s at ≡ length s → holds 46 (drop at s) ≡ false
  none_last e =
      ap (holds 46) (sym (take_all (length s - at) (drop at s) (omega (arith, length-drop at s))))
      ∙ seek_before 46 s at (length s) (sym e)

both_true : (a b : Bool) → (a && b) ≡ true → (a ≡ true) × (b ≡ true)
both_true true b e = (refl, e)
both_true false b e = absurd (false≢true e)

stops_parts : (message : List ℕ) → four_stops message ≡ true → FiveParts message
unfolding four_stops stops
stops_parts message e =
    let a = seek 46 message 0 in
    let b = seek 46 message (a + 1) in
    let c = seek 46 message (b + 1) in
    let d = seek 46 message (c + 1) in
    let t = both_true (ltb d (length message)) (eqb (seek 46 message (d + 1)) (length message)) e in
    let inside = ltb-true d (length message) t.0 in
    let last = eqb-true (seek 46 message (d + 1)) (length message) t.1 in
    let ab = (seek_bounds 46 message (a + 1)).0 in
    let bc = (seek_bounds 46 message (b + 1)).0 in
    let cd = (seek_bounds 46 message (c + 1)).0 in
    record {
      header = take (a - 0) message;
      key = take (b - (a + 1)) (drop (a + 1) message);
      iv = take (c - (b + 1)) (drop (b + 1) message);
      ciphertext = take (d - (c + 1)) (drop (c + 1) message);
      tag = drop (d + 1) message;
      none_in_header = seek_before 46 message 0 a refl;
      none_in_key = seek_before 46 message (a + 1) b refl;
      none_in_iv = seek_before 46 message (b + 1) c refl;
      none_in_ciphertext = seek_before 46 message (c + 1) d refl;
      none_in_tag = none_last message (d + 1) last;
      is =
          cut message 0 (omega arith)
          ∙ ap (λ (r : List ℕ). take (a - 0) message ++ (46 ∷ r))
          (cut message (a + 1) (omega arith)
          ∙ ap (λ (r : List ℕ). take (b - (a + 1)) (drop (a + 1) message) ++ (46 ∷ r))
          (cut message (b + 1) (omega arith)
          ∙ ap (λ (r : List ℕ). take (c - (b + 1)) (drop (b + 1) message) ++ (46 ∷ r)) (cut message (c + 1) inside)));
    }

-- 4
pub stops_decided : (message : List ℕ) → (four_stops message ≡ true) ↔ FiveParts message
stops_decided message = (stops_parts message, parts_stop message)
