-- Where the components of a written message stand: the reader's places are those of the definition, and each has its
-- component's encoding.
use mathlib.Core.Path.{◌≡◌, refl, ap, ap₂, sym, ◌∙◌}
use mathlib.Core.Bool.{false}
use mathlib.Core.List.{List, [], ◌∷◌, ◌++◌, append_assoc}
use Prim.Native.Nat.{ℕ, ◌+◌}
use native.Mathlib.Omega.{arith}
use lib.ListN.{length, length-append}
use Rattle.base64url.specs.Base64url.{encoded}
use Rattle.parts.specs.Parts.{seek, holds}
use Rattle.parts.proofs.Laws.{seek_after}
use Rattle.grammar.specs.Places.{Place}
use Rattle.prelude.specs.Ascii.{full_stop}
use Rattle.headers.specs.Components.{octets_at, absent, Components, dotted}
use Rattle.jwe.specs.Compact.{stops, compact_components}
use Rattle.jwe_write.specs.Write.{Raw, compact_text}
use Rattle.meets.proofs.FiveParts.{FiveParts, parts_placed}
use Rattle.meets.proofs.SpelledDecided.{Spelled, spelled_parts}
use Rattle.round_trips.specs.Trips.{RawOctets, written_places}
use Rattle.round_trips.proofs.ComingBack.{Stands}

-- Octets a without a full stop stand at a position of the text s, then a full stop and b: it is found behind a, and b
-- stands behind it.
record Passed (s : List ℕ) (at : ℕ) (a b : List ℕ) : Type 0 where
  stop : seek full_stop s at ≡ at + length a
  front : List ℕ
  size : length front ≡ seek full_stop s at + 1
  is : s ≡ front ++ b

pass : (s front a b : List ℕ) (at : ℕ) → length front ≡ at → s ≡ front ++ (a ++ (full_stop ∷ b)) →
    holds full_stop a ≡ false → Passed s at a b
pass s front a b at size is none =
    let stop : seek full_stop s at ≡ at + length a = rw (is, ← size) (seek_after full_stop a none front b) in
    record {
      stop = stop;
      front = front ++ (a ++ (full_stop ∷ []));
      size = simp length-append (omega arith);
      is = is ∙ simp append_assoc;
    }

-- The four full stops of five parts.
module _ (message : List ℕ) where
  abbrev one : ℕ
  one = seek full_stop message 0

  abbrev two : ℕ
  two = seek full_stop message (one + 1)

  abbrev three : ℕ
  three = seek full_stop message (two + 1)

  abbrev four : ℕ
  four = seek full_stop message (three + 1)

  module _ (f : FiveParts message) where
    abbrev behind_third : List ℕ
    behind_third = f.ciphertext ++ (full_stop ∷ f.tag)

    abbrev behind_second : List ℕ
    behind_second = f.iv ++ (full_stop ∷ behind_third)

    abbrev behind_first : List ℕ
    behind_first = f.key ++ (full_stop ∷ behind_second)

    first : Passed message 0 f.header behind_first
    first = pass message [] f.header behind_first 0 refl f.is f.none_in_header

    second : Passed message (one + 1) f.key behind_second
    second = pass message first.front f.key behind_second (one + 1) first.size first.is f.none_in_key

    third : Passed message (two + 1) f.iv behind_third
    third = pass message second.front f.iv behind_third (two + 1) second.size second.is f.none_in_iv

    fourth : Passed message (three + 1) f.ciphertext f.tag
    fourth =
        pass message third.front f.ciphertext f.tag (three + 1) third.size third.is
        f.none_in_ciphertext

    end : length message ≡ four + 1 + length f.tag
    end =
        let front = fourth.front in
        ap length fourth.is ∙ length-append front f.tag ∙ ap (λ (n : ℕ). n + length f.tag) fourth.size

place_same : (q p : Place) → q.start ≡ p.start → q.size ≡ p.size → q ≡ p
place_same q p e f = ap₂ (λ (m n : ℕ). record { start = m; size = n }) e f

components_same : (p q k l i j x y t u : Place) → p ≡ q → k ≡ l → i ≡ j → x ≡ y → t ≡ u →
    ◌≡◌ {A = Components} (record { protected = p; key = k; iv = i; aad = absent; ciphertext = x; tag = t })
    (record { protected = q; key = l; iv = j; aad = absent; ciphertext = y; tag = u })
components_same p q k l i j x y t u a b c d e = cc

pub dotted_written : (c : Raw) → dotted c.header c.key c.iv c.ciphertext c.tag ≡ compact_text c
unfolding compact_text
dotted_written c = refl

-- What is written
module _ (c : Raw) (o : RawOctets c) where
  abbrev message : List ℕ
  message = compact_text c

  abbrev pub spelled : Spelled (compact_text c)
  spelled = record {
    header = c.header;
    key = c.key;
    iv = c.iv;
    ciphertext = c.ciphertext;
    tag = c.tag;
    octets = (o.header, o.key, o.iv, o.ciphertext, o.tag);
    spelled = dotted_written c;
  }

  abbrev parts : FiveParts message
  parts = spelled_parts message spelled

  -- Its full stops, and its end.
  record Sums : Type 0 where
    first : one message ≡ 0 + length (encoded c.header)
    second : two message ≡ one message + 1 + length (encoded c.key)
    third : three message ≡ two message + 1 + length (encoded c.iv)
    fourth : four message ≡ three message + 1 + length (encoded c.ciphertext)
    end : length message ≡ four message + 1 + length (encoded c.tag)

  sums : Sums
  sums = record {
    first = (first message parts).stop;
    second = (second message parts).stop;
    third = (third message parts).stop;
    fourth = (fourth message parts).stop;
    end = end message parts;
  }

  pub places_are : compact_components message ≡ written_places c
  unfolding compact_components stops written_places
  places_are =
      let s = sums in
      let q = compact_components message in
      let p = written_places c in
      components_same q.protected p.protected q.key p.key q.iv p.iv q.ciphertext p.ciphertext
      q.tag p.tag
      (place_same q.protected p.protected refl (omega arith))
      (place_same q.key p.key (omega arith) (omega arith))
      (place_same q.iv p.iv (omega arith) (omega arith))
      (place_same q.ciphertext p.ciphertext (omega arith) (omega arith))
      (place_same q.tag p.tag (omega arith) (omega arith))

  -- At each place stands its component, encoded.
  pub written_stands : Stands message (written_places c) c
  written_stands =
      let p = parts_placed message parts in
      let same = sym places_are in
      record {
        header = ap (λ (x : Components). octets_at message x.protected) same ∙ p.header;
        key = ap (λ (x : Components). octets_at message x.key) same ∙ p.key;
        iv = ap (λ (x : Components). octets_at message x.iv) same ∙ p.iv;
        ciphertext = ap (λ (x : Components). octets_at message x.ciphertext) same ∙ p.ciphertext;
        tag = ap (λ (x : Components). octets_at message x.tag) same ∙ p.tag;
      }
