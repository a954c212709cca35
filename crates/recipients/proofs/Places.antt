-- The places of a table: each body begins where the one before it ends, and in a sound table they all fit; the recipients one
-- after the other, as a loop takes them.
use mathlib.Core.Path.{◌≡◌, refl, ap, sym, ◌∙◌}
use mathlib.Core.Bool.{Bool, true, false, ◌&&◌, cond, true≢false}
use mathlib.Core.List.{List, [], ◌∷◌}
use Prim.Native.Nat.{ℕ, zero, suc, ◌+◌, ◌-◌, ◌*◌, ◌≤◌, ◌<◌}
use native.Mathlib.Nat.{add-zero, add-suc, le_of_suc-le-suc, not-suc-le-zero}
use native.Mathlib.Numerals.{add-one}
use native.Mathlib.Omega.{arith}
use lib.ListN.{length, drop, drop_of_length-le}
use lib.Dec.{leb, eqb}
use borrow.Author.Tests.{le-leb, lt-leb, leb-true, eqb-true, eq-eqb, ne_eqb}
use Rattle.prelude.specs.Limits.{most_recipients}
use Rattle.recipients.specs.Table.{RawRecipient}
use Rattle.recipients.specs.Parsed.{said_count, header_length, key_length, body_start, recipient_at, recipients_from}
use Rattle.recipients.specs.Parsed.{recipients_in, sound_table}
use Rattle.recipients.specs.Inner.Answers.{count_answer}
use Rattle.std.specs.Prelude.{Some, None}

-- Where bodies begin

module _ (t : List ℕ) where
  pub start_first : body_start t 0 ≡ 1 + 8 * said_count t
  unfolding body_start
  start_first = refl

  pub start_next : (i : ℕ) → body_start t (i + 1) ≡ body_start t i + header_length t i + key_length t i
  unfolding body_start
  start_next i = ap (body_start t) (add-one i)

  start_grows : (k i : ℕ) → body_start t i ≤ body_start t (i + k)
  unfolding body_start
  start_grows zero i = omega (arith, ap (body_start t) (add-zero i))
  start_grows (suc k) i = omega (arith, start_grows k i, ap (body_start t) (add-suc i k))

  -- no body begins before one that stands before it
  pub start_order : (i j : ℕ) → i ≤ j → body_start t i ≤ body_start t j
  start_order i j h =
      let sum : i + (j - i) ≡ j = omega arith in
      rw sum at (start_grows (j - i) i)

-- What a table shows

both : (a b : Bool) → (a && b) ≡ true → (a ≡ true) × (b ≡ true)
both true b e = (refl, e)
both false b e = absurd (true≢false (sym e))

pub empty_none : (t : List ℕ) → length t ≡ 0 → said_count t < 1
empty_none [] h = omega arith
empty_none (n ∷ rest) h = absurd (omega (arith, h))

module _ (t : List ℕ) where
  pub none_unsound : said_count t < 1 → sound_table t ≡ false
  unfolding sound_table
  none_unsound h =
      ap (λ (b : Bool). b && (leb (said_count t) most_recipients && eqb (body_start t (said_count t)) (length t)))
      (lt-leb 1 (said_count t) h)

  module _ (some : 1 ≤ said_count t) where
    behind_first : sound_table t ≡ (leb (said_count t) most_recipients && eqb (body_start t (said_count t)) (length t))
    unfolding sound_table
    behind_first =
        ap (λ (b : Bool). b && (leb (said_count t) most_recipients && eqb (body_start t (said_count t)) (length t)))
        (le-leb 1 (said_count t) some)

    pub many_unsound : most_recipients < said_count t → sound_table t ≡ false
    many_unsound h =
        behind_first
        ∙ ap (λ (b : Bool). b && eqb (body_start t (said_count t)) (length t)) (lt-leb (said_count t) most_recipients h)

    module _ (few : said_count t ≤ most_recipients) where
      behind_second : sound_table t ≡ eqb (body_start t (said_count t)) (length t)
      behind_second =
          behind_first
          ∙ ap (λ (b : Bool). b && eqb (body_start t (said_count t)) (length t)) (le-leb (said_count t) most_recipients few)

      pub unfilled_unsound : (body_start t (said_count t) ≡ length t → ⊥) → sound_table t ≡ false
      unfilled_unsound h = behind_second ∙ ne_eqb (body_start t (said_count t)) (length t) h

      -- too short for its lengths
      pub short_unsound : length t < 1 + 8 * said_count t → sound_table t ≡ false
      short_unsound h =
          unfilled_unsound (λ e. omega (arith, e, h, start_first t, start_order t 0 (said_count t) (omega arith)))

      pub filled_sound : body_start t (said_count t) ≡ length t → sound_table t ≡ true
      filled_sound e = behind_second ∙ eq-eqb (body_start t (said_count t)) (length t) e

  pub count_malformed : sound_table t ≡ false → None ≡ count_answer t
  unfolding count_answer
  count_malformed e = sym (ap (λ (b : Bool). cond b (Some (said_count t)) None) e)

  pub count_sound : sound_table t ≡ true → Some (said_count t) ≡ count_answer t
  unfolding count_answer
  count_sound e = sym (ap (λ (b : Bool). cond b (Some (said_count t)) None) e)

  -- what the answer says of the table
  module _ (n : ℕ) (said : count_answer t ≡ Some n) where
    pub counted_sound : sound_table t ≡ true
    unfolding count_answer
    counted_sound = cases (sound_table t) refl
      where
        cases : (b : Bool) → sound_table t ≡ b → sound_table t ≡ true
        cases true e = e
        cases false e = let z : ◌≡◌ {A = ℕ} 0 1 = cc (count_malformed e) in absurd (omega arith)

    pub counted : n ≡ said_count t
    counted = cc (count_sound counted_sound)

  pub uncounted : count_answer t ≡ None → sound_table t ≡ false
  uncounted said = cases (sound_table t) refl
    where
      cases : (b : Bool) → sound_table t ≡ b → sound_table t ≡ false
      cases true e = let z : ◌≡◌ {A = ℕ} 0 1 = cc (count_sound e) in absurd (omega arith)
      cases false e = e

module _ (t : List ℕ) (sound : sound_table t ≡ true) where
  tests : (leb 1 (said_count t) ≡ true)
      × ((leb (said_count t) most_recipients && eqb (body_start t (said_count t)) (length t)) ≡ true)
  unfolding sound_table
  tests = both (leb 1 (said_count t)) (leb (said_count t) most_recipients && eqb (body_start t (said_count t)) (length t)) sound

  pub sound_some : 1 ≤ said_count t
  sound_some = leb-true 1 (said_count t) tests.0

  later : (leb (said_count t) most_recipients ≡ true) × (eqb (body_start t (said_count t)) (length t) ≡ true)
  later = both (leb (said_count t) most_recipients) (eqb (body_start t (said_count t)) (length t)) tests.1

  pub sound_few : said_count t ≤ most_recipients
  sound_few = leb-true (said_count t) most_recipients later.0

  pub sound_fills : body_start t (said_count t) ≡ length t
  sound_fills = eqb-true (body_start t (said_count t)) (length t) later.1

  pub lengths_fit : 1 + 8 * said_count t ≤ length t
  lengths_fit = omega (arith, sound_fills, start_first t, start_order t 0 (said_count t) (omega arith))

  -- so do the two lengths of each recipient
  pub lengths_there : (i : ℕ) → i < said_count t → 1 + 8 * i + 8 ≤ length t
  lengths_there i h = omega (arith, lengths_fit)

  pub body_fits : (i : ℕ) → i < said_count t → body_start t i + header_length t i + key_length t i ≤ length t
  body_fits i h = omega (arith, sound_fills, start_next t i, start_order t (i + 1) (said_count t) (omega arith))

-- The recipients one after the other

module _ (t : List ℕ) where
  from_count : (n i : ℕ) → length (recipients_from t n i) ≡ n
  unfolding recipients_from
  from_count zero i = refl
  from_count (suc n) i = ap suc (from_count n (suc i))

  pub recipients_count : length (recipients_in t) ≡ said_count t
  unfolding recipients_in
  recipients_count = from_count (said_count t) 0

  from_next : (n k i : ℕ) → k < n →
      drop k (recipients_from t n i) ≡ recipient_at t (i + k) ∷ drop (suc k) (recipients_from t n i)
  unfolding recipients_from
  from_next zero k i h = absurd (not-suc-le-zero h)
  from_next (suc n) zero i h = ap (λ (j : ℕ). recipient_at t j ∷ recipients_from t n (suc i)) (sym (add-zero i))
  from_next (suc n) (suc k) i h =
      let place : suc i + k ≡ i + suc k = omega arith in
      from_next n k (suc i) (le_of_suc-le-suc h)
      ∙ ap (λ (j : ℕ). recipient_at t j ∷ drop (suc k) (recipients_from t n (suc i))) place

  -- those from the i-th on are the i-th and those from the next one on
  pub recipients_next : (i : ℕ) → i < said_count t → drop i (recipients_in t) ≡ recipient_at t i ∷ drop (i + 1) (recipients_in t)
  unfolding recipients_in
  recipients_next i h =
      let place : 0 + i ≡ i = omega arith in
      from_next (said_count t) i 0 h
      ∙ ap (λ (j : ℕ). recipient_at t j ∷ drop (suc i) (recipients_from t (said_count t) 0)) place
      ∙ ap (λ (j : ℕ). recipient_at t i ∷ drop j (recipients_from t (said_count t) 0)) (sym (add-one i))

  pub recipients_end : (i : ℕ) → said_count t ≤ i → drop i (recipients_in t) ≡ []
  recipients_end i h = drop_of_length-le (recipients_in t) {i = i} (omega (arith, recipients_count, h))

  -- a table of one recipient
  pub recipients_one : said_count t ≡ 1 → recipients_in t ≡ recipient_at t 0 ∷ []
  recipients_one e =
      recipients_next 0 (omega (arith, e))
      ∙ ap (λ (rs : List RawRecipient). recipient_at t 0 ∷ rs) (recipients_end 1 (omega (arith, e)))
