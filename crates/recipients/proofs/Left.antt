-- The bodies of a table from one on: that one and those behind it, and none behind the last.
use mathlib.Core.Path.{◌≡◌, refl, ap, sym, ◌∙◌}
use mathlib.Core.List.{List, [], ◌∷◌, map}
use Prim.Native.Nat.{ℕ, zero, suc, ◌+◌, ◌-◌, ◌≤◌, ◌<◌}
use native.Mathlib.Numerals.{add-one}
use native.Mathlib.Omega.{arith}
use Rattle.recipients.specs.Table.{RawRecipient}
use Rattle.recipients.specs.Parsed.{said_count, recipient_at, recipients_from, recipients_in}
use Rattle.recipients.specs.Inner.Answers.{body_at, shown, bodies_from, bodies_left}

module _ (t : List ℕ) (i : ℕ) where
  pub left_next : i < said_count t → bodies_left t i ≡ body_at t i ∷ bodies_left t (i + 1)
  unfolding bodies_from
  left_next h =
      let more : said_count t - i ≡ suc (said_count t - (i + 1)) = omega arith in
      ap (λ (n : ℕ). bodies_from t n i) more
      ∙ ap (λ (j : ℕ). body_at t i ∷ bodies_from t (said_count t - (i + 1)) j) (sym (add-one i))

  pub left_end : said_count t ≤ i → bodies_left t i ≡ []
  unfolding bodies_from
  left_end h =
      let none : said_count t - i ≡ 0 = omega arith in
      ap (λ (n : ℕ). bodies_from t n i) none

-- Shown, they are the recipients.

pub shown_is : (t : List ℕ) (i : ℕ) → shown t (body_at t i) ≡ recipient_at t i
unfolding shown body_at recipient_at
shown_is t i = refl

shown_from : (t : List ℕ) (n i : ℕ) → map (shown t) (bodies_from t n i) ≡ recipients_from t n i
unfolding bodies_from recipients_from shown body_at recipient_at
shown_from t zero i = refl
shown_from t (suc n) i = ap (λ (rs : List RawRecipient). recipient_at t i ∷ rs) (shown_from t n (suc i))

pub shown_left : (t : List ℕ) → map (shown t) (bodies_left t 0) ≡ recipients_in t
unfolding recipients_in
shown_left t =
    let whole : said_count t - 0 ≡ said_count t = omega arith in
    ap (λ (n : ℕ). map (shown t) (bodies_from t n 0)) whole ∙ shown_from t (said_count t) 0
