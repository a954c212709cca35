-- Spellings as the code reads them: a whole character at a time, its octets taken from the code point that it says.
use mathlib.Core.Path.{◌≡◌, refl, ap, sym, ◌∙◌}
use mathlib.Core.Bool.{Bool, true, false, cond, true≢false}
use mathlib.Core.List.{List, [], ◌∷◌, ◌++◌}
use mathlib.Core.Option.{none, some}
use mathlib.Core.Option as maybe
use Prim.Native.Nat.{ℕ, zero, suc, ◌+◌, ◌≤◌, ◌<◌}
use native.Mathlib.Omega.{arith}
use lib.ListN.{length, drop, get_or, drop_of_length-le, length-drop}
use borrow.Author.Tests.{ne_eqb}
use Rattle.prelude.proofs.Lists.{drop_next}
use Rattle.grammar.specs.Strings.{hex_more, unit, escape_point, is_high, combined}
use Rattle.grammar.specs.Utf8.{encode}
use Rattle.grammar.specs.Spellings.{Spot, between, escaping, digit, unit_octets, adds, next, undo_from}
use Rattle.std.specs.Prelude.{Option, None, Some, is_some}
use Rattle.spelling.specs.Inner.Escapes.{half_of, waiting, last_octets, undo_at}

-- Octets of a spelling

module _ (s : List ℕ) (x : Spot) (at : ℕ) where
  -- One octet.
  undo_here : at < length s →
      undo_from x (drop at s) ≡ adds x (get_or s at 0) ++ undo_from (next x (get_or s at 0)) (drop (at + 1) s)
  unfolding undo_from
  undo_here h = ap (undo_from x) (drop_next s at (at + 1) refl h)

  pub undo_end : length s ≤ at → undo_from x (drop at s) ≡ []
  unfolding undo_from
  undo_end h = ap (undo_from x) (drop_of_length-le s {i = at} h)

-- Too few digits add nothing.
digits_cut : (h : maybe.Option ℕ) (n x : ℕ) (w : List ℕ) → length w ≤ n → undo_from (digit h n x) w ≡ []
unfolding undo_from adds next
digits_cut h n x [] l = refl
digits_cut h zero x (c ∷ w) l = absurd (omega arith)
digits_cut h (suc n) x (c ∷ w) l = digits_cut h n (hex_more x c) w (omega arith)

-- Characters

module _ (s : List ℕ) (half : Option ℕ) (at : ℕ) (h : at < length s) where
  -- An octet that stands for itself.
  pub undo_plain : (get_or s at 0 ≡ 92 → ⊥) → undo_at s half at ≡ get_or s at 0 ∷ undo_at s None (at + 1)
  unfolding adds next
  undo_plain f = undo_here s (between (half_of half)) at h ∙ simp (ne_eqb (get_or s at 0) 92 f)

  module _ (e : get_or s at 0 ≡ 92) where
    undo_backslash : undo_at s half at ≡ undo_from (escaping (half_of half)) (drop (at + 1) s)
    unfolding adds next
    undo_backslash =
        undo_here s (between (half_of half)) at h
        ∙ ap (λ (c : ℕ). adds (between (half_of half)) c ++ undo_from (next (between (half_of half)) c) (drop (at + 1) s)) e

    -- Cut off behind the backslash.
    pub undo_cut : length s ≤ at + 1 → undo_at s half at ≡ []
    undo_cut l = undo_backslash ∙ undo_end s (escaping (half_of half)) (at + 1) l

    module _ (i : at + 1 < length s) where
      -- An escape other than \u.
      pub undo_escape : (get_or s (at + 1) 0 ≡ 117 → ⊥) →
          undo_at s half at ≡ escape_point (get_or s (at + 1) 0) ∷ undo_at s None (at + 2)
      unfolding adds next
      undo_escape f =
          let two : at + 1 + 1 ≡ at + 2 = omega arith in
          undo_backslash ∙ undo_here s (escaping (half_of half)) (at + 1) i
          ∙ (simp (ne_eqb (get_or s (at + 1) 0) 117 f))
          ∙ ap (λ (k : ℕ). escape_point (get_or s (at + 1) 0) ∷ undo_at s None k) two

      module _ (f : get_or s (at + 1) 0 ≡ 117) where
        undo_digits : undo_at s half at ≡ undo_from (digit (half_of half) 3 0) (drop (at + 1 + 1) s)
        unfolding adds next
        undo_digits =
            undo_backslash ∙ undo_here s (escaping (half_of half)) (at + 1) i
            ∙ ap (λ (c : ℕ). adds (escaping (half_of half)) c ++ undo_from (next (escaping (half_of half)) c) (drop (at + 1 + 1) s)) f

        -- Cut off among the digits.
        pub undo_cut_digits : length s < at + 6 → undo_at s half at ≡ []
        undo_cut_digits l =
            undo_digits ∙ digits_cut (half_of half) 3 0 (drop (at + 1 + 1) s) (omega (arith, length-drop (at + 1 + 1) s))

-- A half that waits.
half_waits : (u : ℕ) → half_of (waiting u) ≡ cond (is_high u) (some u) none
half_waits u = cases (is_high u)
  where
    cases : (b : Bool) → half_of (cond b (Some u) None) ≡ cond b (some u) none
    cases true = refl
    cases false = refl

-- One more digit, and the last one.
module _ (s : List ℕ) (h : maybe.Option ℕ) (x at : ℕ) (l : at < length s) where
  digit_here : (n : ℕ) →
      undo_from (digit h (suc n) x) (drop at s) ≡ undo_from (digit h n (hex_more x (get_or s at 0))) (drop (at + 1) s)
  unfolding adds next
  digit_here n = undo_here s (digit h (suc n) x) at l

  last_digit :
      undo_from (digit h zero x) (drop at s)
      ≡ unit_octets h (hex_more x (get_or s at 0)) ++ undo_at s (waiting (hex_more x (get_or s at 0))) (at + 1)
  unfolding adds next
  last_digit =
      undo_here s (digit h zero x) at l
      ∙ ap (λ (g : maybe.Option ℕ). unit_octets h (hex_more x (get_or s at 0)) ++ undo_from (between g) (drop (at + 1) s))
      (sym (half_waits (hex_more x (get_or s at 0))))

-- What \u adds, whole.
module _ (s : List ℕ) (half : Option ℕ) (at : ℕ) (h : at + 6 ≤ length s) (e : get_or s at 0 ≡ 92) (f : get_or s (at + 1) 0 ≡ 117)
    (u : ℕ) (v : u ≡ unit (get_or s (at + 2) 0) (get_or s (at + 3) 0) (get_or s (at + 4) 0) (get_or s (at + 5) 0)) where
  undo_unit : undo_at s half at ≡ unit_octets (half_of half) u ++ undo_at s (waiting u) (at + 6)
  undo_unit =
      let two : at + 1 + 1 ≡ at + 2 = omega arith in
      let three : at + 2 + 1 ≡ at + 3 = omega arith in
      let four : at + 3 + 1 ≡ at + 4 = omega arith in
      let five : at + 4 + 1 ≡ at + 5 = omega arith in
      let six : at + 5 + 1 ≡ at + 6 = omega arith in
      let a = hex_more 0 (get_or s (at + 2) 0) in
      let b = hex_more a (get_or s (at + 3) 0) in
      let c = hex_more b (get_or s (at + 4) 0) in
      let d = hex_more c (get_or s (at + 5) 0) in
      undo_digits s half at (omega arith) e (omega arith) f
      ∙ ap (λ (k : ℕ). undo_from (digit (half_of half) 3 0) (drop k s)) two
      ∙ digit_here s (half_of half) 0 (at + 2) (omega arith) 2
      ∙ ap (λ (k : ℕ). undo_from (digit (half_of half) 2 a) (drop k s)) three
      ∙ digit_here s (half_of half) a (at + 3) (omega arith) 1
      ∙ ap (λ (k : ℕ). undo_from (digit (half_of half) 1 b) (drop k s)) four
      ∙ digit_here s (half_of half) b (at + 4) (omega arith) 0
      ∙ ap (λ (k : ℕ). undo_from (digit (half_of half) 0 c) (drop k s)) five
      ∙ last_digit s (half_of half) c (at + 5) (omega arith)
      ∙ ap (λ (k : ℕ). unit_octets (half_of half) d ++ undo_at s (waiting d) k) six
      ∙ ap (λ (k : ℕ). unit_octets (half_of half) k ++ undo_at s (waiting k) (at + 6)) (sym v)

-- After a first half, the pair; else a code point by itself, or a first half, which adds nothing.
module _ (s : List ℕ) (at : ℕ) (h : at + 6 ≤ length s) (e : get_or s at 0 ≡ 92) (f : get_or s (at + 1) 0 ≡ 117)
    (u : ℕ) (v : u ≡ unit (get_or s (at + 2) 0) (get_or s (at + 3) 0) (get_or s (at + 4) 0) (get_or s (at + 5) 0))
    (waits : Option ℕ) (w : waits ≡ waiting u) where
  pub undo_pair : (half : Option ℕ) (x n : ℕ) → half ≡ Some x → n ≡ combined x u →
      undo_at s half at ≡ encode n ++ undo_at s waits (at + 6)
  undo_pair half x n i c = rw (i, c, w) (undo_unit s (Some x) at h e f u v)

  pub undo_single : (half : Option ℕ) → half ≡ None → is_some waits ≡ false → undo_at s half at ≡ encode u ++ undo_at s waits (at + 6)
  undo_single half z n = rw (z, w) (cases (is_high u) refl (ap is_some (sym w) ∙ n))
    where
      cases : (b : Bool) → is_high u ≡ b → is_some (cond b (Some u) None) ≡ false →
          undo_at s None at ≡ encode u ++ undo_at s (waiting u) (at + 6)
      cases true i q = absurd (true≢false q)
      cases false i q = undo_unit s None at h e f u v ∙ ap (λ (b : Bool). cond b [] (encode u) ++ undo_at s (waiting u) (at + 6)) i

  pub undo_first : (half : Option ℕ) → half ≡ None → is_some waits ≡ true → undo_at s half at ≡ undo_at s waits (at + 6)
  undo_first half z n = rw (z, w) (cases (is_high u) refl (ap is_some (sym w) ∙ n))
    where
      cases : (b : Bool) → is_high u ≡ b → is_some (cond b (Some u) None) ≡ true →
          undo_at s None at ≡ undo_at s (waiting u) (at + 6)
      cases true i q = undo_unit s None at h e f u v ∙ ap (λ (b : Bool). cond b [] (encode u) ++ undo_at s (waiting u) (at + 6)) i
      cases false i q = absurd (true≢false (sym q))

-- A cursor of which no octet of a code point is to come: what it adds is what its text adds.
module _ {r : List ℕ} (left n : ℕ) (v : List ℕ) (e : r ≡ last_octets left n ++ v) (l : left ≤ 0) where
  pub between_characters : r ≡ v
  between_characters = e ∙ cases left l
    where
      cases : (k : ℕ) → k ≤ 0 → last_octets k n ++ v ≡ v
      cases zero l = refl
      cases (suc k) l = absurd (omega arith)

  -- that is an octet and what is behind it
  pub one_octet : (m c : ℕ) (w : List ℕ) → v ≡ c ∷ w → r ≡ c ∷ (last_octets left m ++ w)
  one_octet m c w f = between_characters ∙ f ∙ cases left l
    where
      cases : (k : ℕ) → k ≤ 0 → c ∷ w ≡ c ∷ (last_octets k m ++ w)
      cases zero l = refl
      cases (suc k) l = absurd (omega arith)

  -- the same from further on
  pub none_added : (m : ℕ) (w : List ℕ) → v ≡ w → r ≡ last_octets left m ++ w
  none_added m w f = between_characters ∙ f ∙ cases left l
    where
      cases : (k : ℕ) → k ≤ 0 → w ≡ last_octets k m ++ w
      cases zero l = refl
      cases (suc k) l = absurd (omega arith)

-- where no escape stands
module _ (s : List ℕ) (half : Option ℕ) (at left n : ℕ) (l : left ≤ 0) where
  pub plain_octet : (m : ℕ) → at < length s → (get_or s at 0 ≡ 92 → ⊥) →
      last_octets left n ++ undo_at s half at ≡ get_or s at 0 ∷ (last_octets left m ++ undo_at s None (at + 1))
  plain_octet m h f = one_octet left n (undo_at s half at) refl l m _ _ (undo_plain s half at h f)

  pub no_octet : length s ≤ at → last_octets left n ++ undo_at s half at ≡ []
  no_octet h = between_characters left n (undo_at s half at) refl l ∙ undo_end s (between (half_of half)) at h

pub ruleset plain_octets = (plain_octet, no_octet)
