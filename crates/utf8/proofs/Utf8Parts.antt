-- UTF-8 as the code reads it: the first octet of a character gives the ranges of the others, by a table that is computed;
-- each octet in its range moves the test on; and a block of octets below 128 is passed over.
use mathlib.Core.Path.{◌≡◌, refl, ap, ap₂, sym, subst, ◌∙◌}
use mathlib.Core.Bool.{Bool, true, false, not, ◌&&◌, ◌||◌}
use mathlib.Core.List.{List, [], ◌∷◌}
use mathlib.Core.Option.{none, some}
use mathlib.Core.Option as maybe
use Rattle.std.specs.Prelude.{Option, None, Some, is_some}
use Prim.Native.Nat.{ℕ, suc, ◌+◌, ◌-◌, ◌≤◌, ◌<◌}
use native.Mathlib.Omega.{arith}
use lib.ListN.{length, take, drop, get_or, replicate, drop_of_length-le, length-take, length-drop}
use lib.Seq.{get_or-take, get_or-drop}
use lib.Dec.{T, eqb, leb}
use borrow.Author.Tests.{le-leb, eqb-true}
use Rattle.std.specs.Bool.{then_some}
use Rattle.prelude.proofs.Lists.{drop_next}
use Rattle.prelude.proofs.Numbers.{every, below}
use Rattle.grammar.specs.Utf8.{Range, to, within, tail, rows, follow, utf8_after, utf8}
use Rattle.utf8.specs.Inner.Utf8Parts.{Low, Reaches, onward}
use Rattle.grammar.proofs.Scan.{T→true, both_T}
use Rattle.grammar.proofs.Steps.{utf8_low_run}

-- The ranges that a first octet gives

abbrev same_ranges : List Range → List Range → Bool
same_ranges [] [] = true
same_ranges [] (r ∷ rs) = false
same_ranges (q ∷ qs) [] = false
same_ranges (q ∷ qs) (r ∷ rs) = (eqb q.low r.low && eqb q.high r.high) && same_ranges qs rs

abbrev same_follow : maybe.Option (List Range) → maybe.Option (List Range) → Bool
same_follow none none = true
same_follow none (some rs) = false
same_follow (some qs) none = false
same_follow (some qs) (some rs) = same_ranges qs rs

same_ranges_lem : (qs rs : List Range) → T (same_ranges qs rs) → qs ≡ rs
same_ranges_lem [] [] t = refl
same_ranges_lem [] (r ∷ rs) t = absurd t
same_ranges_lem (q ∷ qs) [] t = absurd t
same_ranges_lem (q ∷ qs) (r ∷ rs) t =
    let u = both_T (eqb q.low r.low && eqb q.high r.high) (same_ranges qs rs) t in
    let v = both_T (eqb q.low r.low) (eqb q.high r.high) u.0 in
    let first : q ≡ r =
    ap₂ to (eqb-true _ _ (T→true (eqb q.low r.low) v.0)) (eqb-true _ _ (T→true (eqb q.high r.high) v.1)) in
    ap₂ ◌∷◌ first (same_ranges_lem qs rs u.1)

same_follow_lem : (o p : maybe.Option (List Range)) → T (same_follow o p) → o ≡ p
same_follow_lem none none t = refl
same_follow_lem none (some rs) t = absurd t
same_follow_lem (some qs) none t = absurd t
same_follow_lem (some qs) (some rs) t = ap some (same_ranges_lem qs rs t)

-- what is computed at each octet from l to h
follow_all : (l h : ℕ) (o : maybe.Option (List Range)) → T (every (λ n. not (leb l n) || same_follow (follow rows n) o) (suc h)) →
    (c : ℕ) → l ≤ c → c ≤ h → follow rows c ≡ o
follow_all l h o t c low high =
    same_follow_lem (follow rows c) o
    (subst (λ b. T (not b || same_follow (follow rows c) o)) (le-leb l c low)
    (below (λ n. not (leb l n) || same_follow (follow rows n) o) (suc h) t c (omega arith)))

-- At a position, by the row of the first octet: what is left to test after it.
module _ (s : List ℕ) (at : ℕ) (h : at < length s) where
  abbrev after : maybe.Option (List Range) → Bool
  after o = elim o as (λ o. Bool) [ none ↦ false | some rs ↦ utf8_after rs (drop (at + 1) s) ]

  row_here : (l m : ℕ) (o : maybe.Option (List Range)) →
      T (every (λ n. not (leb l n) || same_follow (follow rows n) o) (suc m)) →
      l ≤ get_or s at 0 → get_or s at 0 ≤ m → utf8 (drop at s) ≡ after o
  unfolding utf8 utf8_after
  row_here l m o t low high =
      ap (utf8_after []) (drop_next s at (at + 1) refl h) ∙ ap after (follow_all l m o t (get_or s at 0) low high)

  pub row_00 : get_or s at 0 ≤ 0x7F → utf8 (drop at s) ≡ utf8 (drop (at + 1) s)
  unfolding follow utf8
  row_00 = row_here 0x00 0x7F (some []) tt (omega arith)

  pub row_C2 : 0xC2 ≤ get_or s at 0 → get_or s at 0 ≤ 0xDF → utf8 (drop at s) ≡ utf8_after (tail ∷ []) (drop (at + 1) s)
  unfolding follow
  row_C2 = row_here 0xC2 0xDF (some (tail ∷ [])) tt

  pub row_E0 : 0xE0 ≤ get_or s at 0 → get_or s at 0 ≤ 0xE0 → utf8 (drop at s) ≡ utf8_after (to 0xA0 0xBF ∷ tail ∷ []) (drop (at + 1) s)
  unfolding follow
  row_E0 = row_here 0xE0 0xE0 (some (to 0xA0 0xBF ∷ tail ∷ [])) tt

  pub row_E1 : 0xE1 ≤ get_or s at 0 → get_or s at 0 ≤ 0xEC → utf8 (drop at s) ≡ utf8_after (tail ∷ tail ∷ []) (drop (at + 1) s)
  unfolding follow
  row_E1 = row_here 0xE1 0xEC (some (tail ∷ tail ∷ [])) tt

  pub row_ED : 0xED ≤ get_or s at 0 → get_or s at 0 ≤ 0xED → utf8 (drop at s) ≡ utf8_after (to 0x80 0x9F ∷ tail ∷ []) (drop (at + 1) s)
  unfolding follow
  row_ED = row_here 0xED 0xED (some (to 0x80 0x9F ∷ tail ∷ [])) tt

  pub row_EE : 0xEE ≤ get_or s at 0 → get_or s at 0 ≤ 0xEF → utf8 (drop at s) ≡ utf8_after (tail ∷ tail ∷ []) (drop (at + 1) s)
  unfolding follow
  row_EE = row_here 0xEE 0xEF (some (tail ∷ tail ∷ [])) tt

  pub row_F0 : 0xF0 ≤ get_or s at 0 → get_or s at 0 ≤ 0xF0 → utf8 (drop at s) ≡ utf8_after (to 0x90 0xBF ∷ tail ∷ tail ∷ []) (drop (at + 1) s)
  unfolding follow
  row_F0 = row_here 0xF0 0xF0 (some (to 0x90 0xBF ∷ tail ∷ tail ∷ [])) tt

  pub row_F1 : 0xF1 ≤ get_or s at 0 → get_or s at 0 ≤ 0xF3 → utf8 (drop at s) ≡ utf8_after (tail ∷ tail ∷ tail ∷ []) (drop (at + 1) s)
  unfolding follow
  row_F1 = row_here 0xF1 0xF3 (some (tail ∷ tail ∷ tail ∷ [])) tt

  pub row_F4 : 0xF4 ≤ get_or s at 0 → get_or s at 0 ≤ 0xF4 → utf8 (drop at s) ≡ utf8_after (to 0x80 0x8F ∷ tail ∷ tail ∷ []) (drop (at + 1) s)
  unfolding follow
  row_F4 = row_here 0xF4 0xF4 (some (to 0x80 0x8F ∷ tail ∷ tail ∷ [])) tt

  -- Between two rows, and above the last.

  pub row_80 : 0x80 ≤ get_or s at 0 → get_or s at 0 < 0xC2 → utf8 (drop at s) ≡ false
  unfolding follow
  row_80 l m = row_here 0x80 0xC1 none tt l (omega arith)

  pub row_F5 : 0xF4 < get_or s at 0 → get_or s at 0 < 256 → utf8 (drop at s) ≡ false
  unfolding follow
  row_F5 l m = row_here 0xF5 0xFF none tt (omega arith) (omega arith)

pub ruleset character_rows = (row_00, row_C2, row_E0, row_E1, row_ED, row_EE, row_F0, row_F1, row_F4, row_80, row_F5)

-- Octets that have to be in ranges: they are, and the test goes on after them.

pub range_here : (s : List ℕ) (at : ℕ) (r : Range) (rs : List Range) (n : ℕ) → n ≡ at + 1 → at < length s →
    utf8_after (r ∷ rs) (drop at s) ≡ (within r (get_or s at 0) && utf8_after rs (drop n s))
unfolding utf8_after
range_here s at r rs n e h = ap (utf8_after (r ∷ rs)) (drop_next s at n e h)

-- One more octet of a character, after which `rs` are left.
pub range_more : (s : List ℕ) (at : ℕ) (r : Range) (rs : List Range) (n : ℕ) (b : Bool) → n ≡ at + 1 → at < length s →
    ((b && within r (get_or s at 0)) && utf8_after rs (drop n s)) ≡ (b && utf8_after (r ∷ rs) (drop at s))
range_more s at r rs n true e h = sym (range_here s at r rs n e h)
range_more s at r rs n false e h = refl

-- All octets have been tested.
pub tested : (s : List ℕ) (b : Bool) (at n k : ℕ) → k ≡ n →
    onward s (then_some b (at + n)) ≡ (b && utf8_after (replicate (n - k) tail) (drop (at + k) s))
unfolding utf8
tested s b at n k e =
    let none : 0 ≡ n - k = omega arith in
    cases b ∙ ap₂ (λ (m i : ℕ). b && utf8_after (replicate m tail) (drop (at + i) s)) none (sym e)
  where
    cases : (b : Bool) → onward s (then_some b (at + n)) ≡ (b && utf8_after [] (drop (at + n) s))
    cases true = refl
    cases false = refl

-- Too few octets.
pub too_few : (s : List ℕ) (at : ℕ) (rs : List Range) → length s < at + 1 + length rs → at < length s →
    false ≡ utf8_after rs (drop (at + 1) s)
unfolding utf8_after
too_few s at rs h l = short rs (drop (at + 1) s) (omega (arith, length-drop (at + 1) s))
  where
    short : (rs : List Range) (t : List ℕ) → length t < length rs → false ≡ utf8_after rs t
    short [] t h = absurd (omega arith)
    short (r ∷ rs) [] h = refl
    short (r ∷ rs) (c ∷ t) h = cases (within r c) (short rs t (omega arith))
      where
        cases : (b : Bool) → false ≡ utf8_after rs t → false ≡ (b && utf8_after rs t)
        cases true e = e
        cases false e = refl

-- Nothing is left at the end.
utf8_end : (s : List ℕ) (at : ℕ) → length s ≤ at → utf8 (drop at s) ≡ true
unfolding utf8 utf8_after
utf8_end s at h = ap (utf8_after []) (drop_of_length-le s {i = at} h)

-- Characters that are right up to the end are all there are.
pub all_walked : (s : List ℕ) (o : Option ℕ) → Reaches (length s) s o → is_some o ≡ onward s o
all_walked s None r = refl
all_walked s (Some at) r = sym (utf8_end s at r.0)

pub low_part : (s : List ℕ) (at m : ℕ) → at + m ≤ length s → Low (take (at + m - at) (drop at s))
    → utf8 (drop (at + m) s) ≡ utf8 (drop at s)
unfolding utf8
low_part s at m h low =
    let size : length (take (at + m - at) (drop at s)) ≡ m =
    length-take (at + m - at) (drop at s) ∙ omega (arith, length-drop at s) in
    sym (utf8_low_run s m at h (λ k l.
    subst (λ (n : ℕ). n < 128) (get_or-take (at + m - at) (drop at s) k 0 (omega (arith, l)) ∙ get_or-drop at s k 0)
    (low k (omega (arith, l, size)))))
