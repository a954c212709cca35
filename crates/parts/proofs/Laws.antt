-- What is proved of parts and of seeking, for texts of any length.
use mathlib.Core.Path.{◌≡◌, refl, ap, sym, ◌∙◌}
use mathlib.Core.Bool.{Bool, true, false, ◌||◌, cond, true≢false}
use mathlib.Core.List.{List, [], ◌∷◌, ◌++◌, append-nil}
use Prim.Native.Nat.{ℕ, zero, suc, ◌+◌, ◌-◌, ◌≤◌, ◌<◌, suc-le-suc, max}
use native.Mathlib.Nat.{le_of_suc-le-suc, not-suc-le-zero}
use native.Mathlib.Omega.{arith}
use lib.ListN.{length, take, drop, get_or, length-append, length-take, length-drop}
use lib.Seq.{take-append_seam, drop-append_seam, get_or-drop, get_or-take}
use lib.Dec.{leb, ltb, eqb}
use borrow.Author.Tests.{le-leb, lt-leb, eq-eqb, ne_eqb, eqb-true, eqb-false, ltb-true, ltb-false}
use Rattle.prelude.specs.Buffer.{AllBelow}
use Rattle.prelude.proofs.Lists.{below_part, drop_next}
use denote.Ref.{Bor}
use Rattle.std.specs.List.{position_or_len}
use Rattle.std.proofs.lemmas.List.Sums.{fails_before_first, passes_at_first}
use Rattle.parts.specs.Parts.{part, part_at, seek_in, seek, holds}
use Rattle.parts.proofs.Seeking as seeking

-- Parts

module _ (s : List ℕ) (start size : ℕ) where
  pub part_fits : start + size ≤ length s → part s start size ≡ take size (drop start s)
  unfolding part
  part_fits h = ap (λ (b : Bool). cond b (take size (drop start s)) []) (le-leb (start + size) (length s) h)

  pub part_empty : length s < start + size → part s start size ≡ []
  unfolding part
  part_empty h = ap (λ (b : Bool). cond b (take size (drop start s)) []) (lt-leb (start + size) (length s) h)

  pub part_length : start + size ≤ length s → length (part s start size) ≡ size
  part_length h = ap length (part_fits h) ∙ length-take size (drop start s) ∙ omega (arith, length-drop start s)

  pub part_below : (limit : ℕ) → AllBelow limit s → AllBelow limit (part s start size)
  unfolding part
  part_below limit h = cases (leb (start + size) (length s))
    where
      cases : (b : Bool) → AllBelow limit (cond b (take size (drop start s)) [])
      cases true = below_part limit s start size h
      cases false = tt

-- Where a part points

module _ (s : Bor (List ℕ)) (start size : ℕ) where
  pub part_at_fits : start + size ≤ length s.now → part_at s start size ≡ (s.ref_ptr.0, s.ref_ptr.1 + start)
  unfolding part_at
  part_at_fits h =
      ap (λ (b : Bool). (s.ref_ptr.0, s.ref_ptr.1 + cond b start 0)) (le-leb (start + size) (length s.now) h)

  pub part_at_empty : length s.now < start + size → part_at s start size ≡ s.ref_ptr
  unfolding part_at
  part_at_empty h =
      let none : s.ref_ptr.1 + 0 ≡ s.ref_ptr.1 = omega arith in
      ap (λ (b : Bool). (s.ref_ptr.0, s.ref_ptr.1 + cond b start 0)) (lt-leb (start + size) (length s.now) h)
      ∙ ap (λ (n : ℕ). (s.ref_ptr.0, n)) none

-- what stands between a front and a rest is the part at its place
pub part_between : (p a b : List ℕ) → part (p ++ (a ++ b)) (length p) (length a) ≡ a
part_between p a b =
    part_fits (p ++ (a ++ b)) (length p) (length a) (omega (arith, length-append p (a ++ b), length-append a b))
    ∙ ap (take (length a)) (drop-append_seam p (a ++ b)) ∙ take-append_seam a b

-- Whether an octet stands in a text

module _ (c : ℕ) where
  pub absent_at : (s : List ℕ) → holds c s ≡ false → (k : ℕ) → k < length s → get_or s k 0 ≡ c → ⊥
  unfolding holds
  absent_at [] none k h e = not-suc-le-zero h
  absent_at (x ∷ s) none zero h e =
      true≢false (sym (ap (λ (t : Bool). t || holds c s) (eq-eqb x c e)) ∙ none)
  absent_at (x ∷ s) none (suc k) h e = absent_at s (right (eqb x c) none) k (le_of_suc-le-suc h) e
    where
      right : (t : Bool) → (t || holds c s) ≡ false → holds c s ≡ false
      right true none = absurd (true≢false none)
      right false none = none

  pub absent : (s : List ℕ) → ((k : ℕ) → k < length s → get_or s k 0 ≡ c → ⊥) → holds c s ≡ false
  unfolding holds
  absent [] differ = refl
  absent (x ∷ s) differ =
      ap (λ (t : Bool). t || holds c s) (ne_eqb x c (differ 0 (omega arith)))
      ∙ absent s (λ k h. differ (suc k) (suc-le-suc h))

-- Seeking

module _ (c : ℕ) (s : List ℕ) (at : ℕ) where
  -- from a position in the text on, it ends in the text; past the end it stays
  pub seek_bounds : (at ≤ seek c s at) × (seek c s at ≤ max at (length s))
  seek_bounds = seeking.bounds c s at

  module _ (e : ℕ) (found : e ≡ seek c s at) where
    -- how far c is
    size : position_or_len (λ x. eqb x c) (drop at s) ≡ e - at
    size = omega (arith, found, seeking.seek_is c s at)

    -- c does not stand before the place found ..
    pub seek_before : holds c (take (e - at) (drop at s)) ≡ false
    seek_before = absent c (take (e - at) (drop at s)) (λ k h is.
        let l : k < e - at = omega (arith, h, length-take (e - at) (drop at s)) in
        let none = fails_before_first (λ x. eqb x c) (drop at s) k 0 (omega (arith, l, size)) in
        eqb-false (get_or (drop at s) k 0) c none (sym (get_or-take (e - at) (drop at s) k 0 l) ∙ is))

    -- .. and stands there, unless that is the text's end
    pub seek_there : e < length s → get_or s e 0 ≡ c
    seek_there h =
        let n = position_or_len (λ x. eqb x c) (drop at s) in
        let place : at + n ≡ e = omega (arith, size, found, seek_bounds.0) in
        let here = passes_at_first (λ x. eqb x c) (drop at s) 0 (omega (arith, place, h, length-drop at s)) in
        ap (λ (k : ℕ). get_or s k 0) (sym place) ∙ sym (get_or-drop at s n 0) ∙ eqb-true (get_or (drop at s) n 0) c here

    pub seek_split : (holds c (take (e - at) (drop at s)) ≡ false) × (e < length s → get_or s e 0 ≡ c)
    seek_split = (seek_before, seek_there)

    -- what stands from there on
    pub seek_rest : e < length s → drop e s ≡ c ∷ drop (e + 1) s
    seek_rest h = drop_next s e (e + 1) refl h ∙ ap (λ (x : ℕ). x ∷ drop (e + 1) s) (seek_there h)

  -- and only that place is such
  pub seek_unique : (e : ℕ) → at ≤ e → e ≤ length s → holds c (take (e - at) (drop at s)) ≡ false
      → (e < length s → get_or s e 0 ≡ c) → seek c s at ≡ e
  seek_unique e h l none there = sym (seeking.skipped c s at e h l none) ∙ cases (ltb e (length s)) refl
    where
      cases : (b : Bool) → ltb e (length s) ≡ b → seek c s e ≡ e
      cases true b = let inside = ltb-true e (length s) b in seeking.seek_stop c s e inside (there inside)
      cases false b = seeking.seek_end c s e (ltb-false e (length s) b)

-- Octets a among which c does not stand: c behind them is found where they end ..
module _ (c : ℕ) (a : List ℕ) (none : holds c a ≡ false) where
  pub seek_after : (p b : List ℕ) → seek c (p ++ (a ++ (c ∷ b))) (length p) ≡ length p + length a
  unfolding seek seek_in
  seek_after p b =
      let e = length p + length a in
      ap (λ (t : List ℕ). seek_in c t (length p)) (drop-append_seam p (a ++ (c ∷ b)))
      ∙ seeking.passed c a (c ∷ b) (length p) none
      ∙ ap (λ (t : Bool). cond t e (seek_in c b (e + 1))) (eq-eqb c c refl)

  pub seek_first : (b : List ℕ) → seek c (a ++ (c ∷ b)) 0 ≡ length a
  seek_first b = seek_after [] b ∙ omega arith

  -- .. and so is the text's end
  pub seek_none : (p : List ℕ) → seek c (p ++ a) (length p) ≡ length p + length a
  unfolding seek seek_in
  seek_none p =
      ap (λ (t : List ℕ). seek_in c t (length p)) (drop-append_seam p a ∙ sym (append-nil a))
      ∙ seeking.passed c a [] (length p) none

-- Whether an octet stands in a text, by seeking and by parts

module _ (c : ℕ) where
  pub holds_seek : (s : List ℕ) → ltb (seek c s 0) (length s) ≡ holds c s
  unfolding seek
  holds_seek s =
      let size : length s ≡ 0 + length s = omega arith in
      ap (ltb (seek_in c s 0)) size ∙ seeking.within c s 0

  pub holds_append : (a b : List ℕ) → holds c (a ++ b) ≡ (holds c a || holds c b)
  unfolding holds
  holds_append [] b = refl
  holds_append (x ∷ a) b = cases (eqb x c) (holds_append a b)
    where
      cases : (t : Bool) → holds c (a ++ b) ≡ (holds c a || holds c b)
          → (t || holds c (a ++ b)) ≡ ((t || holds c a) || holds c b)
      cases true later = refl
      cases false later = later
