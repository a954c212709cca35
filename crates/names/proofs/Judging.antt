-- Judging a list, turn by turn: what is left to be judged is as sound as the whole, and each test that the code makes
-- settles it or leaves the next one to.
use mathlib.Core.Path.{◌≡◌, refl, ap, ap₂, sym, ◌∙◌}
use mathlib.Core.List.{List, [], ◌∷◌}
use mathlib.Core.Bool.{Bool, true, false, ◌&&◌}
use Prim.Native.Nat.{ℕ, ◌+◌, ◌≤◌, ◌<◌}
use native.Mathlib.Omega.{arith}
use lib.ListN.{length, take, drop, get_or}
use lib.Dec.{leb, eqb}
use borrow.Author.Tests.{le-leb, lt-leb}
use Rattle.prelude.proofs.Lists.{drop_next}
use Rattle.names.specs.Names.{total, filled, limited, sound}

-- Before the loop

pub sound_empty : (list : List ℕ) → length list ≡ 0 → false ≡ sound list
unfolding sound
sound_empty [] h = refl
sound_empty (n ∷ rest) h = absurd (omega arith)

false_behind : (a b : Bool) → a && (b && false) ≡ false
false_behind true true = refl
false_behind true false = refl
false_behind false b = refl

module _ (n : ℕ) (rest : List ℕ) where
  pub sound_many : 16 < n → false ≡ sound (n ∷ rest)
  unfolding sound
  sound_many h = sym (ap (λ (b : Bool). b && (limited (take n rest) && filled (n ∷ rest))) (lt-leb n 16 h))

  pub sound_short : length rest < n → false ≡ sound (n ∷ rest)
  unfolding sound filled
  sound_short h =
      let last = eqb (total (take n rest)) (length (drop n rest)) in
      sym (ap (λ (b : Bool). leb n 16 && (limited (take n rest) && (b && last))) (lt-leb n (length rest) h)
      ∙ false_behind (leb n 16) (limited (take n rest)))

-- In the loop

-- What is left to be judged: the lengths to come, and that names of these and of the lengths so far fill the room.
abbrev pub sound_from : List ℕ → ℕ → ℕ → Bool
sound_from ks size room = limited ks && eqb (size + total ks) room

pub sound_start : (n : ℕ) (rest : List ℕ) → n ≤ 16 → n ≤ length rest →
    sound_from (take n rest) 0 (length (drop n rest)) ≡ sound (n ∷ rest)
unfolding sound filled
sound_start n rest few there =
    let none : 0 + total (take n rest) ≡ total (take n rest) = omega arith in
    ap (λ (k : ℕ). limited (take n rest) && eqb k (length (drop n rest))) none
    ∙ sym (ap₂ (λ (a b : Bool). a && (limited (take n rest) && (b && eqb (total (take n rest)) (length (drop n rest)))))
    (le-leb n 16 few) (le-leb n (length rest) there))

module _ (ks : List ℕ) (size room i : ℕ) (h : i < length ks) where
  abbrev later : List ℕ
  later = drop (i + 1) ks

  -- The next length, and those after it.
  sound_next :
      sound_from (drop i ks) size room
      ≡ (leb 1 (get_or ks i 0) && (leb (get_or ks i 0) 64 && limited later)) && eqb (size + (get_or ks i 0 + total later)) room
  unfolding limited total
  sound_next = ap (λ (l : List ℕ). sound_from l size room) (drop_next ks i (i + 1) refl h)

  pub sound_low : get_or ks i 0 < 1 → false ≡ sound_from (drop i ks) size room
  sound_low l = sym (sound_next ∙ rw (lt-leb 1 (get_or ks i 0) l))

  pub sound_high : 1 ≤ get_or ks i 0 → 64 < get_or ks i 0 → false ≡ sound_from (drop i ks) size room
  sound_high l u = sym (sound_next ∙ rw (le-leb 1 (get_or ks i 0) l, lt-leb (get_or ks i 0) 64 u))

  pub sound_turn : 1 ≤ get_or ks i 0 → get_or ks i 0 ≤ 64 →
      sound_from later (size + get_or ks i 0) room ≡ sound_from (drop i ks) size room
  sound_turn l u =
      let sum : size + get_or ks i 0 + total later ≡ size + (get_or ks i 0 + total later) = omega arith in
      sym (sound_next ∙ rw (le-leb 1 (get_or ks i 0) l, le-leb (get_or ks i 0) 64 u, ← sum))

-- After it

pub sound_end : (ks : List ℕ) (size room : ℕ) → length ks ≡ 0 → eqb size room ≡ sound_from ks size room
unfolding limited total
sound_end [] size room h = let same : size ≡ size + 0 = omega arith in ap (λ (k : ℕ). eqb k room) same
sound_end (k ∷ ks) size room h = absurd (omega arith)
