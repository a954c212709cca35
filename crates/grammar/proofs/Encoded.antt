-- The octets of a code point are one well-formed character, unless it is half of a surrogate pair or above 10FFFF.
use mathlib.Core.Path.{◌≡◌, refl, sym, ap, subst, ◌∙◌}
use mathlib.Core.List.{List, [], ◌∷◌, ◌++◌}
use mathlib.Core.Bool.{Bool, true, false, not, ◌||◌}
use Prim.Native.Nat.{ℕ, ◌+◌, ◌-◌, ◌*◌, ◌/◌, ◌≤◌, ◌<◌}
use native.Mathlib.Omega.{arith}
use lib.Dec.{T, leb, leb→le, nleb→lt}
use Rattle.grammar.specs.Utf8.{Range, to, tail, Row, rows, fits, fits_one, six_bits, encode, points_after, points}
use Rattle.grammar.proofs.Parse.{true→T}
use Rattle.grammar.proofs.Points.{decode_one, decode_two, decode_three, decode_four, Fitting, none, one}
use Rattle.grammar.proofs.Points.{fitting_fits, encode_one, encode_two, encode_three, encode_four}

-- A row of a table, by its place in it.
data Among (r : Row) : List Row → Type 0 where
  here : {rs : List Row} → Among r (r ∷ rs)
  there : {q : Row} {rs : List Row} → Among r rs → Among r (q ∷ rs)

or_right : (a b : Bool) → T b → T (a || b)
or_right true b t = tt
or_right false b t = t

or_left : (a b : Bool) → T a → T (a || b)
or_left true b t = tt
or_left false b t = absurd t

row_fits : {r : Row} {table : List Row} {w : List ℕ} → Among r table → Fitting (r.first ∷ r.others) w →
    T (fits_one table w)
unfolding fits_one
row_fits {r} {w = w} (here {rs}) x = or_left (fits (r.first ∷ r.others) w) (fits_one rs w) (fitting_fits x)
row_fits {w = w} (there {q} {rs} i) x = or_right (fits (q.first ∷ q.others) w) (fits_one rs w) (row_fits i x)

pub split : {C : Type 0} (m n : ℕ) → (m ≤ n → C) → (n < m → C) → C
split {C} m n f g = go (leb m n) refl
  where
    go : (b : Bool) → leb m n ≡ b → C
    go true e = f (leb→le m n (true→T (leb m n) e))
    go false e = g (nleb→lt m n (subst (λ z. T (not z)) (sym e) tt))

within_fit : (l h c : ℕ) {rs : List Range} {w : List ℕ} → l ≤ c → c ≤ h → Fitting rs w → Fitting (to l h ∷ rs) (c ∷ w)
within_fit l h c a b x = one a b x

last_fit : (n : ℕ) → Fitting (tail ∷ []) (six_bits n ∷ [])
last_fit n = within_fit 0x80 0xBF (six_bits n) (omega arith) (omega arith) none

-- Which row the octets of a code point fit.

three_fit : (n : ℕ) → 2048 ≤ n → n ≤ 65535 → (0xD7FF < n → 0xE000 ≤ n) →
    T (fits_one rows ((0xE0 + n / 4096) ∷ six_bits (n / 64) ∷ six_bits n ∷ []))
three_fit n l h f =
    let c = 0xE0 + n / 4096 in
    let d = six_bits (n / 64) in
    split n 0xFFF
    (λ x. row_fits (there (there here))
    (within_fit 0xE0 0xE0 c (omega arith) (omega arith)
    (within_fit 0xA0 0xBF d (omega arith) (omega arith) (last_fit n))))
    (λ x. split n 0xCFFF
    (λ y. row_fits (there (there (there here)))
    (within_fit 0xE1 0xEC c (omega arith) (omega arith)
    (within_fit 0x80 0xBF d (omega arith) (omega arith) (last_fit n))))
    (λ y. split n 0xD7FF
    (λ z. row_fits (there (there (there (there here))))
    (within_fit 0xED 0xED c (omega arith) (omega arith)
    (within_fit 0x80 0x9F d (omega arith) (omega arith) (last_fit n))))
    (λ z. let g = f z in
    row_fits (there (there (there (there (there here)))))
    (within_fit 0xEE 0xEF c (omega arith) (omega arith)
    (within_fit 0x80 0xBF d (omega arith) (omega arith) (last_fit n))))))

four_fit : (n : ℕ) → 0x10000 ≤ n → n ≤ 0x10FFFF →
    T (fits_one rows ((0xF0 + n / 262144) ∷ six_bits (n / 4096) ∷ six_bits (n / 64) ∷ six_bits n ∷ []))
four_fit n l h =
    let c = 0xF0 + n / 262144 in
    let d = six_bits (n / 4096) in
    split n 0x3FFFF
    (λ x. row_fits (there (there (there (there (there (there here))))))
    (within_fit 0xF0 0xF0 c (omega arith) (omega arith)
    (within_fit 0x90 0xBF d (omega arith) (omega arith) two_more)))
    (λ x. split n 0xFFFFF
    (λ y. row_fits (there (there (there (there (there (there (there here)))))))
    (within_fit 0xF1 0xF3 c (omega arith) (omega arith)
    (within_fit 0x80 0xBF d (omega arith) (omega arith) two_more)))
    (λ y. row_fits (there (there (there (there (there (there (there (there here))))))))
    (within_fit 0xF4 0xF4 c (omega arith) (omega arith)
    (within_fit 0x80 0x8F d (omega arith) (omega arith) two_more))))
  where
    two_more : Fitting (tail ∷ tail ∷ []) (six_bits (n / 64) ∷ six_bits n ∷ [])
    two_more = within_fit 0x80 0xBF (six_bits (n / 64)) (omega arith) (omega arith) (last_fit n)

-- A code point that is not half of a pair is one well-formed character.
pub encode_fits : (n : ℕ) → n ≤ 0x10FFFF → (0xD7FF < n → 0xE000 ≤ n) → T (fits_one rows (encode n))
encode_fits n h f =
    split n 0x7F
    (λ x. rw (encode_one n x) (row_fits here (within_fit 0x00 0x7F n (omega arith) x none)))
    (λ x. split n 0x7FF
    (λ y. rw (encode_two n x y)
    (row_fits (there here) (within_fit 0xC2 0xDF (0xC0 + n / 64) (omega arith) (omega arith) (last_fit n))))
    (λ y. split n 0xFFFF
    (λ z. rw (encode_three n y z) (three_fit n y z f))
    (λ z. rw (encode_four n z) (four_fit n z h))))

-- And back: the octets of a code point say that code point.

say_path : {a b : ℕ} (w s : List ℕ) → points_after 0 0 (w ++ s) ≡ a ∷ points_after 0 0 s → a ≡ b →
    points_after 0 0 (w ++ s) ≡ b ∷ points_after 0 0 s
say_path w s p q = p ∙ ap (λ z. z ∷ points_after 0 0 s) q

four_path : (n : ℕ) →
    (((((0xF0 + n / 262144) - 240) * 64 + (six_bits (n / 4096) - 128)) * 64 + (six_bits (n / 64) - 128)) * 64)
    + (six_bits n - 128) ≡ n
four_path n =
    let a : ((0xF0 + n / 262144) - 240) * 64 + (six_bits (n / 4096) - 128) ≡ n / 4096 = omega arith in
    let b : n / 4096 * 64 + (six_bits (n / 64) - 128) ≡ n / 64 = omega arith in
    let c : n / 64 * 64 + (six_bits n - 128) ≡ n = omega arith in
    ap (λ z. (z * 64 + (six_bits (n / 64) - 128)) * 64 + (six_bits n - 128)) a ∙ ap (λ z. z * 64 + (six_bits n - 128)) b
    ∙ c

pub points_encode : (n : ℕ) (s : List ℕ) → n ≤ 0x10FFFF → points (encode n ++ s) ≡ n ∷ points s
unfolding points
points_encode n s h =
    split n 0x7F
    (λ x. rw (encode_one n x) ((decode_one n x).says s))
    (λ x. split n 0x7FF
    (λ y. rw (encode_two n x y)
    (say_path ((0xC0 + n / 64) ∷ six_bits n ∷ []) s
    ((decode_two (0xC0 + n / 64) (six_bits n) (omega arith) (omega arith) (omega arith) (omega arith)).says s)
    (omega arith)))
    (λ y. split n 0xFFFF
    (λ z. rw (encode_three n y z)
    (say_path ((0xE0 + n / 4096) ∷ six_bits (n / 64) ∷ six_bits n ∷ []) s
    ((decode_three (0xE0 + n / 4096) (six_bits (n / 64)) (six_bits n) (omega arith) (omega arith) (omega arith)
    (omega arith)
    (omega arith) (omega arith) (omega arith)).says s)
    (omega arith)))
    (λ z. rw (encode_four n z)
    (say_path ((0xF0 + n / 262144) ∷ six_bits (n / 4096) ∷ six_bits (n / 64) ∷ six_bits n ∷ []) s
    ((decode_four (0xF0 + n / 262144) (six_bits (n / 4096)) (six_bits (n / 64)) (six_bits n) (omega arith) (omega arith)
    (omega arith) (omega arith) (omega arith) (omega arith) (omega arith) (omega arith) (omega arith)).says s)
    (four_path n)))))
