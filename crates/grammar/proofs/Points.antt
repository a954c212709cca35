-- The code points of well-formed UTF-8 spell it: encoding what it says gives it back, character by character.
use mathlib.Core.Path.{◌≡◌, refl, sym, ap, ap₂, ◌∙◌}
use mathlib.Core.List.{List, [], ◌∷◌, ◌++◌}
use mathlib.Core.Bool.{Bool, true, false, ◌&&◌, ◌||◌}
use Prim.Native.Nat.{ℕ, ◌+◌, ◌-◌, ◌*◌, ◌/◌, ◌%◌, ◌≤◌, ◌<◌}
use native.Mathlib.Omega.{arith}
use lib.Dec.{T, leb, leb→le, le→leb}
use Rattle.grammar.specs.Utf8.{Range, to, within, tail, Row, rows, fits, fits_one, Character, spelling, utf8}
use Rattle.grammar.specs.Utf8.{points_after, points, six_bits, encode, encodes}
use Rattle.grammar.proofs.Parse.{true→T}
use Rattle.grammar.proofs.Scan.{T→true, both_T}
use Rattle.grammar.proofs.Utf8Test.{utf8_sound, both}

pub leb_true : (m n : ℕ) → m ≤ n → leb m n ≡ true
leb_true m n h = T→true (leb m n) (le→leb m n h)

pub leb_false : (m n : ℕ) → n < m → leb m n ≡ false
leb_false m n h = go (leb m n) refl
  where
    go : (b : Bool) → leb m n ≡ b → b ≡ false
    go true e = absurd (omega (arith, leb→le m n (true→T (leb m n) e)))
    go false e = refl

-- Encoding, by the number of octets

pub encode_one : (n : ℕ) → n ≤ 127 → encode n ≡ n ∷ []
unfolding encode
encode_one n h = rw (leb_true n 127 h)

pub encode_two : (n : ℕ) → 128 ≤ n → n ≤ 2047 → encode n ≡ (0xC0 + n / 64) ∷ six_bits n ∷ []
unfolding encode
encode_two n l h = rw (leb_false n 127 (omega arith), leb_true n 2047 h)

pub encode_three : (n : ℕ) → 2048 ≤ n → n ≤ 65535 → encode n ≡ (0xE0 + n / 4096) ∷ six_bits (n / 64) ∷ six_bits n ∷ []
unfolding encode
encode_three n l h =
    rw (leb_false n 127 (omega arith), leb_false n 2047 (omega arith), leb_true n 65535 h)

pub encode_four : (n : ℕ) → 65536 ≤ n →
    encode n ≡ (0xF0 + n / 262144) ∷ six_bits (n / 4096) ∷ six_bits (n / 64) ∷ six_bits n ∷ []
unfolding encode
encode_four n l =
    rw (leb_false n 127 (omega arith), leb_false n 2047 (omega arith), leb_false n 65535 (omega arith))

-- A character that says a code point, and that the code point spells.
pub record Decoded (w : List ℕ) (point : ℕ) : Type 0 where
  pub says : (s : List ℕ) → points_after 0 0 (w ++ s) ≡ point ∷ points_after 0 0 s
  pub spells : encode point ≡ w

pub decode_one : (c : ℕ) → c ≤ 127 → Decoded (c ∷ []) c
unfolding points_after
decode_one c h = record {
  says = λ s. rw (leb_true c 127 h, points_after);
  spells = encode_one c h;
}

pub decode_two : (c d : ℕ) → 194 ≤ c → c ≤ 223 → 128 ≤ d → d ≤ 191 →
    Decoded (c ∷ d ∷ []) ((c - 192) * 64 + (d - 128))
unfolding points_after
decode_two c d l h l₂ h₂ =
    let n = (c - 192) * 64 + (d - 128) in
    let p : 0xC0 + n / 64 ≡ c = omega arith in
    let q : six_bits n ≡ d = omega arith in
    record {
      says = λ s. rw (leb_false c 127 (omega arith), leb_true c 223 h, points_after);
      spells = encode_two n (omega arith) (omega arith) ∙ (λ i. p i ∷ q i ∷ []);
    }

-- The first two octets say at least 32, that is, 0x800 with the third one.
pub decode_three : (c d e : ℕ) → 224 ≤ c → c ≤ 239 → 128 ≤ d → d ≤ 191 → 128 ≤ e → e ≤ 191 →
    32 ≤ (c - 224) * 64 + (d - 128) → Decoded (c ∷ d ∷ e ∷ []) (((c - 224) * 64 + (d - 128)) * 64 + (e - 128))
unfolding points_after
decode_three c d e l h l₂ h₂ l₃ h₃ f =
    let m = (c - 224) * 64 + (d - 128) in
    let n = m * 64 + (e - 128) in
    let b : m ≤ 1023 = omega arith in
    let m_is : n / 64 ≡ m = omega arith in
    let p : 0xE0 + n / 4096 ≡ c = omega arith in
    let q : six_bits (n / 64) ≡ d = omega arith in
    let r : six_bits n ≡ e = omega arith in
    record {
      says = λ s.
          rw (leb_false c 127 (omega arith), leb_false c 223 (omega arith), leb_true c 239 h, points_after);
      spells = encode_three n (omega arith) (omega arith) ∙ (λ i. p i ∷ q i ∷ r i ∷ []);
    }

-- Four groups of bits, and each of them out again.
groups : (a b x y : ℕ) → b < 64 → x < 64 → y < 64 →
    let n = ((a * 64 + b) * 64 + x) * 64 + y in
    (n / 262144 ≡ a) × (n / 4096 ≡ a * 64 + b) × (n / 64 ≡ (a * 64 + b) * 64 + x) × (n % 64 ≡ y)
groups a b x y hb hx hy = (omega arith, omega arith, omega arith, omega arith)

-- The first two octets say at least 16, that is, 0x10000 with the others.
pub decode_four : (c d e f : ℕ) → 240 ≤ c → c ≤ 244 → 128 ≤ d → d ≤ 191 → 128 ≤ e → e ≤ 191 → 128 ≤ f → f ≤ 191 →
    16 ≤ (c - 240) * 64 + (d - 128) →
    Decoded (c ∷ d ∷ e ∷ f ∷ []) ((((c - 240) * 64 + (d - 128)) * 64 + (e - 128)) * 64 + (f - 128))
unfolding points_after
decode_four c d e f l h l₂ h₂ l₃ h₃ l₄ h₄ g =
    let m = (c - 240) * 64 + (d - 128) in
    let k = m * 64 + (e - 128) in
    let n = k * 64 + (f - 128) in
    let x = groups (c - 240) (d - 128) (e - 128) (f - 128) (omega arith) (omega arith) (omega arith) in
    let p : 0xF0 + n / 262144 ≡ c = ap (λ z. 0xF0 + z) x.0 ∙ omega arith in
    let q : six_bits (n / 4096) ≡ d = ap six_bits x.1 ∙ omega arith in
    let r : six_bits (n / 64) ≡ e = ap six_bits x.2 ∙ omega arith in
    let t : six_bits n ≡ f = ap (λ z. 0x80 + z) x.3 ∙ omega arith in
    record {
      says = λ s.
          rw (leb_false c 127 (omega arith), leb_false c 223 (omega arith), leb_false c 239 (omega arith), points_after);
      spells = encode_four n (omega arith) ∙ (λ i. p i ∷ q i ∷ r i ∷ t i ∷ []);
    }

-- By the rows

abbrev Said : List ℕ → Type 0
Said w = (p : ℕ) × Decoded w p

-- An octet within each range.
pub data Fitting : List Range → List ℕ → Type 0 where
  none : Fitting [] []
  one : {l h c : ℕ} {rs : List Range} {w : List ℕ} → l ≤ c → c ≤ h → Fitting rs w → Fitting (to l h ∷ rs) (c ∷ w)

fitting : (rs : List Range) (w : List ℕ) → T (fits rs w) → Fitting rs w
unfolding fits
fitting [] [] t = none
fitting [] (c ∷ w) t = absurd t
fitting (r ∷ rs) [] t = absurd t
fitting (r ∷ rs) (c ∷ w) t =
    let u = both_T (within r c) (fits rs w) t in
    let v = both_T (leb r.low c) (leb c r.high) u.0 in
    one (leb→le r.low c v.0) (leb→le c r.high v.1) (fitting rs w u.1)

pub fitting_fits : {rs : List Range} {w : List ℕ} → Fitting rs w → T (fits rs w)
unfolding fits
fitting_fits none = tt
fitting_fits (one {l} {h} {c} {rs} {w} a b x) =
    both (leb l c && leb c h) (fits rs w) (both (leb l c) (leb c h) (le→leb l c a) (le→leb c h b)) (fitting_fits x)

row_one : (w : List ℕ) → Fitting (to 0x00 0x7F ∷ []) w → Said w
row_one w (one {c = c} l h none) = (c, decode_one c h)

row_two : (w : List ℕ) → Fitting (to 0xC2 0xDF ∷ tail ∷ []) w → Said w
row_two w (one {c = c} l h (one {c = d} l₂ h₂ none)) = (_, decode_two c d l h l₂ h₂)

row_three : (c₀ c₁ d₀ d₁ : ℕ) (w : List ℕ) → 224 ≤ c₀ → c₁ ≤ 239 → 128 ≤ d₀ → d₁ ≤ 191 →
    32 ≤ (c₀ - 224) * 64 + (d₀ - 128) → Fitting (to c₀ c₁ ∷ to d₀ d₁ ∷ tail ∷ []) w → Said w
row_three c₀ c₁ d₀ d₁ w a b x y f (one {c = c} l h (one {c = d} l₂ h₂ (one {c = e} l₃ h₃ none))) =
    (_, decode_three c d e (omega arith) (omega arith) (omega arith) (omega arith) l₃ h₃ (omega arith))

row_four : (c₀ c₁ d₀ d₁ : ℕ) (w : List ℕ) → 240 ≤ c₀ → c₁ ≤ 244 → 128 ≤ d₀ → d₁ ≤ 191 →
    16 ≤ (c₀ - 240) * 64 + (d₀ - 128) → Fitting (to c₀ c₁ ∷ to d₀ d₁ ∷ tail ∷ tail ∷ []) w → Said w
row_four c₀ c₁ d₀ d₁ w a b x y g (one {c = c} l h (one {c = d} l₂ h₂ (one {c = e} l₃ h₃ (one {c = f} l₄ h₄ none)))) =
    (_, decode_four c d e f (omega arith) (omega arith) (omega arith) (omega arith) l₃ h₃ l₄ h₄ (omega arith))

-- What holds of each row of a table.
abbrev Each : (Row → Type 0) → List Row → Type 0
Each P [] = Unit {0}
Each P (r ∷ rs) = P r × Each P rs

by_row : (w : List ℕ) (table : List Row) → Each (λ r. Fitting (r.first ∷ r.others) w → Said w) table →
    T (fits_one table w) → Said w
unfolding fits_one
by_row w [] f t = absurd t
by_row w (r ∷ table) f t = go (fits (r.first ∷ r.others) w) refl (by_row w table f.1) t
  where
    go : (b : Bool) → fits (r.first ∷ r.others) w ≡ b → (T (fits_one table w) → Said w) →
        T (b || fits_one table w) → Said w
    go true e ih x = f.0 (fitting (r.first ∷ r.others) w (true→T (fits (r.first ∷ r.others) w) e))
    go false e ih x = ih x

decoded : (w : List ℕ) → T (fits_one rows w) → Said w
decoded w =
    by_row w rows (
      row_one w,
      (
        row_two w,
        (
          row_three 0xE0 0xE0 0xA0 0xBF w (omega arith) (omega arith) (omega arith) (omega arith) (omega arith),
          (
            row_three 0xE1 0xEC 0x80 0xBF w (omega arith) (omega arith) (omega arith) (omega arith) (omega arith),
            (
              row_three 0xED 0xED 0x80 0x9F w (omega arith) (omega arith) (omega arith) (omega arith) (omega arith),
              (
                row_three 0xEE 0xEF 0x80 0xBF w (omega arith) (omega arith) (omega arith) (omega arith) (omega arith),
                (
                  row_four 0xF0 0xF0 0x90 0xBF w (omega arith) (omega arith) (omega arith) (omega arith) (omega arith),
                  (
                    row_four 0xF1 0xF3 0x80 0xBF w (omega arith) (omega arith) (omega arith) (omega arith)
                        (omega arith),
                    (
                      row_four 0xF4 0xF4 0x80 0x8F w (omega arith) (omega arith) (omega arith) (omega arith)
                          (omega arith),
                      tt,
                    ),
                  ),
                ),
              ),
            ),
          ),
        ),
      ),
    )

-- Encoding the code points of well-formed octets gives the octets.

encodes_spelling : (cs : List Character) → encodes (points_after 0 0 (spelling cs)) ≡ spelling cs
unfolding spelling points_after encodes
encodes_spelling [] = refl
encodes_spelling (c ∷ cs) =
    let d = (decoded c.octets c.well_formed).1 in
    ap encodes (d.says (spelling cs)) ∙ ap₂ (λ x y. x ++ y) d.spells (encodes_spelling cs)

pub encodes_points : (w : List ℕ) → T (utf8 w) → encodes (points w) ≡ w
unfolding points
encodes_points w t =
    let u = utf8_sound w t in
    ap (λ z. encodes (points_after 0 0 z)) (sym u.text) ∙ encodes_spelling u.characters ∙ u.text
