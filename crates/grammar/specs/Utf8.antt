-- UTF-8 by RFC 3629: which lists of octets are well-formed, and the code points that they stand for.
use Rattle.std.specs.Prelude.{◌≡◌, List, [], ◌∷◌, ◌++◌, Bool, true, false, ◌&&◌, ◌||◌, cond, ℕ, zero, suc, ◌+◌, ◌-◌, ◌*◌, ◌/◌, ◌%◌, T, leb}
use Rattle.std.proofs.Math.Option.{Option, none, some}

-- Well-formed octets (section 4)

-- The octets from low to high, both included.
pub record Range : Type 0 where
  pub low : ℕ
  pub high : ℕ

-- From l to h.
abbrev pub to : ℕ → ℕ → Range
to l h = record { low = l; high = h }

-- Whether an octet is in a range.
abbrev pub within : Range → ℕ → Bool
within r c = leb r.low c && leb c r.high

-- UTF8-tail
abbrev pub tail : Range
tail = to 0x80 0xBF

-- A row of the grammar: the range of the first octet, and of each octet after it.
pub record Row : Type 0 where
  pub first : Range
  pub others : List Range

-- A row, written.
abbrev pub row : Range → List Range → Row
row r rs = record { first = r; others = rs }

-- UTF8-char: UTF8-1, UTF8-2, the four rows of UTF8-3, the three rows of UTF8-4.
abbrev pub rows : List Row
rows =
    row (to 0x00 0x7F) []
    ∷ row (to 0xC2 0xDF) (tail ∷ [])
    ∷ row (to 0xE0 0xE0) (to 0xA0 0xBF ∷ tail ∷ [])
    ∷ row (to 0xE1 0xEC) (tail ∷ tail ∷ [])
    ∷ row (to 0xED 0xED) (to 0x80 0x9F ∷ tail ∷ [])
    ∷ row (to 0xEE 0xEF) (tail ∷ tail ∷ [])
    ∷ row (to 0xF0 0xF0) (to 0x90 0xBF ∷ tail ∷ tail ∷ [])
    ∷ row (to 0xF1 0xF3) (tail ∷ tail ∷ tail ∷ [])
    ∷ row (to 0xF4 0xF4) (to 0x80 0x8F ∷ tail ∷ tail ∷ [])
    ∷ []

-- Whether there is an octet for each range, within it, and none besides.
unfoldable pub fits : List Range → List ℕ → Bool
fits [] [] = true
fits [] (c ∷ w) = false
fits (r ∷ rs) [] = false
fits (r ∷ rs) (c ∷ w) = within r c && fits rs w

-- Whether octets fit one of the rows.
unfoldable pub fits_one : List Row → List ℕ → Bool
fits_one [] w = false
fits_one (r ∷ rs) w = fits (r.first ∷ r.others) w || fits_one rs w

-- One well-formed character.
pub record Character : Type 0 where
  pub octets : List ℕ
  pub well_formed : T (fits_one rows octets)

-- The octets of characters, one after the other.
unfoldable pub spelling : List Character → List ℕ
spelling [] = []
spelling (c ∷ cs) = c.octets ++ spelling cs

-- UTF8-octets: a list of octets is well-formed if it is the octets of some characters, one after the other.
pub record Utf8 (s : List ℕ) : Type 0 where
  pub characters : List Character
  pub text : spelling characters ≡ s

-- A test for it

-- The ranges that follow a first octet, by the first row that has it.
unfoldable pub follow : List Row → ℕ → Option (List Range)
follow [] c = none
follow (r ∷ rs) c = cond (within r.first c) (some r.others) (follow rs c)

-- Whether octets begin with some that fit the ranges, and are well-formed from there on.
unfoldable pub utf8_after : List Range → List ℕ → Bool
utf8_after [] [] = true
utf8_after (r ∷ rs) [] = false
utf8_after [] (c ∷ s) = elim (follow rows c) [ none ↦ false | some rs ↦ utf8_after rs s ]
utf8_after (r ∷ rs) (c ∷ s) = within r c && utf8_after rs s

-- Whether octets are well-formed.
unfoldable pub utf8 : List ℕ → Bool
utf8 s = utf8_after [] s

-- Code points (section 3)

-- How many octets follow the first one, c, of a character.
abbrev pub tails : ℕ → ℕ
tails c = cond (leb c 0x7F) 0 (cond (leb c 0xDF) 1 (cond (leb c 0xEF) 2 3))

-- The bits that mark a first octet with n more to come: 0xxxxxxx, 110xxxxx, 1110xxxx, 11110xxx.
abbrev pub mark : ℕ → ℕ
mark zero = 0
mark (suc zero) = 0xC0
mark (suc (suc zero)) = 0xE0
mark (suc (suc (suc n))) = 0xF0

-- The code points from here on. Of the character at hand n octets are to come, and x is what its octets so far
-- say: each further octet, 10xxxxxx, adds six bits.
unfoldable pub points_after : ℕ → ℕ → List ℕ → List ℕ
points_after n x [] = []
points_after zero x (c ∷ s) =
    elim (tails c) [
      | zero ↦ c ∷ points_after 0 0 s
      | suc n ↦ points_after (suc n) (c - mark (suc n)) s
    ]
points_after (suc zero) x (c ∷ s) = (x * 64 + (c - 0x80)) ∷ points_after 0 0 s
points_after (suc (suc n)) x (c ∷ s) = points_after (suc n) (x * 64 + (c - 0x80)) s

-- The code points of well-formed octets.
unfoldable pub points : List ℕ → List ℕ
points s = points_after 0 0 s

-- An octet that holds the lowest six bits of n: 10xxxxxx.
abbrev pub six_bits : ℕ → ℕ
six_bits n = 0x80 + n % 64

-- The octets of a code point.
unfoldable pub encode : ℕ → List ℕ
encode n =
    cond (leb n 0x7F) (n ∷ [])
    (cond (leb n 0x7FF) ((0xC0 + n / 64) ∷ six_bits n ∷ [])
    (cond (leb n 0xFFFF) ((0xE0 + n / 4096) ∷ six_bits (n / 64) ∷ six_bits n ∷ [])
    ((0xF0 + n / 262144) ∷ six_bits (n / 4096) ∷ six_bits (n / 64) ∷ six_bits n ∷ [])))

-- The octets of code points.
unfoldable pub encodes : List ℕ → List ℕ
encodes [] = []
encodes (n ∷ ns) = encode n ++ encodes ns
