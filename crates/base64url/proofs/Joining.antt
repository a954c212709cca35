-- Decoding by words: what `join` makes of eight values, and that a block's values become their octets.
use mathlib.Core.Path.{◌≡◌, refl, ap, ap₂, sym, ◌∙◌}
use mathlib.Core.List.{List, [], ◌∷◌, ◌++◌, map}
use Prim.Native.Nat.{ℕ, ◌+◌, ◌*◌, ◌/◌, ◌%◌, ◌≤◌, ◌<◌}
use native.Mathlib.Omega.{arith}
use lib.Dec.{leb, leb→le}
use lib.Bits.{bit_and, and_le_r}
use lib.ListN.{length, drop, get_or, length-map}
use Rattle.std.specs.Int.{w64, from_le_bytes, to_be_bytes}
use Rattle.prelude.specs.Buffer.{AllBelow}
use Rattle.prelude.proofs.Lists.{drop_next}
use Rattle.prelude.proofs.Numbers.{below}
use Rattle.base64url.specs.Base64url.{six_bits, octets, decoded}
use Rattle.base64url.proofs.Alphabet.{value_near}
use Rattle.base64url.proofs.Chunks.{TakesBy}
use Rattle.base64url.specs.Inner.Step.{near}
use Rattle.base64url.specs.Inner.Words.{digits, pair, joined, words_of, six_octets, spill_of, octets_of}
use Rattle.base64url.proofs.Lanes.{sixes, twelves}

-- What `join` makes: y of x, and the word of y

abbrev pub y_of : ℕ → ℕ
y_of x = bit_and x 0x003F003F003F003F * 64 + bit_and (x / 256) 0x003F003F003F003F

abbrev pub z_of : ℕ → ℕ
z_of y = bit_and y 0x00000FFF00000FFF * 4096 + bit_and (y / 65536) 0x00000FFF00000FFF

pub y_of_below : (x : ℕ) → y_of x ≤ 1152657617789587455
y_of_below x = omega (arith, and_le_r x 0x003F003F003F003F, and_le_r (x / 256) 0x003F003F003F003F)

pub z_of_below : (y : ℕ) → z_of y < 72057594037927936
z_of_below y = omega (arith, and_le_r y 0x00000FFF00000FFF, and_le_r (y / 65536) 0x00000FFF00000FFF)

pub halves_fit : (t u : ℕ) → t < 16777216 → u < 16777216 → t * 1099511627776 + u * 65536 < 18446744073709551616
halves_fit t u ht hu = omega arith

lanes_y : (a b c d : ℕ) → a < 65536 → b < 65536 → c < 65536
    → y_of (((d * 65536 + c) * 65536 + b) * 65536 + a) ≡ ((pair d * 65536 + pair c) * 65536 + pair b) * 65536 + pair a
lanes_y a b c d ha hb hc =
    ap₂ (λ (s t : ℕ). s * 64 + t) (sixes a b c d ha hb hc)
    (ap (λ (t : ℕ). bit_and t 0x003F003F003F003F) next
    ∙ sixes (past a b) (past b c) (past c d) (d / 256) (fits a b ha) (fits b c hb) (fits c d hc)
    ∙ simp (keeps a b, keeps b c, keeps c d))
    ∙ sum (a % 64) (b % 64) (c % 64) (d % 64) (a / 256 % 64) (b / 256 % 64) (c / 256 % 64) (d / 256 % 64)
  where
    past : ℕ → ℕ → ℕ
    past r l = r / 256 + l % 256 * 256

    fits : (r l : ℕ) → r < 65536 → past r l < 65536
    fits r l h = omega arith

    keeps : (r l : ℕ) → past r l % 64 ≡ r / 256 % 64
    keeps r l = omega arith

    shift : (R r l : ℕ) → R % 256 ≡ l % 256 → (R * 65536 + r) / 256 ≡ R / 256 * 65536 + past r l
    shift R r l e = omega (arith, e)

    next : (((d * 65536 + c) * 65536 + b) * 65536 + a) / 256
        ≡ ((d / 256 * 65536 + past c d) * 65536 + past b c) * 65536 + past a b
    next =
        shift ((d * 65536 + c) * 65536 + b) a b (omega arith)
        ∙ ap (λ (t : ℕ). t * 65536 + past a b) (shift (d * 65536 + c) b c (omega arith)
        ∙ ap (λ (t : ℕ). t * 65536 + past b c) (shift d c d refl))

    sum : (a b c d e f g h : ℕ)
        → (((d * 65536 + c) * 65536 + b) * 65536 + a) * 64 + (((h * 65536 + g) * 65536 + f) * 65536 + e)
        ≡ (((d * 64 + h) * 65536 + (c * 64 + g)) * 65536 + (b * 64 + f)) * 65536 + (a * 64 + e)
    sum a b c d e f g h = omega arith

lanes_z : (p q r s : ℕ) → p < 4096 → q < 4096 → r < 4096 → s < 4096
    → z_of (((s * 65536 + r) * 65536 + q) * 65536 + p) ≡ (r * 4096 + s) * 4294967296 + (p * 4096 + q)
lanes_z p q r s hp hq hr hs =
    let y : ℕ = ((s * 65536 + r) * 65536 + q) * 65536 + p in
    let ey : y ≡ (s * 65536 + r) * 4294967296 + (q * 65536 + p) = omega arith in
    let en : y / 65536 ≡ s * 4294967296 + (r * 65536 + q) = omega arith in
    let low = ap (λ (t : ℕ). bit_and t 0x00000FFF00000FFF) ey ∙ twelves (q * 65536 + p) (s * 65536 + r) (omega arith) in
    let high = ap (λ (t : ℕ). bit_and t 0x00000FFF00000FFF) en ∙ twelves (r * 65536 + q) s (omega arith) in
    let e1 : (q * 65536 + p) % 4096 ≡ p = omega arith in
    let e2 : (s * 65536 + r) % 4096 ≡ r = omega arith in
    let e3 : (r * 65536 + q) % 4096 ≡ q = omega arith in
    let e4 : s % 4096 ≡ s = omega arith in
    omega (arith, low, high, e1, e2, e3, e4)

pub pair_below : (l : ℕ) → pair l < 4096
pair_below l = omega arith

pub joins : (x : ℕ) → x < 18446744073709551616
    → z_of (y_of x) % 16777216 * 1099511627776 + z_of (y_of x) / 4294967296 * 65536 ≡ joined x
unfolding joined
joins x h =
    let a : ℕ = x % 65536 in
    let b : ℕ = x / 65536 % 65536 in
    let c : ℕ = x / 4294967296 % 65536 in
    let d : ℕ = x / 281474976710656 in
    let y = ap y_of (lanes x) ∙ lanes_y a b c d (mod_below x) (mod_below (x / 65536)) (mod_below (x / 4294967296)) in
    let z = ap z_of y
    ∙ lanes_z (pair a) (pair b) (pair c) (pair d) (pair_below a) (pair_below b) (pair_below c) (pair_below d) in
    ap (λ (t : ℕ). t % 16777216 * 1099511627776 + t / 4294967296 * 65536) z
    ∙ over (pair a * 4096 + pair b) (pair c * 4096 + pair d) (both (pair a) (pair b) (pair_below a) (pair_below b))
  where
    lanes : (x : ℕ)
        → x ≡ ((x / 281474976710656 * 65536 + x / 4294967296 % 65536) * 65536 + x / 65536 % 65536) * 65536 + x % 65536
    lanes x = omega arith

    mod_below : (x : ℕ) → x % 65536 < 65536
    mod_below x = omega arith

    both : (s t : ℕ) → s < 4096 → t < 4096 → s * 4096 + t < 16777216
    both s t hs ht = omega arith

    over : (t u : ℕ) → t < 16777216
        → (u * 4294967296 + t) % 16777216 * 1099511627776 + (u * 4294967296 + t) / 4294967296 * 65536
        ≡ t * 1099511627776 + u * 65536
    over t u h = omega arith

-- Words and octets one after the other

pub octets_of_length : (ws : List ℕ) → length (octets_of ws) ≡ 6 * length ws
unfolding octets_of six_octets
octets_of_length [] = refl
octets_of_length (w ∷ ws) = omega (arith, octets_of_length ws)

pub octets_of_next : (ws : List ℕ) (g : ℕ) → g < length ws
    → octets_of (drop g ws) ≡ six_octets (get_or ws g 0) ++ octets_of (drop (g + 1) ws)
unfolding octets_of
octets_of_next ws g h = ap octets_of (drop_next ws g (g + 1) refl h)

pub words_of_length : (vs : List ℕ) → length (words_of vs) ≡ length vs / 8
unfolding words_of
words_of_length [] = refl
words_of_length (a ∷ []) = refl
words_of_length (a ∷ b ∷ []) = refl
words_of_length (a ∷ b ∷ c ∷ []) = refl
words_of_length (a ∷ b ∷ c ∷ d ∷ []) = refl
words_of_length (a ∷ b ∷ c ∷ d ∷ e ∷ []) = refl
words_of_length (a ∷ b ∷ c ∷ d ∷ e ∷ f ∷ []) = refl
words_of_length (a ∷ b ∷ c ∷ d ∷ e ∷ f ∷ g ∷ []) = refl
words_of_length (a ∷ b ∷ c ∷ d ∷ e ∷ f ∷ g ∷ h ∷ rest) = omega (arith, words_of_length rest)

-- eight values in front are a word
words_front : (s t : List ℕ) → length s ≡ 8 → words_of (s ++ t) ≡ words_of s ++ words_of t
unfolding words_of
words_front [] t e = absurd (omega (arith, e))
words_front (a ∷ []) t e = absurd (omega (arith, e))
words_front (a ∷ b ∷ []) t e = absurd (omega (arith, e))
words_front (a ∷ b ∷ c ∷ []) t e = absurd (omega (arith, e))
words_front (a ∷ b ∷ c ∷ d ∷ []) t e = absurd (omega (arith, e))
words_front (a ∷ b ∷ c ∷ d ∷ x ∷ []) t e = absurd (omega (arith, e))
words_front (a ∷ b ∷ c ∷ d ∷ x ∷ f ∷ []) t e = absurd (omega (arith, e))
words_front (a ∷ b ∷ c ∷ d ∷ x ∷ f ∷ g ∷ []) t e = absurd (omega (arith, e))
words_front (a ∷ b ∷ c ∷ d ∷ x ∷ f ∷ g ∷ y ∷ []) t e = refl
words_front (a ∷ b ∷ c ∷ d ∷ x ∷ f ∷ g ∷ y ∷ z ∷ rest) t e = absurd (omega (arith, e))

pub words_by : TakesBy 8 words_of
words_by = record { splits = words_front }

pub words_of_eight : (s : List ℕ) (x w : ℕ) → length s ≡ 8 → x ≡ from_le_bytes w64 s → w ≡ joined x → words_of s ≡ w ∷ []
unfolding words_of
words_of_eight [] x w e is j = absurd (omega (arith, e))
words_of_eight (a ∷ []) x w e is j = absurd (omega (arith, e))
words_of_eight (a ∷ b ∷ []) x w e is j = absurd (omega (arith, e))
words_of_eight (a ∷ b ∷ c ∷ []) x w e is j = absurd (omega (arith, e))
words_of_eight (a ∷ b ∷ c ∷ d ∷ []) x w e is j = absurd (omega (arith, e))
words_of_eight (a ∷ b ∷ c ∷ d ∷ y ∷ []) x w e is j = absurd (omega (arith, e))
words_of_eight (a ∷ b ∷ c ∷ d ∷ y ∷ f ∷ []) x w e is j = absurd (omega (arith, e))
words_of_eight (a ∷ b ∷ c ∷ d ∷ y ∷ f ∷ g ∷ []) x w e is j = absurd (omega (arith, e))
words_of_eight (a ∷ b ∷ c ∷ d ∷ y ∷ f ∷ g ∷ h ∷ []) x w e is j =
    let sum : x ≡ digits a b c d + digits y f g h * 4294967296 = omega (arith, is) in
    ap (λ (v : ℕ). v ∷ []) (sym (j ∙ ap joined sum))
words_of_eight (a ∷ b ∷ c ∷ d ∷ y ∷ f ∷ g ∷ h ∷ z ∷ rest) x w e is j = absurd (omega (arith, e))

-- a word's octets, the highest first: the six upper ones, and the two that are none of the text's
pub be_octets : (w : ℕ) → w < 18446744073709551616 → to_be_bytes w64 w ≡ six_octets w ++ spill_of w
unfolding six_octets
be_octets w below =
    let top : w / 72057594037927936 % 256 ≡ w / 72057594037927936 = omega arith in
    ap (λ (x : ℕ). x ∷ (w / 281474976710656 % 256) ∷ (w / 1099511627776 % 256) ∷ (w / 4294967296 % 256) ∷ (w / 16777216 % 256)
    ∷ (w / 65536 % 256) ∷ (w / 256 % 256) ∷ (w % 256) ∷ []) top

-- The octets of words of values are the octets of the values' six low bits

abbrev pub low : ℕ → ℕ
low v = v % 64

-- a group of 24 bits and its three octets
group : ℕ → ℕ → ℕ → ℕ → ℕ
group p q r s = (p * 64 + q) * 4096 + (r * 64 + s)

module _ (p q r s : ℕ) (hp : p < 64) (hq : q < 64) (hr : r < 64) (hs : s < 64) where
  group_below : group p q r s < 16777216
  unfolding group
  group_below = omega arith

  first_of : group p q r s / 65536 ≡ p * 4 + q / 16
  unfolding group
  first_of = omega arith

  second_of : group p q r s / 256 % 256 ≡ q % 16 * 16 + r / 4
  unfolding group
  second_of = omega arith

  third_of : group p q r s % 256 ≡ r % 4 * 64 + s
  unfolding group
  third_of = omega arith

six_of : (t u : ℕ) → t < 16777216 → u < 16777216
    → six_octets (t * 1099511627776 + u * 65536)
    ≡ (t / 65536) ∷ (t / 256 % 256) ∷ (t % 256) ∷ (u / 65536) ∷ (u / 256 % 256) ∷ (u % 256) ∷ []
unfolding six_octets
six_of t u ht hu = simp (one t u hu, two t u hu, three t u hu, four t u hu, five t u hu, six t u hu)
  where
    one : (t u : ℕ) → u < 16777216 → (t * 1099511627776 + u * 65536) / 72057594037927936 ≡ t / 65536
    one t u hu = omega arith

    two : (t u : ℕ) → u < 16777216 → (t * 1099511627776 + u * 65536) / 281474976710656 % 256 ≡ t / 256 % 256
    two t u hu = omega arith

    three : (t u : ℕ) → u < 16777216 → (t * 1099511627776 + u * 65536) / 1099511627776 % 256 ≡ t % 256
    three t u hu = omega arith

    four : (t u : ℕ) → u < 16777216 → (t * 1099511627776 + u * 65536) / 4294967296 % 256 ≡ u / 65536
    four t u hu = omega arith

    five : (t u : ℕ) → u < 16777216 → (t * 1099511627776 + u * 65536) / 16777216 % 256 ≡ u / 256 % 256
    five t u hu = omega arith

    six : (t u : ℕ) → u < 16777216 → (t * 1099511627776 + u * 65536) / 65536 % 256 ≡ u % 256
    six t u hu = omega arith

joined_of : (a b c d e f g h : ℕ) → a < 256 → b < 256 → c < 256 → d < 256 → e < 256 → f < 256 → g < 256 → h < 256
    → joined (digits a b c d + digits e f g h * 4294967296)
    ≡ group (low a) (low b) (low c) (low d) * 1099511627776 + group (low e) (low f) (low g) (low h) * 65536
unfolding joined group
joined_of a b c d e f g h ha hb hc hd he hf hg hh =
    ap joined (regroup a b c d e f g h)
    ∙ lanes (a + b * 256) (c + d * 256) (e + f * 256) (g + h * 256) (two a b ha hb) (two c d hc hd) (two e f he hf)
    (two g h hg hh)
    ∙ simp (pair_of a b ha hb, pair_of c d hc hd, pair_of e f he hf, pair_of g h hg hh)
  where
    regroup : (a b c d e f g h : ℕ)
        → digits a b c d + digits e f g h * 4294967296
        ≡ (((g + h * 256) * 65536 + (e + f * 256)) * 65536 + (c + d * 256)) * 65536 + (a + b * 256)
    regroup a b c d e f g h = omega arith

    two : (a b : ℕ) → a < 256 → b < 256 → a + b * 256 < 65536
    two a b ha hb = omega arith

    upper : (a b : ℕ) → (a + b * 256) % 64 ≡ a % 64
    upper a b = omega arith

    lower : (a b : ℕ) → a < 256 → (a + b * 256) / 256 ≡ b
    lower a b ha = omega arith

    pair_of : (a b : ℕ) → a < 256 → b < 256 → pair (a + b * 256) ≡ low a * 64 + low b
    pair_of a b ha hb = ap₂ (λ (x y : ℕ). x * 64 + y % 64) (upper a b) (lower a b ha)

    lane0 : (R r : ℕ) → r < 65536 → (R * 65536 + r) % 65536 ≡ r
    lane0 R r h = omega arith

    lane1 : (R r : ℕ) → r < 65536 → (R * 65536 + r) / 65536 ≡ R
    lane1 R r h = omega arith

    again : (x : ℕ) → x / 4294967296 ≡ x / 65536 / 65536
    again x = omega arith

    thrice : (x : ℕ) → x / 281474976710656 ≡ x / 65536 / 65536 / 65536
    thrice x = omega arith

    lanes : (p q r s : ℕ) → p < 65536 → q < 65536 → r < 65536 → s < 65536
        → joined (((s * 65536 + r) * 65536 + q) * 65536 + p)
        ≡ (pair p * 4096 + pair q) * 1099511627776 + (pair r * 4096 + pair s) * 65536
    lanes p q r s hp hq hr hs =
        simp (
          again (((s * 65536 + r) * 65536 + q) * 65536 + p),
          thrice (((s * 65536 + r) * 65536 + q) * 65536 + p),
          lane0 ((s * 65536 + r) * 65536 + q) p hp,
          lane1 ((s * 65536 + r) * 65536 + q) p hp,
          lane0 (s * 65536 + r) q hq,
          lane1 (s * 65536 + r) q hq,
          lane0 s r hr,
          lane1 s r hr,
        )

pub words_octets : (vs : List ℕ) → AllBelow 256 vs → length vs % 8 ≡ 0 → octets_of (words_of vs) ≡ octets (map low vs)
unfolding octets_of words_of octets
words_octets [] h e = refl
words_octets (a ∷ []) h e = absurd (omega (arith, e))
words_octets (a ∷ b ∷ []) h e = absurd (omega (arith, e))
words_octets (a ∷ b ∷ c ∷ []) h e = absurd (omega (arith, e))
words_octets (a ∷ b ∷ c ∷ d ∷ []) h e = absurd (omega (arith, e))
words_octets (a ∷ b ∷ c ∷ d ∷ x ∷ []) h e = absurd (omega (arith, e))
words_octets (a ∷ b ∷ c ∷ d ∷ x ∷ f ∷ []) h e = absurd (omega (arith, e))
words_octets (a ∷ b ∷ c ∷ d ∷ x ∷ f ∷ g ∷ []) h e = absurd (omega (arith, e))
words_octets (a ∷ b ∷ c ∷ d ∷ x ∷ f ∷ g ∷ y ∷ rest) (ha, (hb, (hc, (hd, (hx, (hf, (hg, (hy, h)))))))) e =
    ap₂ ◌++◌
    (ap six_octets (joined_of a b c d x f g y ha hb hc hd hx hf hg hy) ∙ eight a b c d x f g y)
    (words_octets rest h (omega (arith, e)))
  where
    low_below : (v : ℕ) → low v < 64
    low_below v = omega arith

    eight : (a b c d x f g y : ℕ)
        → six_octets (group (low a) (low b) (low c) (low d) * 1099511627776 + group (low x) (low f) (low g) (low y) * 65536)
        ≡ (low a * 4 + low b / 16) ∷ (low b % 16 * 16 + low c / 4) ∷ (low c % 4 * 64 + low d)
        ∷ (low x * 4 + low f / 16) ∷ (low f % 16 * 16 + low g / 4) ∷ (low g % 4 * 64 + low y) ∷ []
    eight a b c d x f g y =
        six_of (group (low a) (low b) (low c) (low d)) (group (low x) (low f) (low g) (low y))
        (group_below (low a) (low b) (low c) (low d) (low_below a) (low_below b) (low_below c) (low_below d))
        (group_below (low x) (low f) (low g) (low y) (low_below x) (low_below f) (low_below g) (low_below y))
        ∙ simp (
          first_of (low a) (low b) (low c) (low d) (low_below a) (low_below b) (low_below c) (low_below d),
          second_of (low a) (low b) (low c) (low d) (low_below a) (low_below b) (low_below c) (low_below d),
          third_of (low a) (low b) (low c) (low d) (low_below a) (low_below b) (low_below c) (low_below d),
          first_of (low x) (low f) (low g) (low y) (low_below x) (low_below f) (low_below g) (low_below y),
          second_of (low x) (low f) (low g) (low y) (low_below x) (low_below f) (low_below g) (low_below y),
          third_of (low x) (low f) (low g) (low y) (low_below x) (low_below f) (low_below g) (low_below y),
        )

-- A block of characters: what is done in vectors, packed and written, is what the text decodes to

near_below : (c : ℕ) → c < 256 → near c < 256
unfolding near
near_below c h =
    let le = leb→le (near c) 255 (below (λ (n : ℕ). leb (near n) 255) 256 tt c h) in
    small (near c) le
  where
    small : (n : ℕ) → n ≤ 255 → n < 256
    small n le = omega arith

all_near : (text : List ℕ) → AllBelow 256 text → AllBelow 256 (map near text)
all_near [] h = tt
all_near (c ∷ rest) h = (near_below c h.0, all_near rest h.1)

near_values : (text : List ℕ) → AllBelow 256 text → AllBelow 64 (map six_bits text)
    → map low (map near text) ≡ map six_bits text
near_values [] h v = refl
near_values (c ∷ rest) h v = ap₂ ◌∷◌ (value_near c h.0 v.0) (near_values rest h.1 v.1)

pub block_octets : (text : List ℕ) → AllBelow 256 text → AllBelow 64 (map six_bits text) → length text % 8 ≡ 0
    → octets_of (words_of (map near text)) ≡ decoded text
unfolding decoded
block_octets text h v e =
    words_octets (map near text) (all_near text h) (ap (λ (n : ℕ). n % 8) (length-map text near) ∙ e)
    ∙ ap octets (near_values text h v)
