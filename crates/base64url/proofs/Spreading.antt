-- Encoding by words: what `spread` makes of a word, and that a block's octets become their values.
use mathlib.Core.Path.{◌≡◌, refl, ap, ap₂, sym, ◌∙◌}
use mathlib.Core.List.{List, [], ◌∷◌, ◌++◌}
use Prim.Native.Nat.{ℕ, ◌+◌, ◌*◌, ◌/◌, ◌%◌, ◌<◌}
use native.Mathlib.Omega.{arith}
use lib.Bits.{bit_and, and_le_r}
use lib.ListN.{length, drop, get_or}
use Rattle.std.specs.Int.{w64, to_le_bytes}
use Rattle.prelude.specs.Buffer.{AllBelow}
use Rattle.prelude.proofs.Lists.{drop_next}
use Rattle.base64url.specs.Base64url.{sextets}
use Rattle.base64url.specs.Inner.Words.{digits, word_of, sixes_of, four_values, spread_of, eight_octets, spread_all}
use Rattle.base64url.proofs.Chunks.{TakesBy}
use Rattle.base64url.proofs.Lanes.{sixes, twelves}

abbrev pub z_in : ℕ → ℕ
z_in w = w / 1099511627776 + w / 65536 % 16777216 * 4294967296

abbrev pub y_in : ℕ → ℕ
y_in z = bit_and (z / 4096) 0x00000FFF00000FFF + bit_and z 0x00000FFF00000FFF * 65536

abbrev pub x_in : ℕ → ℕ
x_in y = bit_and (y / 64) 0x003F003F003F003F + bit_and y 0x003F003F003F003F * 256

pub y_in_below : (z : ℕ) → y_in z < 18446744073709551616
y_in_below z = omega (arith, and_le_r z 0x00000FFF00000FFF, and_le_r (z / 4096) 0x00000FFF00000FFF)

pub x_in_below : (y : ℕ) → x_in y < 18446744073709551616
x_in_below y = omega (arith, and_le_r y 0x003F003F003F003F, and_le_r (y / 64) 0x003F003F003F003F)

lanes_y : (s t : ℕ) → s < 16777216 → t < 16777216
    → y_in (t * 4294967296 + s) ≡ ((t % 4096 * 65536 + t / 4096) * 65536 + s % 4096) * 65536 + s / 4096
lanes_y s t hs ht =
    ap₂ (λ (a b : ℕ). a + b * 65536)
    (ap (λ (x : ℕ). bit_and x 0x00000FFF00000FFF) (shift s t) ∙ twelves (past s t) (t / 4096) (fits s t hs)
    ∙ ap₂ (λ (a b : ℕ). a * 4294967296 + b) (high t ht) (keeps s t hs))
    (twelves s t (small s hs))
    ∙ sum (t / 4096) (s / 4096) (t % 4096) (s % 4096)
  where
    past : ℕ → ℕ → ℕ
    past s t = s / 4096 + t % 4096 * 1048576

    small : (s : ℕ) → s < 16777216 → s < 4294967296
    small s h = omega arith

    shift : (s t : ℕ) → (t * 4294967296 + s) / 4096 ≡ t / 4096 * 4294967296 + past s t
    shift s t = omega arith

    fits : (s t : ℕ) → s < 16777216 → past s t < 4294967296
    fits s t h = omega arith

    keeps : (s t : ℕ) → s < 16777216 → past s t % 4096 ≡ s / 4096
    keeps s t h = omega arith

    high : (t : ℕ) → t < 16777216 → t / 4096 % 4096 ≡ t / 4096
    high t h = omega arith

    sum : (a b c d : ℕ) → (a * 4294967296 + b) + (c * 4294967296 + d) * 65536 ≡ ((c * 65536 + a) * 65536 + d) * 65536 + b
    sum a b c d = omega arith

lanes_x : (a b c d : ℕ) → a < 4096 → b < 4096 → c < 4096 → d < 4096
    → x_in (((d * 65536 + c) * 65536 + b) * 65536 + a)
    ≡ digits (a / 64) (a % 64) (b / 64) (b % 64) + digits (c / 64) (c % 64) (d / 64) (d % 64) * 4294967296
lanes_x a b c d ha hb hc hd =
    ap₂ (λ (s t : ℕ). s + t * 256)
    (ap (λ (x : ℕ). bit_and x 0x003F003F003F003F) next
    ∙ sixes (past a b) (past b c) (past c d) (d / 64) (fits a b ha) (fits b c hb) (fits c d hc)
    ∙ simp (keeps a b ha, keeps b c hb, keeps c d hc, top d hd))
    (sixes a b c d (small a ha) (small b hb) (small c hc))
    ∙ sum (a / 64) (b / 64) (c / 64) (d / 64) (a % 64) (b % 64) (c % 64) (d % 64)
  where
    past : ℕ → ℕ → ℕ
    past r l = r / 64 + l % 64 * 1024

    small : (r : ℕ) → r < 4096 → r < 65536
    small r h = omega arith

    fits : (r l : ℕ) → r < 4096 → past r l < 65536
    fits r l h = omega arith

    keeps : (r l : ℕ) → r < 4096 → past r l % 64 ≡ r / 64
    keeps r l h = omega arith

    top : (d : ℕ) → d < 4096 → d / 64 % 64 ≡ d / 64
    top d h = omega arith

    shift : (R r l : ℕ) → R % 64 ≡ l % 64 → (R * 65536 + r) / 64 ≡ R / 64 * 65536 + past r l
    shift R r l e = omega (arith, e)

    next : (((d * 65536 + c) * 65536 + b) * 65536 + a) / 64
        ≡ ((d / 64 * 65536 + past c d) * 65536 + past b c) * 65536 + past a b
    next =
        shift ((d * 65536 + c) * 65536 + b) a b (omega arith)
        ∙ ap (λ (t : ℕ). t * 65536 + past a b) (shift (d * 65536 + c) b c (omega arith)
        ∙ ap (λ (t : ℕ). t * 65536 + past b c) (shift d c d refl))

    sum : (a b c d e f g h : ℕ)
        → (((d * 65536 + c) * 65536 + b) * 65536 + a) + (((h * 65536 + g) * 65536 + f) * 65536 + e) * 256
        ≡ digits a e b f + digits c g d h * 4294967296
    sum a b c d e f g h = omega arith

pub spreads : (w : ℕ) → w < 18446744073709551616 → x_in (y_in (z_in w)) ≡ spread_of w
unfolding spread_of
spreads w h =
    let s : ℕ = w / 1099511627776 in
    let t : ℕ = w / 65536 % 16777216 in
    ap x_in (ap y_in (swap s t) ∙ lanes_y s t (high w h) (low w))
    ∙ lanes_x (s / 4096) (s % 4096) (t / 4096) (t % 4096) (up s (high w h)) (down s) (up t (low w)) (down t)
    ∙ ap₂ (λ (a b : ℕ). a + b * 4294967296) (parts s) (parts t)
  where
    swap : (s t : ℕ) → s + t * 4294967296 ≡ t * 4294967296 + s
    swap s t = omega arith

    high : (w : ℕ) → w < 18446744073709551616 → w / 1099511627776 < 16777216
    high w h = omega arith

    low : (w : ℕ) → w / 65536 % 16777216 < 16777216
    low w = omega arith

    up : (s : ℕ) → s < 16777216 → s / 4096 < 4096
    up s h = omega arith

    down : (s : ℕ) → s % 4096 < 4096
    down s = omega arith

    parts : (s : ℕ) → digits (s / 4096 / 64) (s / 4096 % 64) (s % 4096 / 64) (s % 4096 % 64) ≡ four_values s
    parts s = simp (one s, two s, three s)
      where
        one : (s : ℕ) → s / 4096 / 64 ≡ s / 262144
        one s = omega arith

        two : (s : ℕ) → s % 4096 / 64 ≡ s / 64 % 64
        two s = omega arith

        three : (s : ℕ) → s % 4096 % 64 ≡ s % 64
        three s = omega arith

-- The octets of a number of four

d0 : (a b c d : ℕ) → a < 256 → digits a b c d % 256 ≡ a
d0 a b c d ha = omega arith

d1 : (a b c d : ℕ) → a < 256 → b < 256 → digits a b c d / 256 % 256 ≡ b
d1 a b c d ha hb = omega arith

d2 : (a b c d : ℕ) → a < 256 → b < 256 → c < 256 → digits a b c d / 65536 % 256 ≡ c
d2 a b c d ha hb hc = omega arith

d3 : (a b c d : ℕ) → a < 256 → b < 256 → c < 256 → d < 256 → digits a b c d / 16777216 % 256 ≡ d
d3 a b c d ha hb hc hd = omega arith

d4 : (a b c d : ℕ) → a < 256 → b < 256 → c < 256 → d < 256 → digits a b c d / 16777216 ≡ d
d4 a b c d ha hb hc hd = omega arith

-- Six octets as a word, and its values

abbrev bytes : ℕ → ℕ → ℕ → ℕ
bytes a b c = a * 65536 + b * 256 + c

word_of_lem : (a b c d e f : ℕ) → word_of a b c d e f ≡ bytes a b c * 1099511627776 + bytes d e f * 65536
word_of_lem a b c d e f = omega arith

values_of : (a b c : ℕ) → a < 256 → b < 256 → c < 256
    → four_values (bytes a b c) ≡ digits (a / 4) (a % 4 * 16 + b / 16) (b % 16 * 4 + c / 64) (c % 64)
values_of a b c ha hb hc = simp (one a b c hb hc, two a b c hb hc, three a b c hc, four a b c)
  where
    one : (a b c : ℕ) → b < 256 → c < 256 → bytes a b c / 262144 ≡ a / 4
    one a b c hb hc = omega arith

    two : (a b c : ℕ) → b < 256 → c < 256 → bytes a b c / 4096 % 64 ≡ a % 4 * 16 + b / 16
    two a b c hb hc = omega arith

    three : (a b c : ℕ) → c < 256 → bytes a b c / 64 % 64 ≡ b % 16 * 4 + c / 64
    three a b c hc = omega arith

    four : (a b c : ℕ) → bytes a b c % 64 ≡ c % 64
    four a b c = omega arith

pub eight_parts : (l u : ℕ) → l < 4294967296
    → eight_octets (l + u * 4294967296)
    ≡ (l % 256) ∷ (l / 256 % 256) ∷ (l / 65536 % 256) ∷ (l / 16777216 % 256)
    ∷ (u % 256) ∷ (u / 256 % 256) ∷ (u / 65536 % 256) ∷ (u / 16777216) ∷ []
unfolding eight_octets
eight_parts l u h =
    simp (p0 l u, p1 l u, p2 l u, p3 l u, p4 l u h, p5 l u h, p6 l u h, p7 l u h)
  where
    p0 : (l u : ℕ) → (l + u * 4294967296) % 256 ≡ l % 256
    p0 l u = omega arith

    p1 : (l u : ℕ) → (l + u * 4294967296) / 256 % 256 ≡ l / 256 % 256
    p1 l u = omega arith

    p2 : (l u : ℕ) → (l + u * 4294967296) / 65536 % 256 ≡ l / 65536 % 256
    p2 l u = omega arith

    p3 : (l u : ℕ) → (l + u * 4294967296) / 16777216 % 256 ≡ l / 16777216 % 256
    p3 l u = omega arith

    p4 : (l u : ℕ) → l < 4294967296 → (l + u * 4294967296) / 4294967296 % 256 ≡ u % 256
    p4 l u h = omega arith

    p5 : (l u : ℕ) → l < 4294967296 → (l + u * 4294967296) / 1099511627776 % 256 ≡ u / 256 % 256
    p5 l u h = omega arith

    p6 : (l u : ℕ) → l < 4294967296 → (l + u * 4294967296) / 281474976710656 % 256 ≡ u / 65536 % 256
    p6 l u h = omega arith

    p7 : (l u : ℕ) → l < 4294967296 → (l + u * 4294967296) / 72057594037927936 ≡ u / 16777216
    p7 l u h = omega arith

octets_of_lem : (a b c d e f g h : ℕ) → a < 256 → b < 256 → c < 256 → d < 256 → e < 256 → f < 256 → g < 256 → h < 256
    → eight_octets (digits a b c d + digits e f g h * 4294967296) ≡ a ∷ b ∷ c ∷ d ∷ e ∷ f ∷ g ∷ h ∷ []
unfolding eight_octets
octets_of_lem a b c d e f g h ha hb hc hd he hf hg hh =
    eight_parts (digits a b c d) (digits e f g h) (small a b c d ha hb hc hd)
    ∙ simp (
      d0 a b c d ha,
      d1 a b c d ha hb,
      d2 a b c d ha hb hc,
      d3 a b c d ha hb hc hd,
      d0 e f g h he,
      d1 e f g h he hf,
      d2 e f g h he hf hg,
      d4 e f g h he hf hg hh,
    )
  where
    small : (a b c d : ℕ) → a < 256 → b < 256 → c < 256 → d < 256 → digits a b c d < 4294967296
    small a b c d ha hb hc hd = omega arith

word_values : (a b c d e f : ℕ) → a < 256 → b < 256 → c < 256 → d < 256 → e < 256 → f < 256
    → eight_octets (spread_of (word_of a b c d e f))
    ≡ (a / 4) ∷ (a % 4 * 16 + b / 16) ∷ (b % 16 * 4 + c / 64) ∷ (c % 64)
    ∷ (d / 4) ∷ (d % 4 * 16 + e / 16) ∷ (e % 16 * 4 + f / 64) ∷ (f % 64) ∷ []
unfolding spread_of
word_values a b c d e f ha hb hc hd he hf =
    ap (λ (w : ℕ). eight_octets (four_values (w / 1099511627776) + four_values (w / 65536 % 16777216) * 4294967296))
    (word_of_lem a b c d e f)
    ∙ ap₂ (λ (s t : ℕ). eight_octets (four_values s + four_values t * 4294967296))
    (upper (bytes a b c) (bytes d e f) (small d e f hd he hf)) (lower (bytes a b c) (bytes d e f) (small d e f hd he hf))
    ∙ ap₂ (λ (s t : ℕ). eight_octets (s + t * 4294967296)) (values_of a b c ha hb hc) (values_of d e f hd he hf)
    ∙ octets_of_lem (a / 4) (a % 4 * 16 + b / 16) (b % 16 * 4 + c / 64) (c % 64) (d / 4) (d % 4 * 16 + e / 16)
    (e % 16 * 4 + f / 64) (f % 64)
    (v0 a ha) (v1 a b hb) (v2 b c hc) (v3 c) (v0 d hd) (v1 d e he) (v2 e f hf) (v3 f)
  where
    small : (a b c : ℕ) → a < 256 → b < 256 → c < 256 → bytes a b c < 16777216
    small a b c ha hb hc = omega arith

    upper : (s t : ℕ) → t < 16777216 → (s * 1099511627776 + t * 65536) / 1099511627776 ≡ s
    upper s t h = omega arith

    lower : (s t : ℕ) → t < 16777216 → (s * 1099511627776 + t * 65536) / 65536 % 16777216 ≡ t
    lower s t h = omega arith

    v0 : (a : ℕ) → a < 256 → a / 4 < 256
    v0 a h = omega arith

    v1 : (a b : ℕ) → b < 256 → a % 4 * 16 + b / 16 < 256
    v1 a b h = omega arith

    v2 : (b c : ℕ) → c < 256 → b % 16 * 4 + c / 64 < 256
    v2 b c h = omega arith

    v3 : (c : ℕ) → c % 64 < 256
    v3 c = omega arith

pub block_sextets : (xs : List ℕ) → AllBelow 256 xs → length xs % 6 ≡ 0 → spread_all (sixes_of xs) ≡ sextets xs
unfolding spread_all sixes_of sextets
block_sextets [] h e = refl
block_sextets (a ∷ []) h e = absurd (omega (arith, e))
block_sextets (a ∷ b ∷ []) h e = absurd (omega (arith, e))
block_sextets (a ∷ b ∷ c ∷ []) h e = absurd (omega (arith, e))
block_sextets (a ∷ b ∷ c ∷ d ∷ []) h e = absurd (omega (arith, e))
block_sextets (a ∷ b ∷ c ∷ d ∷ x ∷ []) h e = absurd (omega (arith, e))
block_sextets (a ∷ b ∷ c ∷ d ∷ x ∷ f ∷ rest) (ha, (hb, (hc, (hd, (hx, (hf, h)))))) e =
    ap₂ ◌++◌ (word_values a b c d x f ha hb hc hd hx hf) (block_sextets rest h (omega (arith, e)))

-- Words and values one after the other

pub sixes_of_length : (xs : List ℕ) → length (sixes_of xs) ≡ length xs / 6
unfolding sixes_of
sixes_of_length [] = refl
sixes_of_length (a ∷ []) = refl
sixes_of_length (a ∷ b ∷ []) = refl
sixes_of_length (a ∷ b ∷ c ∷ []) = refl
sixes_of_length (a ∷ b ∷ c ∷ d ∷ []) = refl
sixes_of_length (a ∷ b ∷ c ∷ d ∷ e ∷ []) = refl
sixes_of_length (a ∷ b ∷ c ∷ d ∷ e ∷ f ∷ rest) = omega (arith, sixes_of_length rest)

-- six octets in front are a word
sixes_front : (s t : List ℕ) → length s ≡ 6 → sixes_of (s ++ t) ≡ sixes_of s ++ sixes_of t
unfolding sixes_of
sixes_front [] t e = absurd (omega (arith, e))
sixes_front (a ∷ []) t e = absurd (omega (arith, e))
sixes_front (a ∷ b ∷ []) t e = absurd (omega (arith, e))
sixes_front (a ∷ b ∷ c ∷ []) t e = absurd (omega (arith, e))
sixes_front (a ∷ b ∷ c ∷ d ∷ []) t e = absurd (omega (arith, e))
sixes_front (a ∷ b ∷ c ∷ d ∷ x ∷ []) t e = absurd (omega (arith, e))
sixes_front (a ∷ b ∷ c ∷ d ∷ x ∷ f ∷ []) t e = refl
sixes_front (a ∷ b ∷ c ∷ d ∷ x ∷ f ∷ y ∷ rest) t e = absurd (omega (arith, e))

pub sixes_by : TakesBy 6 sixes_of
sixes_by = record { splits = sixes_front }

pub sixes_of_six : (s : List ℕ) (w : ℕ) → length s ≡ 6
    → w ≡ word_of (get_or s 0 0) (get_or s 1 0) (get_or s 2 0) (get_or s 3 0) (get_or s 4 0) (get_or s 5 0) → sixes_of s ≡ w ∷ []
unfolding sixes_of
sixes_of_six [] w e is = absurd (omega (arith, e))
sixes_of_six (a ∷ []) w e is = absurd (omega (arith, e))
sixes_of_six (a ∷ b ∷ []) w e is = absurd (omega (arith, e))
sixes_of_six (a ∷ b ∷ c ∷ []) w e is = absurd (omega (arith, e))
sixes_of_six (a ∷ b ∷ c ∷ d ∷ []) w e is = absurd (omega (arith, e))
sixes_of_six (a ∷ b ∷ c ∷ d ∷ x ∷ []) w e is = absurd (omega (arith, e))
sixes_of_six (a ∷ b ∷ c ∷ d ∷ x ∷ f ∷ []) w e is = ap (λ (v : ℕ). v ∷ []) (sym is)
sixes_of_six (a ∷ b ∷ c ∷ d ∷ x ∷ f ∷ y ∷ rest) w e is = absurd (omega (arith, e))

-- a number's octets, the lowest first
pub le_octets : (w : ℕ) → w < 18446744073709551616 → to_le_bytes w64 w ≡ eight_octets w
unfolding eight_octets
le_octets w below =
    let top : w / 72057594037927936 % 256 ≡ w / 72057594037927936 = omega arith in
    ap (λ (x : ℕ). (w % 256) ∷ (w / 256 % 256) ∷ (w / 65536 % 256) ∷ (w / 16777216 % 256) ∷ (w / 4294967296 % 256)
    ∷ (w / 1099511627776 % 256) ∷ (w / 281474976710656 % 256) ∷ x ∷ []) top

pub spread_all_length : (ws : List ℕ) → length (spread_all ws) ≡ 8 * length ws
unfolding spread_all eight_octets
spread_all_length [] = refl
spread_all_length (w ∷ ws) = omega (arith, spread_all_length ws)

pub spread_all_next : (ws : List ℕ) (g x : ℕ) → g < length ws → x ≡ spread_of (get_or ws g 0)
    → spread_all (drop g ws) ≡ eight_octets x ++ spread_all (drop (g + 1) ws)
unfolding spread_all
spread_all_next ws g x h e =
    ap spread_all (drop_next ws g (g + 1) refl h) ∙ ap (λ (y : ℕ). eight_octets y ++ spread_all (drop (g + 1) ws)) (sym e)
