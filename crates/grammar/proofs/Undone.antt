-- In well-formed UTF-8 a string that keeps the rule on halves says well-formed UTF-8 after undoing its escapes.
use mathlib.Core.Path.{◌≡◌, refl, sym, subst}
use mathlib.Core.List.{List, [], ◌∷◌, ◌++◌}
use mathlib.Core.Bool.{Bool, true, false, not, ◌&&◌, ◌||◌, cond}
use mathlib.Core.Option.{Option, none, some}
use Prim.Native.Nat.{ℕ, ◌≤◌, ◌<◌}
use native.Mathlib.Omega.{arith}
use lib.Dec.{T, leb, leb→le, le→leb, nleb→lt, T_not}
use Rattle.grammar.specs.Grammar.{quote, backslash, letter_u, among, is_escape, is_hex, is_digit, Octet, Char}
use Rattle.grammar.specs.Grammar.{unescaped, escape, unicode, leaves_char, leaves_chars}
use Rattle.grammar.specs.Strings.{escape_point, hex_digit, unit, is_high, is_low, half, allowed, paired_after, combined}
use Rattle.grammar.specs.Strings.{undone_char, undone_after}
use Rattle.grammar.specs.Utf8.{Range, within, Row, rows, follow, encode, utf8_after}
use Rattle.grammar.proofs.Parse.{true→T}
use Rattle.grammar.proofs.Scan.{both_T, all, among_all}
use Rattle.grammar.proofs.Utf8Test.{both, after_character}
use Rattle.grammar.proofs.Points.{encode_one}
use Rattle.grammar.proofs.Encoded.{encode_fits}

-- Octets below 128 stand for themselves

-- Ranges of octets that follow a first one: all from 128 on.
abbrev pub tails_only : List Range → Bool
tails_only [] = true
tails_only (r ∷ rs) = leb 128 r.low && tails_only rs

abbrev tails_in : List Row → Bool
tails_in [] = true
tails_in (r ∷ rs) = tails_only r.others && tails_in rs

follow_tails : (table : List Row) (c : ℕ) (rs : List Range) → T (tails_in table) → follow table c ≡ some rs →
    T (tails_only rs)
unfolding follow
follow_tails [] c rs t e = let z : ◌≡◌ {A = ℕ} 0 1 = cc in absurd (omega arith)
follow_tails (r ∷ table) c rs t e =
    let u = both_T (tails_only r.others) (tails_in table) t in
    go (within r.first c) u.0 (λ x. follow_tails table c rs u.1 x) e
  where
    go : (b : Bool) → T (tails_only r.others) → (follow table c ≡ some rs → T (tails_only rs)) →
        cond b (some r.others) (follow table c) ≡ some rs → T (tails_only rs)
    go true o ih x = let y : r.others ≡ rs = cc in subst (λ z. T (tails_only z)) y o
    go false o ih x = ih x

-- An octet below 128 never stands where another was to follow.
pub not_pending : (r : Range) (rs : List Range) (c : ℕ) (s : List ℕ) → T (tails_only (r ∷ rs)) → c < 128 →
    T (utf8_after (r ∷ rs) (c ∷ s)) → ⊥
unfolding utf8_after
not_pending r rs c s o h t =
    let u = both_T (leb 128 r.low) (tails_only rs) o in
    let v = both_T (within r c) (utf8_after rs s) t in
    let w = both_T (leb r.low c) (leb c r.high) v.0 in
    omega (arith, leb→le 128 r.low u.0, leb→le r.low c w.0)

pub low_step : (c : ℕ) (s : List ℕ) → c < 128 → utf8_after [] (c ∷ s) ≡ utf8_after [] s
low_step c s h =
    after_character (c ∷ []) s
    (rw (encode_one c (omega arith)) at (encode_fits c (omega arith) (λ x. absurd (omega arith))))

-- What one octet leads to.
record Goes (s : List ℕ) (c : ℕ) : Type 0 where
  ranges : List Range
  tails : T (tails_only ranges)
  ok : T (utf8_after ranges s)
  same : (u : List ℕ) → utf8_after [] (c ∷ u) ≡ utf8_after ranges u

goes : (c : ℕ) (s : List ℕ) → T (utf8_after [] (c ∷ s)) → Goes s c
unfolding utf8_after
goes c s t = go (follow rows c) refl t
  where
    go : (o : Option (List Range)) → follow rows c ≡ o →
        T (elim o as (λ x. Bool) [ none ↦ false | some rs ↦ utf8_after rs s ]) → Goes s c
    go none e x = absurd x
    go (some rs) e x =
        record { ranges = rs; tails = follow_tails rows c rs tt e; ok = x; same = λ u. rw (e, utf8_after) }

-- What stands behind an octet below 128 is well-formed by itself.
pub suffix : (pre : List ℕ) (rs : List Range) (c : ℕ) (s : List ℕ) → T (tails_only rs) → c < 128 →
    T (utf8_after rs (pre ++ (c ∷ s))) → T (utf8_after [] (c ∷ s))
unfolding utf8_after
suffix [] [] c s o h t = t
suffix [] (r ∷ rs) c s o h t = absurd (not_pending r rs c s o h t)
suffix (x ∷ pre) [] c s o h t =
    let g = goes x (pre ++ (c ∷ s)) t in
    suffix pre g.ranges c s g.tails h g.ok
suffix (x ∷ pre) (r ∷ rs) c s o h t =
    suffix pre rs c s (both_T (leb 128 r.low) (tails_only rs) o).1 h
    (both_T (within r x) (utf8_after rs (pre ++ (c ∷ s))) t).1

-- Escapes

escape_low : (o : Octet is_escape) → (o.code < 128) × (escape_point o.code < 128)
escape_low o =
    let x = among_all (λ c. leb c 127) (34 ∷ 92 ∷ 47 ∷ 98 ∷ 102 ∷ 110 ∷ 114 ∷ 116 ∷ []) o.code tt o.fits in
    let y = among_all (λ c. leb (escape_point c) 127) (34 ∷ 92 ∷ 47 ∷ 98 ∷ 102 ∷ 110 ∷ 114 ∷ 116 ∷ []) o.code tt
    o.fits in
    (omega (arith, leb→le o.code 127 x), omega (arith, leb→le (escape_point o.code) 127 y))

or_either : {C : Type 0} (a b : Bool) → (T a → C) → (T b → C) → T (a || b) → C
or_either true b f g t = f tt
or_either false b f g t = g t

hex_all : (q : ℕ → Bool) (c : ℕ) → T (all q (48 ∷ 49 ∷ 50 ∷ 51 ∷ 52 ∷ 53 ∷ 54 ∷ 55 ∷ 56 ∷ 57 ∷ [])) →
    T (all q (65 ∷ 66 ∷ 67 ∷ 68 ∷ 69 ∷ 70 ∷ 97 ∷ 98 ∷ 99 ∷ 100 ∷ 101 ∷ 102 ∷ [])) → T (is_hex c) → T (q c)
hex_all q c a b t =
    or_either (is_digit c) (among (65 ∷ 66 ∷ 67 ∷ 68 ∷ 69 ∷ 70 ∷ 97 ∷ 98 ∷ 99 ∷ 100 ∷ 101 ∷ 102 ∷ []) c)
    (among_all q (48 ∷ 49 ∷ 50 ∷ 51 ∷ 52 ∷ 53 ∷ 54 ∷ 55 ∷ 56 ∷ 57 ∷ []) c a)
    (among_all q (65 ∷ 66 ∷ 67 ∷ 68 ∷ 69 ∷ 70 ∷ 97 ∷ 98 ∷ 99 ∷ 100 ∷ 101 ∷ 102 ∷ []) c b) t

hex_low : (o : Octet is_hex) → (o.code < 128) × (hex_digit o.code < 16)
hex_low o =
    let x = hex_all (λ c. leb c 127) o.code tt tt o.fits in
    let y = hex_all (λ c. leb (hex_digit c) 15) o.code tt tt o.fits in
    (omega (arith, leb→le o.code 127 x), omega (arith, leb→le (hex_digit o.code) 15 y))

unit_bound : (a b c d : Octet is_hex) → unit a.code b.code c.code d.code ≤ 0xFFFF
unit_bound a b c d = omega (arith, (hex_low a).1, (hex_low b).1, (hex_low c).1, (hex_low d).1)

-- A first half that waits is one.
abbrev pub ok_half : Option ℕ → Bool
ok_half none = true
ok_half (some h) = is_high h

half_ok : (c : Char) → T (ok_half (half c))
unfolding half
half_ok (unescaped o) = tt
half_ok (escape o) = tt
half_ok (unicode a b c d) =
    let u = unit a.code b.code c.code d.code in
    go u (is_high u) refl
  where
    go : (u : ℕ) (b : Bool) → is_high u ≡ b → T (ok_half (cond b (some u) none))
    go u true e = true→T (is_high u) e
    go u false e = tt

-- A code point that is neither half is none of a pair.
no_half : (u : ℕ) → is_high u ≡ false → T (not (is_low u)) → 0xD7FF < u → 0xE000 ≤ u
no_half u e t h = go (leb 0xE000 u) refl
  where
    go : (b : Bool) → leb 0xE000 u ≡ b → 0xE000 ≤ u
    go true x = leb→le 0xE000 u (true→T (leb 0xE000 u) x)
    go false x =
        let y = nleb→lt 0xE000 u (subst (λ z. T (not z)) (sym x) tt) in
        low (leb 0xDC00 u) refl y
      where
        low : (b : Bool) → leb 0xDC00 u ≡ b → u < 0xE000 → 0xE000 ≤ u
        low true z y =
            absurd (T_not (is_low u) t
            (both (leb 0xDC00 u) (leb u 0xDFFF) (true→T (leb 0xDC00 u) z) (le→leb u 0xDFFF (omega arith))))
        low false z y =
            let w = nleb→lt 0xDC00 u (subst (λ k. T (not k)) (sym z) tt) in
            let v : T (is_high u) =
            both (leb 0xD800 u) (leb u 0xDBFF) (le→leb 0xD800 u (omega arith)) (le→leb u 0xDBFF (omega arith)) in
            absurd (subst T e v)

pair_bound : (g u : ℕ) → T (is_high g) → T (is_low u) → (0x10000 ≤ combined g u) × (combined g u ≤ 0x10FFFF)
pair_bound g u a b =
    let x = both_T (leb 0xD800 g) (leb g 0xDBFF) a in
    let y = both_T (leb 0xDC00 u) (leb u 0xDFFF) b in
    let p = leb→le 0xD800 g x.0 in
    let q = leb→le g 0xDBFF x.1 in
    let r = leb→le 0xDC00 u y.0 in
    let s = leb→le u 0xDFFF y.1 in
    (omega arith, omega arith)

-- What \u says is well-formed, where it may stand.
unit_step : (h : Option ℕ) (a b c d : Octet is_hex) (s : List ℕ) → T (ok_half h) → T (allowed h (unicode a b c d)) →
    utf8_after [] (undone_char h (unicode a b c d) ++ s) ≡ utf8_after [] s
unfolding undone_char allowed
unit_step none a b c d s o t =
    let u = unit a.code b.code c.code d.code in
    go (is_high u) refl
  where
    go : (g : Bool) → is_high (unit a.code b.code c.code d.code) ≡ g →
        utf8_after [] (cond g [] (encode (unit a.code b.code c.code d.code)) ++ s) ≡ utf8_after [] s
    go true e = refl
    go false e =
        let u = unit a.code b.code c.code d.code in
        let B = unit_bound a b c d in
        after_character (encode u) s (encode_fits u (omega arith) (no_half u e t))
unit_step (some g) a b c d s o t =
    let u = unit a.code b.code c.code d.code in
    let x = pair_bound g u o t in
    after_character (encode (combined g u)) s (encode_fits (combined g u) x.1 (λ y. omega (arith, x.0)))

-- The same of an octet that stands for itself, and of any other escape.

escape_step : (h : Option ℕ) (o : Octet is_escape) (s : List ℕ) →
    utf8_after [] (undone_char h (escape o) ++ s) ≡ utf8_after [] s
unfolding undone_char
escape_step h o s = low_step (escape_point o.code) s (escape_low o).1

char_pass : (c : ℕ) (s : List ℕ) → c < 128 → T (utf8_after [] (c ∷ s)) → T (utf8_after [] s)
char_pass c s h t = rw (low_step c s h) at t

hex_pass : (o : Octet is_hex) (s : List ℕ) → T (utf8_after [] (o.code ∷ s)) → T (utf8_after [] s)
hex_pass o s t = char_pass o.code s (hex_low o).0 t

-- A string

-- The characters before a quotation mark.
pub undone_utf8 : (cs : List Char) (rs : List Range) (h : Option ℕ) (s : List ℕ) → T (tails_only rs) → T (ok_half h) →
    T (utf8_after rs (leaves_chars cs ++ (quote ∷ s))) → T (paired_after h cs) → T (utf8_after rs (undone_after h cs))
unfolding leaves_chars leaves_char undone_after undone_char half paired_after allowed utf8_after
undone_utf8 [] [] h s o k t p = tt
undone_utf8 [] (r ∷ rs) h s o k t p = absurd (not_pending r rs quote s o (omega arith) t)
undone_utf8 (unescaped x ∷ cs) [] h s o k t p =
    let g = goes x.code (leaves_chars cs ++ (quote ∷ s)) t in
    subst T (sym (g.same (undone_after none cs)))
    (undone_utf8 cs g.ranges none s g.tails tt g.ok
    (both_T (allowed h (unescaped x)) (paired_after none cs) p).1)
undone_utf8 (unescaped x ∷ cs) (r ∷ rs) h s o k t p =
    let u = both_T (within r x.code) (utf8_after rs (leaves_chars cs ++ (quote ∷ s))) t in
    both (within r x.code) (utf8_after rs (undone_after none cs)) u.0
    (undone_utf8 cs rs none s (both_T (leb 128 r.low) (tails_only rs) o).1 tt u.1
    (both_T (allowed h (unescaped x)) (paired_after none cs) p).1)
undone_utf8 (escape x ∷ cs) [] h s o k t p =
    let rest = leaves_chars cs ++ (quote ∷ s) in
    let u = char_pass x.code rest (escape_low x).0 (char_pass backslash (x.code ∷ rest) (omega arith) t) in
    subst T (sym (escape_step h x (undone_after none cs)))
    (undone_utf8 cs [] none s tt tt u (both_T (allowed h (escape x)) (paired_after none cs) p).1)
undone_utf8 (escape x ∷ cs) (r ∷ rs) h s o k t p =
    absurd (not_pending r rs backslash (x.code ∷ (leaves_chars cs ++ (quote ∷ s))) o (omega arith) t)
undone_utf8 (unicode a b c d ∷ cs) [] h s o k t p =
    let rest = leaves_chars cs ++ (quote ∷ s) in
    let x = unicode a b c d in
    let q = both_T (allowed h x) (paired_after (half x) cs) p in
    let u =
    hex_pass d rest
    (hex_pass c (d.code ∷ rest)
    (hex_pass b (c.code ∷ d.code ∷ rest)
    (hex_pass a (b.code ∷ c.code ∷ d.code ∷ rest)
    (char_pass letter_u (a.code ∷ b.code ∷ c.code ∷ d.code ∷ rest) (omega arith)
    (char_pass backslash (letter_u ∷ a.code ∷ b.code ∷ c.code ∷ d.code ∷ rest) (omega arith) t))))) in
    subst T (sym (unit_step h a b c d (undone_after (half x) cs) k q.0))
    (undone_utf8 cs [] (half x) s tt (half_ok x) u q.1)
undone_utf8 (unicode a b c d ∷ cs) (r ∷ rs) h s o k t p =
    absurd (not_pending r rs backslash
    (letter_u ∷ a.code ∷ b.code ∷ c.code ∷ d.code ∷ (leaves_chars cs ++ (quote ∷ s))) o (omega arith) t)
