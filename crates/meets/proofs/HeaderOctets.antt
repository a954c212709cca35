-- A text that is read is octets, so that a header is known by its encoding, also where a full stop and more stand
-- behind it; and what begins so opens no object.
use mathlib.Core.Path.{◌≡◌, refl, ap, ap₂, sym, subst, ◌∙◌}
use mathlib.Core.Bool.{Bool, true, false, not, ◌&&◌, ◌||◌, cond}
use mathlib.Core.List.{List, [], ◌∷◌, ◌++◌, map}
use Prim.Native.Nat.{ℕ, ◌<◌}
use native.Mathlib.Omega.{arith}
use lib.Dec.{T, eqb, leb}
use lib.ListN.{length, take}
use lib.Seq.{take-append_seam}
use borrow.Author.Tests.{leb-true}
use Rattle.prelude.specs.Ascii.{ascii}
use Rattle.prelude.specs.Buffer.{AllBelow}
use Rattle.prelude.proofs.Numbers.{below}
use Rattle.base64url.specs.Base64url.{alphabet, character, sextets, encoded, decoded}
use Rattle.base64url.proofs.Groups.{sextets_below}
use Rattle.base64url.proofs.Laws.{decode_encode}
use Rattle.parts.specs.Parts.{seek}
use Rattle.parts.proofs.Laws.{seek_first}
use Rattle.grammar.specs.Grammar.{is_space}
use Rattle.grammar.specs.Utf8.{Range, within, Row, rows, fits, fits_one, Character, spelling, Utf8}
use Rattle.grammar.specs.Reader.{octet_at, pass_over, skip, opens_object}
use Rattle.grammar.proofs.Scan.{T→true, both_T}
use Rattle.meets.specs.Meets.{Octets}
use Rattle.meets.proofs.SpelledDecided.{outside_encoded, stop_outside}

-- Well-formed characters are octets: every range of the grammar ends below 256.

unfoldable low_ranges : List Range → Bool
low_ranges [] = true
low_ranges (r ∷ rs) = leb r.high 255 && low_ranges rs

unfoldable low_rows : List Row → Bool
low_rows [] = true
low_rows (r ∷ rs) = low_ranges (r.first ∷ r.others) && low_rows rs

fits_below : (rs : List Range) (w : List ℕ) → T (low_ranges rs) → T (fits rs w) → Octets w
unfolding low_ranges fits
fits_below [] [] l t = tt
fits_below [] (c ∷ w) l t = absurd t
fits_below (r ∷ rs) [] l t = absurd t
fits_below (r ∷ rs) (c ∷ w) l t =
    let a = both_T (leb r.high 255) (low_ranges rs) l in
    let b = both_T (within r c) (fits rs w) t in
    let d = both_T (leb r.low c) (leb c r.high) b.0 in
    let high = leb-true r.high 255 (T→true (leb r.high 255) a.0) in
    let inside = leb-true c r.high (T→true (leb c r.high) d.1) in
    (omega arith, fits_below rs w a.1 b.1)

rows_below : (rs : List Row) (w : List ℕ) → T (low_rows rs) → T (fits_one rs w) → Octets w
unfolding low_rows fits_one
rows_below [] w l t = absurd t
rows_below (r ∷ rs) w l t =
    let a = both_T (low_ranges (r.first ∷ r.others)) (low_rows rs) l in
    cases (fits (r.first ∷ r.others) w) (fits_below (r.first ∷ r.others) w a.0) (rows_below rs w a.1) t
  where
    cases : (b : Bool) → (T b → Octets w) → (T (fits_one rs w) → Octets w) → T (b || fits_one rs w) → Octets w
    cases true here later t = here tt
    cases false here later t = later t

below_append : (xs ys : List ℕ) → Octets xs → Octets ys → Octets (xs ++ ys)
below_append [] ys h k = k
below_append (x ∷ xs) ys h k = (h.0, below_append xs ys h.1 k)

rows_low : T (low_rows rows)
unfolding low_rows low_ranges
rows_low = tt

spelling_below : (cs : List Character) → Octets (spelling cs)
unfolding spelling
spelling_below [] = tt
spelling_below (c ∷ cs) =
    below_append c.octets (spelling cs) (rows_below rows c.octets rows_low c.well_formed) (spelling_below cs)

pub read_octets : (s : List ℕ) → Utf8 s → Octets s
read_octets s u = subst Octets u.text (spelling_below u.characters)

-- Octets are known by their encoding ..
pub encoded_once : (xs ys : List ℕ) → Octets xs → Octets ys → encoded xs ≡ encoded ys → xs ≡ ys
encoded_once xs ys h k e = sym (decode_encode xs h) ∙ ap decoded e ∙ decode_encode ys k

-- .. also before a full stop, which stands in no encoding.
pub first_once : (xs ys rest others : List ℕ) → Octets xs → Octets ys →
    encoded xs ++ (46 ∷ rest) ≡ encoded ys ++ (46 ∷ others) → xs ≡ ys
first_once xs ys rest others h k e =
    let n : length (encoded xs) ≡ length (encoded ys) =
    sym (seek_first 46 (encoded xs) (outside_encoded 46 stop_outside xs h) rest)
    ∙ ap (λ (s : List ℕ). seek 46 s 0) e
    ∙ seek_first 46 (encoded ys) (outside_encoded 46 stop_outside ys k) others in
    encoded_once xs ys h k
    (sym (take-append_seam (encoded xs) (46 ∷ rest)) ∙ ap₂ take n e ∙ take-append_seam (encoded ys) (46 ∷ others))

-- Such a text opens no object: it begins with an octet that is neither space nor an opening curly bracket.

abbrev other : ℕ → Bool
other c = not (is_space c) && not (eqb c 123)

begins_other : (c : ℕ) (t : List ℕ) → T (other c) → opens_object (c ∷ t) ≡ false
unfolding opens_object skip pass_over
begins_other c t h =
    cases (is_space c) (eqb c 123) refl refl h
  where
    cases : (a b : Bool) → is_space c ≡ a → eqb c 123 ≡ b → T (not a && not b) →
        eqb (octet_at (c ∷ t) (cond (is_space c) (pass_over is_space t 1) 0)) 123 ≡ false
    cases true b p q h = absurd h
    cases false true p q h = absurd h
    cases false false p q h =
        ap (λ (x : Bool). eqb (octet_at (c ∷ t) (cond x (pass_over is_space t 1) 0)) 123) p ∙ q

character_other : (v : ℕ) → v < 64 → T (other (character v))
unfolding ascii alphabet character
character_other v h = below (λ (n : ℕ). other (character n)) 64 tt v h

characters_other : (vs t : List ℕ) → AllBelow 64 vs → opens_object (map character vs ++ (46 ∷ t)) ≡ false
characters_other [] t h = begins_other 46 t tt
characters_other (v ∷ vs) t h = begins_other (character v) (map character vs ++ (46 ∷ t)) (character_other v h.0)

pub encoded_opens_none : (xs rest : List ℕ) → Octets xs → opens_object (encoded xs ++ (46 ∷ rest)) ≡ false
unfolding encoded
encoded_opens_none xs rest h = characters_other (sextets xs) rest (sextets_below xs h)
