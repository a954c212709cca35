-- The test for UTF-8 agrees with the definition: it passes exactly the octets of a list of well-formed characters.
use mathlib.Core.Path.{◌≡◌, refl, sym, ap, subst, ◌∙◌}
use mathlib.Core.List.{List, [], ◌∷◌, ◌++◌}
use mathlib.Core.Bool.{Bool, true, false, ◌&&◌, ◌||◌, cond}
use mathlib.Core.Option.{Option, none, some}
use Prim.Native.Nat.{ℕ, ◌≤◌}
use native.Mathlib.Omega.{arith}
use lib.Dec.{T, leb, ltb, leb→le, ltb→lt}
use Rattle.grammar.specs.Utf8.{Range, within, Row, rows, fits, fits_one, Character, spelling, Utf8, follow}
use Rattle.grammar.specs.Utf8.{utf8_after, utf8}
use Rattle.grammar.proofs.Parse.{true→T}
use Rattle.grammar.proofs.Scan.{T→true, both_T}

pub both : (a b : Bool) → T a → T b → T (a && b)
both true b s t = t
both false b s t = absurd s

-- Octets that fit, and the characters after them.
record Split (rs : List Range) (s : List ℕ) : Type 0 where
  front : List ℕ
  fit : T (fits rs front)
  characters : List Character
  text : front ++ spelling characters ≡ s

-- A row found by a first octet, with octets for its other ranges, is a character.
found_fits : (table : List Row) (c : ℕ) (rs : List Range) (w : List ℕ) → follow table c ≡ some rs → T (fits rs w) →
    T (fits_one table (c ∷ w))
unfolding follow fits fits_one
found_fits [] c rs w e t = let z : ◌≡◌ {A = ℕ} 0 1 = cc in absurd (omega arith)
found_fits (r ∷ table) c rs w e t = go (within r.first c) refl e (λ h. found_fits table c rs w h t)
  where
    go : (b : Bool) → within r.first c ≡ b → cond b (some r.others) (follow table c) ≡ some rs →
        (follow table c ≡ some rs → T (fits_one table (c ∷ w))) → T ((b && fits r.others w) || fits_one table (c ∷ w))
    go true q h ih =
        let o : r.others ≡ rs = cc in
        subst (λ x. T (x || fits_one table (c ∷ w)))
        (sym (T→true (fits r.others w) (subst (λ x. T (fits x w)) (sym o) t))) tt
    go false q h ih = ih h

split : (rs : List Range) (s : List ℕ) → T (utf8_after rs s) → Split rs s
unfolding utf8_after fits spelling
split [] [] t = record { front = []; fit = tt; characters = []; text = refl }
split (r ∷ rs) [] t = absurd t
split [] (c ∷ s) t = go (follow rows c) refl t (λ rs h. split rs s h)
  where
    go : (o : Option (List Range)) → follow rows c ≡ o →
        T (elim o as (λ x. Bool) [ none ↦ false | some rs ↦ utf8_after rs s ]) →
        ((rs : List Range) → T (utf8_after rs s) → Split rs s) → Split [] (c ∷ s)
    go none e h ih = absurd h
    go (some rs) e h ih =
        let y = ih rs h in
        record {
          front = [];
          fit = tt;
          characters =
              record { octets = c ∷ y.front; well_formed = found_fits rows c rs y.front e y.fit } ∷ y.characters;
          text = ap (λ z. c ∷ z) y.text;
        }
split (r ∷ rs) (c ∷ s) t =
    let h = both_T (within r c) (utf8_after rs s) t in
    let y = split rs s h.1 in
    record {
      front = c ∷ y.front;
      fit = both (within r c) (fits rs y.front) h.0 y.fit;
      characters = y.characters;
      text = ap (λ z. c ∷ z) y.text;
    }

pub utf8_sound : (s : List ℕ) → T (utf8 s) → Utf8 s
unfolding utf8 fits
utf8_sound s t =
    let y = split [] s t in
    record { characters = y.characters; text = nothing y.front y.fit (spelling y.characters) ∙ y.text }
  where
    nothing : (w : List ℕ) → T (fits [] w) → (x : List ℕ) → x ≡ w ++ x
    nothing [] u x = refl
    nothing (c ∷ w) u x = absurd u

-- And back: the rows stand in the order of their first octets, which do not overlap.

abbrev above : ℕ → List Row → Bool
above h [] = true
above h (r ∷ rs) = ltb h r.first.low && above h rs

abbrev ordered : List Row → Bool
ordered [] = true
ordered (r ∷ rs) = above r.first.high rs && ordered rs

-- A row that fits begins at or below its first octet.
not_above : (table : List Row) (h c : ℕ) (w : List ℕ) → T (above h table) → c ≤ h → T (fits_one table (c ∷ w)) → ⊥
unfolding fits_one fits
not_above [] h c w a l t = t
not_above (r ∷ table) h c w a l t =
    let u = both_T (ltb h r.first.low) (above h table) a in
    go (within r.first c) refl (λ x. not_above table h c w u.1 l x) t
  where
    go : (b : Bool) → within r.first c ≡ b → (T (fits_one table (c ∷ w)) → ⊥) →
        T ((b && fits r.others w) || fits_one table (c ∷ w)) → ⊥
    go true q ih x =
        let u = both_T (ltb h r.first.low) (above h table) a in
        let v = both_T (leb r.first.low c) (leb c r.first.high) (true→T (within r.first c) q) in
        omega (arith, ltb→lt h r.first.low u.0, leb→le r.first.low c v.0)
    go false q ih x = ih x

record Followed (table : List Row) (c : ℕ) (w : List ℕ) : Type 0 where
  ranges : List Range
  is : follow table c ≡ some ranges
  fit : T (fits ranges w)

fits_followed : (table : List Row) (c : ℕ) (w : List ℕ) → T (ordered table) → T (fits_one table (c ∷ w)) →
    Followed table c w
unfolding follow fits_one fits
fits_followed [] c w o t = absurd t
fits_followed (r ∷ table) c w o t =
    let u = both_T (above r.first.high table) (ordered table) o in
    go (within r.first c) (fits r.others w) refl refl (λ x. fits_followed table c w u.1 x) t
  where
    go : (b d : Bool) → within r.first c ≡ b → fits r.others w ≡ d →
        (T (fits_one table (c ∷ w)) → Followed table c w) → T ((b && d) || fits_one table (c ∷ w)) →
        Followed (r ∷ table) c w
    go true true q p ih x = record { ranges = r.others; is = rw q; fit = true→T (fits r.others w) p }
    go true false q p ih x =
        let u = both_T (above r.first.high table) (ordered table) o in
        let v = both_T (leb r.first.low c) (leb c r.first.high) (true→T (within r.first c) q) in
        absurd (not_above table r.first.high c w u.0 (leb→le c r.first.high v.1) x)
    go false d q p ih x = let y = ih x in record { ranges = y.ranges; is = rw q y.is; fit = y.fit }

after_fits : (rs : List Range) (w s : List ℕ) → T (fits rs w) → utf8_after rs (w ++ s) ≡ utf8_after [] s
unfolding fits utf8_after
after_fits [] [] s t = refl
after_fits [] (c ∷ w) s t = absurd t
after_fits (r ∷ rs) [] s t = absurd t
after_fits (r ∷ rs) (c ∷ w) s t =
    let u = both_T (within r c) (fits rs w) t in
    rw (T→true (within r c) u.0) (after_fits rs w s u.1)

-- One well-formed character is passed over.
pub after_character : (w s : List ℕ) → T (fits_one rows w) → utf8_after [] (w ++ s) ≡ utf8_after [] s
unfolding utf8_after fits_one fits
after_character [] s t = absurd t
after_character (c ∷ w) s t =
    let y = fits_followed rows c w tt t in
    rw (y.is, utf8_after) (after_fits y.ranges w s y.fit)

utf8_spelling : (cs : List Character) → T (utf8_after [] (spelling cs))
unfolding spelling utf8_after
utf8_spelling [] = tt
utf8_spelling (c ∷ cs) = rw (after_character c.octets (spelling cs) c.well_formed) (utf8_spelling cs)

pub utf8_complete : (s : List ℕ) → Utf8 s → T (utf8 s)
unfolding utf8
utf8_complete s u = subst (λ z. T (utf8_after [] z)) u.text (utf8_spelling u.characters)
