-- The alphabet read in its two directions: the value of a value's character is the value, and back.
use mathlib.Core.Path.{◌≡◌, refl, ap₂, sym, subst}
use mathlib.Core.Bool.{Bool, true, false, cond, not, ◌&&◌, ◌||◌, beq}
use mathlib.Core.List.{List, [], ◌∷◌, map}
use Prim.Native.Nat.{ℕ, suc, ◌+◌, ◌-◌, ◌%◌, ◌≤◌, ◌<◌, zero-le, suc-le-suc}
use native.Mathlib.Nat.{le_of_suc-le-suc, not-suc-le-zero}
use lib.ListN.{length, get_or}
use lib.Dec.{T, eqb, leb, ltb, eqb→eq, leb→le}
use borrow.Author.Tests.{eqb-true, lt-ltb}
use Rattle.prelude.specs.Ascii.{ascii}
use Rattle.prelude.specs.Buffer.{AllBelow}
use Rattle.prelude.proofs.Numbers.{below}
use Rattle.base64url.specs.Base64url.{alphabet, character, place_in, six_bits}
use Rattle.base64url.specs.Inner.Step.{near}

pub value_of_character : (v : ℕ) → v < 64 → six_bits (character v) ≡ v
unfolding ascii alphabet character place_in six_bits
value_of_character v h =
    eqb→eq (six_bits (character v)) v (below (λ (n : ℕ). eqb (six_bits (character n)) n) 64 tt v h)

pub place_within : (l : List ℕ) (c : ℕ) → place_in l c ≤ length l
unfolding place_in
place_within [] c = zero-le
place_within (x ∷ rest) c = cases (eqb c x) (place_within rest c)
  where
    cases : (e : Bool) → place_in rest c ≤ length rest → cond e 0 (suc (place_in rest c)) ≤ suc (length rest)
    cases true h = zero-le
    cases false h = suc-le-suc h

-- a character stands at its place
pub stands : (l : List ℕ) (c : ℕ) → place_in l c < length l → get_or l (place_in l c) 0 ≡ c
unfolding place_in
stands [] c h = absurd (not-suc-le-zero h)
stands (x ∷ rest) c h = cases (eqb c x) refl h (stands rest c)
  where
    cases : (e : Bool) → eqb c x ≡ e → cond e 0 (suc (place_in rest c)) < suc (length rest)
        → (place_in rest c < length rest → get_or rest (place_in rest c) 0 ≡ c)
        → get_or (x ∷ rest) (cond e 0 (suc (place_in rest c))) 0 ≡ c
    cases true e h later = sym (eqb-true c x e)
    cases false e h later = later (le_of_suc-le-suc h)

pub value_at_most : (c : ℕ) → six_bits c ≤ 64
unfolding ascii alphabet six_bits
value_at_most c = place_within alphabet c

pub character_of_value : (c : ℕ) → six_bits c < 64 → character (six_bits c) ≡ c
unfolding ascii alphabet character six_bits
character_of_value c h = stands alphabet c h

-- the same over lists

pub values_of_characters : (vs : List ℕ) → AllBelow 64 vs → map six_bits (map character vs) ≡ vs
values_of_characters [] h = refl
values_of_characters (v ∷ vs) h = ap₂ ◌∷◌ (value_of_character v h.0) (values_of_characters vs h.1)

pub characters_of_values : (text : List ℕ) → AllBelow 64 (map six_bits text) → map character (map six_bits text) ≡ text
characters_of_values [] h = refl
characters_of_values (c ∷ rest) h = ap₂ ◌∷◌ (character_of_value c h.0) (characters_of_values rest h.1)

-- The code goes by ranges of characters and of values: tests over all octets, computed

abbrev pub lower : ℕ → Bool
lower c = leb 97 c && leb c 122

abbrev pub upper : ℕ → Bool
upper c = leb 65 c && leb c 90

abbrev pub digit : ℕ → Bool
digit c = leb 48 c && leb c 57

abbrev pub listed : ℕ → Bool
listed c = lower c || upper c || digit c || eqb c 45 || eqb c 95

-- what is done in vectors is right modulo 64
pub value_near : (c : ℕ) → c < 256 → six_bits c < 64 → near c % 64 ≡ six_bits c
unfolding ascii alphabet place_in six_bits near
value_near c h inside =
    eqb→eq (near c % 64) (six_bits c)
    (subst (λ (t : Bool). T (cond t (eqb (near c % 64) (six_bits c)) true)) (lt-ltb (six_bits c) 64 inside)
    (below (λ (n : ℕ). cond (ltb (six_bits n) 64) (eqb (near n % 64) (six_bits n)) true) 256 tt c h))

pub outside_by_range : (c : ℕ) → c < 256 → not (listed c) ≡ leb 64 (six_bits c)
unfolding ascii alphabet place_in six_bits
outside_by_range c h =
    same→eq (not (listed c)) (leb 64 (six_bits c))
    (below (λ (n : ℕ). beq (not (listed n)) (leb 64 (six_bits n))) 256 tt c h)
  where
    same→eq : (a b : Bool) → T (beq a b) → a ≡ b
    same→eq true true t = refl
    same→eq true false t = absurd t
    same→eq false true t = absurd t
    same→eq false false t = refl

-- each difference on the way to a character is one
abbrev pub up_to : ℕ → ℕ
up_to v = v + 71 + cond (eqb v 63) 36 0 - cond (ltb v 26) 6 0

abbrev pub down_to : ℕ → ℕ
down_to v = up_to v - cond (ltb 51 v) 75 0

pub step_one : (v : ℕ) → v < 64 → cond (ltb 51 v) 75 0 ≤ up_to v
step_one v h = leb→le (cond (ltb 51 v) 75 0) (up_to v) (below (λ (n : ℕ). leb (cond (ltb 51 n) 75 0) (up_to n)) 64 tt v h)

pub step_two : (v : ℕ) → v < 64 → cond (eqb v 62) 13 0 ≤ down_to v
step_two v h = leb→le (cond (eqb v 62) 13 0) (down_to v) (below (λ (n : ℕ). leb (cond (eqb n 62) 13 0) (down_to n)) 64 tt v h)

pub character_by_range : (v : ℕ) → v < 64 → down_to v - cond (eqb v 62) 13 0 ≡ character v
unfolding ascii alphabet character
character_by_range v h =
    eqb→eq (down_to v - cond (eqb v 62) 13 0) (character v)
    (below (λ (n : ℕ). eqb (down_to n - cond (eqb n 62) 13 0) (character n)) 64 tt v h)
