-- The first test that fails: of a test and those behind it, of tests as code makes them, of two lists of tests one
-- after the other, and where none fails.
use mathlib.Core.Path.{◌≡◌, refl, ap, sym, ◌∙◌}
use mathlib.Core.Logic.{inl, inr}
use mathlib.Core.List.{List, [], ◌∷◌, ◌++◌, map}
use mathlib.Core.Bool.{Bool, true, false, not, ◌&&◌, ◌||◌, cond, true≢false}
use Prim.Native.Nat.{ℕ, zero, suc}
use lib.Dec.{eqb}
use borrow.Author.Tests.{eq-eqb, ne_eqb}
use Rattle.prelude.specs.Any.{any}
use Rattle.prelude.specs.Refusals.{Test, first, OneOf}

-- A test, and those behind it

module _ (t : Test) (ts : List Test) where
  pub first_fails : t.fails ≡ true → first (t ∷ ts) ≡ t.number
  unfolding first
  first_fails e = ap (λ (b : Bool). cond b t.number (first ts)) e

  pub first_passes : t.fails ≡ false → first (t ∷ ts) ≡ first ts
  unfolding first
  first_passes e = ap (λ (b : Bool). cond b t.number (first ts)) e

-- Tests one after the other, as code makes them

-- The first k pass and the next one fails.
abbrev pub Stops : ℕ → List Test → Type 0
Stops k [] = ⊥
Stops zero (t ∷ ts) = t.fails ≡ true
Stops (suc k) (t ∷ ts) = (t.fails ≡ false) × Stops k ts

-- The number of the test behind the first k.
abbrev pub number_at : ℕ → List Test → ℕ
number_at k [] = 0
number_at zero (t ∷ ts) = t.number
number_at (suc k) (t ∷ ts) = number_at k ts

pub first_stops : (k : ℕ) (ts : List Test) → Stops k ts → first ts ≡ number_at k ts
first_stops k [] h = absurd h
first_stops zero (t ∷ ts) h = first_fails t ts h
first_stops (suc k) (t ∷ ts) h = first_passes t ts h.0 ∙ first_stops k ts h.1

-- All pass.
abbrev pub Passed : List Test → Type 0
Passed [] = Unit {0}
Passed (t ∷ ts) = (t.fails ≡ false) × Passed ts

pub first_passed : (ts : List Test) → Passed ts → first ts ≡ 0
unfolding first
first_passed [] h = refl
first_passed (t ∷ ts) h = first_passes t ts h.0 ∙ first_passed ts h.1

-- Each test has a number other than 0, so that 0 says that none fails. It computes where the numbers are written out.

abbrev pub nonzero : List Test → Bool
nonzero [] = true
nonzero (t ∷ ts) = not (eqb t.number 0) && nonzero ts

left : (a b : Bool) → (a && b) ≡ true → a ≡ true
left true b e = refl
left false b e = e

right : (a b : Bool) → (a && b) ≡ true → b ≡ true
right true b e = e
right false b e = absurd (true≢false (sym e))

both : (a b : Bool) → a ≡ true → b ≡ true → (a && b) ≡ true
both a b p q = ap (λ (x : Bool). x && b) p ∙ q

other : (a : Bool) → not a ≡ true → a ≡ false
other true e = sym e
other false e = refl

pub nonzero_append : (xs ys : List Test) → nonzero xs ≡ true → nonzero ys ≡ true → nonzero (xs ++ ys) ≡ true
nonzero_append [] ys p q = q
nonzero_append (t ∷ xs) ys p q =
    let n = not (eqb t.number 0) in
    both n (nonzero (xs ++ ys)) (left n (nonzero xs) p) (nonzero_append xs ys (right n (nonzero xs) p) q)

-- Two lists of tests, one after the other

pub first_append : (xs ys : List Test) → nonzero xs ≡ true →
    first (xs ++ ys) ≡ cond (eqb (first xs) 0) (first ys) (first xs)
unfolding first
first_append [] ys p = refl
first_append (t ∷ xs) ys p =
    let n = not (eqb t.number 0) in
    cases t.fails (other (eqb t.number 0) (left n (nonzero xs) p)) (first_append xs ys (right n (nonzero xs) p))
  where
    cases : (b : Bool) → eqb t.number 0 ≡ false →
        first (xs ++ ys) ≡ cond (eqb (first xs) 0) (first ys) (first xs) →
        cond b t.number (first (xs ++ ys))
        ≡ cond (eqb (cond b t.number (first xs)) 0) (first ys) (cond b t.number (first xs))
    cases true n rest = sym (ap (λ (z : Bool). cond z (first ys) t.number) n)
    cases false n rest = rest

module _ (xs ys : List Test) (p : nonzero xs ≡ true) where
  pub first_skip : first xs ≡ 0 → first (xs ++ ys) ≡ first ys
  first_skip e = first_append xs ys p ∙ ap (λ (z : Bool). cond z (first ys) (first xs)) (eq-eqb (first xs) 0 e)

  pub first_stop : (first xs ≡ 0 → ⊥) → first (xs ++ ys) ≡ first xs
  first_stop e = first_append xs ys p ∙ ap (λ (z : Bool). cond z (first ys) (first xs)) (ne_eqb (first xs) 0 e)

-- None fails

abbrev pub any_fails : List Test → Bool
any_fails ts = any (λ (t : Test). t.fails) ts

pub none_first : (ts : List Test) → any_fails ts ≡ false → first ts ≡ 0
unfolding first any
none_first [] e = refl
none_first (t ∷ ts) e = cases t.fails e (none_first ts)
  where
    cases : (b : Bool) → (b || any_fails ts) ≡ false → (any_fails ts ≡ false → first ts ≡ 0) →
        cond b t.number (first ts) ≡ 0
    cases true e rest = absurd (true≢false e)
    cases false e rest = rest e

pub first_none : (ts : List Test) → nonzero ts ≡ true → first ts ≡ 0 → any_fails ts ≡ false
unfolding first any
first_none [] p e = refl
first_none (t ∷ ts) p e =
    let n = not (eqb t.number 0) in
    cases t.fails (other (eqb t.number 0) (left n (nonzero ts) p)) e (first_none ts (right n (nonzero ts) p))
  where
    cases : (b : Bool) → eqb t.number 0 ≡ false → cond b t.number (first ts) ≡ 0 →
        (first ts ≡ 0 → any_fails ts ≡ false) → (b || any_fails ts) ≡ false
    cases true n e rest = absurd (true≢false (sym (eq-eqb t.number 0 e) ∙ n))
    cases false n e rest = rest e

-- The number is one of those of the tests

pub first_listed : (ts : List Test) → (first ts ≡ 0 → ⊥) → OneOf (first ts) (map (λ (t : Test). t.number) ts)
unfolding first
first_listed [] n = absurd (n refl)
first_listed (t ∷ ts) n = cases t.fails n (first_listed ts)
  where
    cases : (b : Bool) → (cond b t.number (first ts) ≡ 0 → ⊥) →
        ((first ts ≡ 0 → ⊥) → OneOf (first ts) (map (λ (u : Test). u.number) ts)) →
        OneOf (cond b t.number (first ts)) (t.number ∷ map (λ (u : Test). u.number) ts)
    cases true n rest = inl refl
    cases false n rest = inr (rest n)
