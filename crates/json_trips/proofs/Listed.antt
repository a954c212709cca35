-- Tests whose numbers are all of a list: the first that fails has one of them, and of two such lists of tests one after the
-- other none fails exactly where none of each does.
use mathlib.Core.Path.{◌≡◌, refl, ap, ap₂, sym, ◌∙◌}
use mathlib.Core.List.{List, [], ◌∷◌, ◌++◌, flat_map}
use mathlib.Core.Bool.{Bool, true, false, not, ◌&&◌, ◌||◌, cond, true≢false}
use mathlib.Core.Logic.{inl, inr}
use Prim.Native.Nat.{ℕ}
use lib.Dec.{eqb}
use borrow.Author.Tests.{eqb-true, not-false}
use Rattle.prelude.specs.Any.{any}
use Rattle.prelude.specs.Refusals.{Test, first, OneOf}
use Rattle.prelude.proofs.Refusals.{nonzero}
use Rattle.meets.proofs.Deciding.{or_false, any_append}
use Rattle.meets.proofs.Orders.{Numbered}

-- Whether a number is one of a list.

abbrev pub among : List ℕ → ℕ → Bool
among [] n = false
among (m ∷ ms) n = eqb n m || among ms n

one_of : (ns : List ℕ) (n : ℕ) → among ns n ≡ true → OneOf n ns
one_of [] n t = absurd (true≢false (sym t))
one_of (m ∷ ms) n t = cases (eqb n m) refl (one_of ms n) t
  where
    cases : (b : Bool) → eqb n m ≡ b → (among ms n ≡ true → OneOf n ms) → (b || among ms n) ≡ true → OneOf n (m ∷ ms)
    cases true e rest t = inl (eqb-true n m e)
    cases false e rest t = inr (rest t)

-- Whether that of each test is.

abbrev pub outside : List ℕ → Test → Bool
outside ns t = not (among ns t.number)

abbrev pub Listed : List ℕ → List Test → Type 0
Listed ns ts = any (outside ns) ts ≡ false

module _ (ns : List ℕ) where
  pub listed_append : (xs ys : List Test) → Listed ns xs → Listed ns ys → Listed ns (xs ++ ys)
  listed_append xs ys a b = (any_append (outside ns) xs ys).1 (a, b)

  pub listed_flat : {A : Type 0} (f : A → List Test) → ((x : A) → Listed ns (f x)) → (xs : List A) → Listed ns (flat_map f xs)
  unfolding any flat_map
  listed_flat f h [] = refl
  listed_flat f h (x ∷ xs) = listed_append (f x) (flat_map f xs) (h x) (listed_flat f h xs)

  pub first_among : (ts : List Test) → Listed ns ts → (first ts ≡ 0 → ⊥) → OneOf (first ts) ns
  unfolding any first
  first_among [] l n = absurd (n refl)
  first_among (t ∷ ts) l n =
      let h = (or_false (outside ns t) (any (outside ns) ts)).0 l in
      cases t.fails (one_of ns t.number (not-false (among ns t.number) h.0)) (first_among ts h.1) n
    where
      cases : (b : Bool) → OneOf t.number ns → ((first ts ≡ 0 → ⊥) → OneOf (first ts) ns) →
          (cond b t.number (first ts) ≡ 0 → ⊥) → OneOf (cond b t.number (first ts)) ns
      cases true o rest n = o
      cases false o rest n = rest n

  -- Where 0 is not of the list, no test has it.

  not_zero : among ns 0 ≡ false → (t : Test) → outside ns t ≡ false → eqb t.number 0 ≡ false
  not_zero z t l = cases (eqb t.number 0) refl (not-false (among ns t.number) l)
    where
      cases : (b : Bool) → eqb t.number 0 ≡ b → among ns t.number ≡ true → b ≡ false
      cases true e a = absurd (true≢false (sym a ∙ ap (among ns) (eqb-true t.number 0 e) ∙ z))
      cases false e a = refl

  pub listed_numbered : among ns 0 ≡ false → (ts : List Test) → Listed ns ts → Numbered ts
  unfolding any
  listed_numbered z [] l = refl
  listed_numbered z (t ∷ ts) l =
      let h = (or_false (outside ns t) (any (outside ns) ts)).0 l in
      (or_false (eqb t.number 0) (any (λ u. eqb u.number 0) ts)).1 (not_zero z t h.0, listed_numbered z ts h.1)

  pub listed_nonzero : among ns 0 ≡ false → (ts : List Test) → Listed ns ts → nonzero ts ≡ true
  unfolding any
  listed_nonzero z [] l = refl
  listed_nonzero z (t ∷ ts) l =
      let h = (or_false (outside ns t) (any (outside ns) ts)).0 l in
      ap₂ ◌&&◌ (ap not (not_zero z t h.0)) (listed_nonzero z ts h.1)
