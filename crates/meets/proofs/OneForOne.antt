-- What holds along two lists whose elements are related one for one.
use mathlib.Core.Path.{◌≡◌, refl, sym, ap}
use mathlib.Core.List.{List, [], ◌∷◌, ◌++◌, map}
use mathlib.Core.Bool.{Bool, true, false, ◌||◌, true≢false}
use mathlib.Core.Logic.{◌↔◌, ◌⊎◌, inl, inr}
use Prim.Native.Nat.{suc}
use native.Mathlib.Omega.{arith}
use lib.ListN.{length}
use Rattle.grammar.specs.Bounds.{Every}
use Rattle.prelude.specs.Any.{any}
use Rattle.meets.specs.Members.{Some}
pub use Rattle.meets.specs.Members.{OneForOne}

module _ {A B : Type 0} (R : A → B → Type 0) where
  pub zip_length : (xs : List A) (ys : List B) → OneForOne R xs ys → length xs ≡ length ys
  zip_length [] [] z = refl
  zip_length [] (y ∷ ys) z = absurd z
  zip_length (x ∷ xs) [] z = absurd z
  zip_length (x ∷ xs) (y ∷ ys) z = ap suc (zip_length xs ys z.1)

  -- Where one is empty, so is the other.
  pub zip_none : (xs : List A) (ys : List B) → OneForOne R xs ys → (xs ≡ []) ↔ (ys ≡ [])
  zip_none [] [] z = ((λ e. refl), (λ e. refl))
  zip_none [] (y ∷ ys) z = absurd z
  zip_none (x ∷ xs) [] z = absurd z
  zip_none (x ∷ xs) (y ∷ ys) z = (
    (λ e. absurd (omega (arith, ap length e))),
    (λ e. absurd (omega (arith, ap length e))),
  )

  pub zip_append : (xs : List A) (ys : List B) (vs : List A) (ws : List B) → OneForOne R xs ys → OneForOne R vs ws →
      OneForOne R (xs ++ vs) (ys ++ ws)
  zip_append [] [] vs ws z u = u
  zip_append [] (y ∷ ys) vs ws z u = absurd z
  zip_append (x ∷ xs) [] vs ws z u = absurd z
  zip_append (x ∷ xs) (y ∷ ys) vs ws z u = (z.0, zip_append xs ys vs ws z.1 u)

  -- What follows of each pair.
  pub zip_into : (S : A → B → Type 0) → ((x : A) (y : B) → R x y → S x y) → (xs : List A) (ys : List B) →
      OneForOne R xs ys → OneForOne S xs ys
  zip_into S f [] [] z = tt
  zip_into S f [] (y ∷ ys) z = absurd z
  zip_into S f (x ∷ xs) [] z = absurd z
  zip_into S f (x ∷ xs) (y ∷ ys) z = (f x y z.0, zip_into S f xs ys z.1)

  -- Something holds of each on the left exactly where something holds of each on the right.
  module _ (P : A → Type 0) (Q : B → Type 0) (same : (x : A) (y : B) → R x y → P x ↔ Q y) where
    pub zip_every : (xs : List A) (ys : List B) → OneForOne R xs ys → Every P xs ↔ Every Q ys
    zip_every [] [] z = ((λ h. tt), (λ h. tt))
    zip_every [] (y ∷ ys) z = absurd z
    zip_every (x ∷ xs) [] z = absurd z
    zip_every (x ∷ xs) (y ∷ ys) z =
        let one = same x y z.0 in
        let others = zip_every xs ys z.1 in
        ((λ h. (one.0 h.0, others.0 h.1)), (λ h. (one.1 h.0, others.1 h.1)))

    pub zip_some : (xs : List A) (ys : List B) → OneForOne R xs ys → Some P xs ↔ Some Q ys
    zip_some [] [] z = ((λ h. h), (λ h. h))
    zip_some [] (y ∷ ys) z = absurd z
    zip_some (x ∷ xs) [] z = absurd z
    zip_some (x ∷ xs) (y ∷ ys) z =
        let one = same x y z.0 in
        let others = zip_some xs ys z.1 in (
          (λ h. elim h [ inl p ↦ inl (one.0 p) | inr p ↦ inr (others.0 p) ]),
          (λ h. elim h [ inl p ↦ inl (one.1 p) | inr p ↦ inr (others.1 p) ]),
        )

  -- What a test decides of each pair, `any` decides of all.

  module _ (P : A → Type 0) (f : B → Bool) (decides : (x : A) (y : B) → R x y → P x ↔ (f y ≡ true)) where
    pub zip_any : (xs : List A) (ys : List B) → OneForOne R xs ys → Some P xs ↔ (any f ys ≡ true)
    unfolding any
    zip_any [] [] z = ((λ h. absurd h), (λ h. absurd (true≢false (sym h))))
    zip_any [] (y ∷ ys) z = absurd z
    zip_any (x ∷ xs) [] z = absurd z
    zip_any (x ∷ xs) (y ∷ ys) z = cases (f y) (decides x y z.0) (zip_any xs ys z.1)
      where
        cases : (b : Bool) → P x ↔ (b ≡ true) → Some P xs ↔ (any f ys ≡ true) →
            (P x ⊎ Some P xs) ↔ ((b || any f ys) ≡ true)
        cases true one others = ((λ h. refl), (λ e. inl (one.1 refl)))
        cases false one others = (
          (λ h. elim h [ inl p ↦ absurd (true≢false (sym (one.0 p))) | inr p ↦ others.0 p ]),
          (λ e. inr (others.1 e)),
        )

  module _ (P : A → Type 0) (f : B → Bool) (decides : (x : A) (y : B) → R x y → P x ↔ (f y ≡ false)) where
    pub zip_all : (xs : List A) (ys : List B) → OneForOne R xs ys → Every P xs ↔ (any f ys ≡ false)
    unfolding any
    zip_all [] [] z = ((λ h. refl), (λ h. tt))
    zip_all [] (y ∷ ys) z = absurd z
    zip_all (x ∷ xs) [] z = absurd z
    zip_all (x ∷ xs) (y ∷ ys) z = cases (f y) (decides x y z.0) (zip_all xs ys z.1)
      where
        cases : (b : Bool) → P x ↔ (b ≡ false) → Every P xs ↔ (any f ys ≡ false) →
            (P x × Every P xs) ↔ ((b || any f ys) ≡ false)
        cases true one others = ((λ h. absurd (true≢false (one.0 h.0))), (λ e. absurd (true≢false e)))
        cases false one others = ((λ h. others.0 h.1), (λ e. (one.1 refl, others.1 e)))

-- A list that is made of another, on either side.

module _ {A B C : Type 0} (R : C → B → Type 0) (f : A → C) where
  pub zip_map_left : (xs : List A) (ys : List B) → OneForOne (λ x y. R (f x) y) xs ys ↔ OneForOne R (map f xs) ys
  zip_map_left [] [] = ((λ z. z), (λ z. z))
  zip_map_left [] (y ∷ ys) = ((λ z. z), (λ z. z))
  zip_map_left (x ∷ xs) [] = ((λ z. z), (λ z. z))
  zip_map_left (x ∷ xs) (y ∷ ys) =
      let others = zip_map_left xs ys in
      ((λ z. (z.0, others.0 z.1)), (λ z. (z.0, others.1 z.1)))

module _ {A B C : Type 0} (R : A → C → Type 0) (f : B → C) where
  pub zip_map_right : (xs : List A) (ys : List B) → OneForOne (λ x y. R x (f y)) xs ys ↔ OneForOne R xs (map f ys)
  zip_map_right [] [] = ((λ z. z), (λ z. z))
  zip_map_right [] (y ∷ ys) = ((λ z. z), (λ z. z))
  zip_map_right (x ∷ xs) [] = ((λ z. z), (λ z. z))
  zip_map_right (x ∷ xs) (y ∷ ys) =
      let others = zip_map_right xs ys in
      ((λ z. (z.0, others.0 z.1)), (λ z. (z.0, others.1 z.1)))
