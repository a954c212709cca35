-- The number of a name: by cases on whether the spelling has the first of them.
use mathlib.Core.Path.{◌≡◌, refl, ap, ◌∙◌}
use mathlib.Core.List.{List, [], ◌∷◌}
use mathlib.Core.Bool.{Bool, true, false, cond}
use Prim.Native.Nat.{ℕ, zero, suc, ◌≤◌, ◌<◌}
use native.Mathlib.Omega.{arith}
use lib.ListN.{length, get_or}
use Rattle.grammar.specs.Spellings.{undo, equal, has}
use Rattle.names.specs.Names.{up, number_in, any}

up_none : (n : ℕ) → up n ≡ 0 → n ≡ 0
up_none zero e = refl
up_none (suc n) e = absurd (omega arith)

up_at_most : (n m : ℕ) → n ≤ m → up n ≤ suc m
up_at_most zero m h = omega arith
up_at_most (suc n) m h = omega arith

module _ (v : List ℕ) where
  -- The first name that it has.
  pub number_first : (w : List ℕ) (ws : List (List ℕ)) → has v w ≡ true → number_in (w ∷ ws) v ≡ 1
  unfolding number_in
  number_first w ws e = ap (λ (b : Bool). cond b 1 (up (number_in ws v))) e

  -- A name that it does not have.
  pub number_later : (w : List ℕ) (ws : List (List ℕ)) → has v w ≡ false → number_in (w ∷ ws) v ≡ up (number_in ws v)
  unfolding number_in
  number_later w ws e = ap (λ (b : Bool). cond b 1 (up (number_in ws v))) e

  pub number_at_most : (ws : List (List ℕ)) → number_in ws v ≤ length ws
  unfolding number_in
  number_at_most [] = omega arith
  number_at_most (w ∷ ws) = cases (has v w) (number_at_most ws)
    where
      cases : (b : Bool) → number_in ws v ≤ length ws → cond b 1 (up (number_in ws v)) ≤ suc (length ws)
      cases true h = omega arith
      cases false h = up_at_most (number_in ws v) (length ws) h

  pub none_number : (ws : List (List ℕ)) → any (has v) ws ≡ false → number_in ws v ≡ 0
  unfolding number_in any
  none_number [] e = refl
  none_number (w ∷ ws) e = cases (has v w) e (none_number ws)
    where
      cases : (b : Bool) → cond b true (any (has v) ws) ≡ false → (any (has v) ws ≡ false → number_in ws v ≡ 0) →
          cond b 1 (up (number_in ws v)) ≡ 0
      cases true f ih = absurd (let z : ◌≡◌ {A = ℕ} 0 1 = cc in omega arith)
      cases false f ih = ap up (ih f)

  pub number_none : (ws : List (List ℕ)) → number_in ws v ≡ 0 → any (has v) ws ≡ false
  unfolding number_in any
  number_none [] e = refl
  number_none (w ∷ ws) e = cases (has v w) e (number_none ws)
    where
      cases : (b : Bool) → cond b 1 (up (number_in ws v)) ≡ 0 → (number_in ws v ≡ 0 → any (has v) ws ≡ false) →
          cond b true (any (has v) ws) ≡ false
      cases true f ih = absurd (omega arith)
      cases false f ih = ih (up_none (number_in ws v) f)

  -- The name at a number.
  abbrev Named : List (List ℕ) → ℕ → Type 0
  Named ws i = (i < length ws) × (has v (get_or ws i []) ≡ true)

  named_later : (w : List ℕ) (ws : List (List ℕ)) (n i : ℕ) → up n ≡ suc i → ((j : ℕ) → n ≡ suc j → Named ws j) →
      Named (w ∷ ws) i
  named_later w ws zero i e ih = absurd (omega arith)
  named_later w ws (suc n) zero e ih = absurd (omega arith)
  named_later w ws (suc n) (suc i) e ih = let h = ih i (omega arith) in (omega (arith, h.0), h.1)

  pub number_is : (ws : List (List ℕ)) (i : ℕ) → number_in ws v ≡ suc i → Named ws i
  unfolding number_in
  number_is [] i e = absurd (omega arith)
  number_is (w ∷ ws) i e = cases (has v w) refl e (number_is ws)
    where
      here : (i : ℕ) → has v w ≡ true → ◌≡◌ {A = ℕ} 1 (suc i) → Named (w ∷ ws) i
      here zero t f = (omega arith, t)
      here (suc i) t f = absurd (omega arith)

      cases : (b : Bool) → has v w ≡ b → cond b 1 (up (number_in ws v)) ≡ suc i →
          ((j : ℕ) → number_in ws v ≡ suc j → Named ws j) → Named (w ∷ ws) i
      cases true t f ih = here i t f
      cases false t f ih = named_later w ws (number_in ws v) i f ih

  -- The spelling has no name before it.
  earlier_not : (w : List ℕ) (ws : List (List ℕ)) (n i j : ℕ) → up n ≡ suc i → j < i → has v w ≡ false →
      ((k l : ℕ) → n ≡ suc k → l < k → has v (get_or ws l []) ≡ false) → has v (get_or (w ∷ ws) j []) ≡ false
  earlier_not w ws zero i j e h t ih = absurd (omega arith)
  earlier_not w ws (suc n) zero j e h t ih = absurd (omega arith)
  earlier_not w ws (suc n) (suc i) zero e h t ih = t
  earlier_not w ws (suc n) (suc i) (suc j) e h t ih = ih i j (omega arith) (omega arith)

  pub number_earlier : (ws : List (List ℕ)) (i j : ℕ) → number_in ws v ≡ suc i → j < i → has v (get_or ws j []) ≡ false
  unfolding number_in
  number_earlier [] i j e h = absurd (omega arith)
  number_earlier (w ∷ ws) i j e h = cases (has v w) refl e (number_earlier ws)
    where
      cases : (b : Bool) → has v w ≡ b → cond b 1 (up (number_in ws v)) ≡ suc i →
          ((k l : ℕ) → number_in ws v ≡ suc k → l < k → has v (get_or ws l []) ≡ false) →
          has v (get_or (w ∷ ws) j []) ≡ false
      cases true t f ih = absurd (omega arith)
      cases false t f ih = earlier_not w ws (number_in ws v) i j f h t ih

-- Spellings that undo to the same octets have the same number.
pub number_alike : (v w : List ℕ) → undo v ≡ undo w → (ws : List (List ℕ)) → number_in ws v ≡ number_in ws w
unfolding number_in has
number_alike v w e [] = refl
number_alike v w e (x ∷ xs) =
    ap (λ (u : List ℕ). cond (equal u x) 1 (up (number_in xs v))) e
    ∙ ap (λ (n : ℕ). cond (equal (undo w) x) 1 (up n)) (number_alike v w e xs)
