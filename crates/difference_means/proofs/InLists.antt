-- Which lines are in lists put together: behind each other, of each entry, of each number, or where a test is true.
use mathlib.Core.Path.{◌≡◌, refl, sym, subst}
use mathlib.Core.Bool.{Bool, true, false, false≢true}
use mathlib.Core.Logic.{◌↔◌, ◌⊎◌, inl, inr}
use mathlib.Core.List.{List, [], ◌∷◌, ◌++◌, flat_map}
use Prim.Native.Nat.{ℕ, zero, suc, ◌<◌}
use native.Mathlib.Omega.{arith}
use lib.Dec.{eqb}
use borrow.Author.Tests.{eqb-true, eqb-false}
use Rattle.meets.specs.Members.{Some}
use Rattle.meets.proofs.Deciding.{TrueWhere}
use Rattle.parameters.specs.Lines.{Line, line_if}
use Rattle.differences.specs.Differences.{up_to}
use Rattle.difference_means.specs.Meaning.{In}

module _ {A : Type 0} (P : A → Type 0) where
  pub some_append : (xs ys : List A) → Some P (xs ++ ys) ↔ (Some P xs ⊎ Some P ys)
  some_append [] ys = ((λ s. inr s), (λ s. elim s [ inl a ↦ absurd a | inr b ↦ b ]))
  some_append (x ∷ xs) ys =
      let r = some_append xs ys in (
        (λ s. elim s [ inl a ↦ inl (inl a) | inr b ↦ elim (r.0 b) [ inl c ↦ inl (inr c) | inr d ↦ inr d ] ]),
        (λ s.
            elim s [ inl a ↦ elim a [ inl b ↦ inl b | inr c ↦ inr (r.1 (inl c)) ] | inr d ↦ inr (r.1 (inr d)) ]),
      )

module _ (l : Line) where
  -- Lines behind lines, each side known by a sentence.
  pub in_append : {P Q : Type 0} (xs ys : List Line) → In l xs ↔ P → In l ys ↔ Q → In l (xs ++ ys) ↔ (P ⊎ Q)
  in_append xs ys a b =
      let r = some_append (λ k. k ≡ l) xs ys in (
        (λ s. elim (r.0 s) [ inl u ↦ inl (a.0 u) | inr u ↦ inr (b.0 u) ]),
        (λ s. r.1 (elim s [ inl u ↦ inl (a.1 u) | inr u ↦ inr (b.1 u) ])),
      )

  pub in_each : {A : Type 0} (h : A → List Line) (xs : List A) → In l (flat_map h xs) ↔ Some (λ x. In l (h x)) xs
  unfolding flat_map
  in_each h [] = ((λ s. s), (λ s. s))
  in_each h (x ∷ xs) = in_append (h x) (flat_map h xs) ((λ s. s), (λ s. s)) (in_each h xs)

  pub in_one : (k : Line) → In l (k ∷ []) ↔ (l ≡ k)
  in_one k = ((λ s. elim s [ inl e ↦ sym e | inr z ↦ absurd z ]), (λ e. inl (sym e)))

  pub in_if : {P : Type 0} (b : Bool) (k : Line) → TrueWhere b P → In l (line_if b k) ↔ (P × (l ≡ k))
  in_if true k w = ((λ s. (w.0 refl, (in_one k).0 s)), (λ h. (in_one k).1 h.1))
  in_if false k w = ((λ s. absurd s), (λ h. absurd (false≢true (w.1 h.0))))

  pub in_up_to : (h : ℕ → List Line) (m : ℕ) → In l (up_to h m) ↔ ((n : ℕ) × (n < m) × In l (h n))
  unfolding up_to
  in_up_to h zero = ((λ s. absurd s), (λ t. absurd (omega (arith, t.1))))
  in_up_to h (suc m) =
      let r = in_append (up_to h m) (h m) (in_up_to h m) ((λ s. s), (λ s. s)) in (
        (λ s. elim (r.0 s) [ inl t ↦ (t.0, omega (arith, t.1), t.2) | inr u ↦ (m, omega arith, u) ]),
        (λ t. r.1 (below t.0 t.1 t.2)),
      )
    where
      below : (n : ℕ) → n < suc m → In l (h n) → ((k : ℕ) × (k < m) × In l (h k)) ⊎ In l (h m)
      below n t u = cases (eqb n m) refl
        where
          cases : (b : Bool) → eqb n m ≡ b → ((k : ℕ) × (k < m) × In l (h k)) ⊎ In l (h m)
          cases true e = inr (subst (λ (k : ℕ). In l (h k)) (eqb-true n m e) u)
          cases false e = let other = eqb-false n m e in inl (n, omega arith, u)

-- No line at all.
pub none_in : (ls : List Line) → ((l : Line) → In l ls → ⊥) → ls ≡ []
none_in [] h = refl
none_in (l ∷ ls) h = absurd (h l (inl refl))
