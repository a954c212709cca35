-- Something that is kept for each index, one after the other: a loop that sets the n-th place keeps what those below n have.
use Rattle.std.proofs.Common.{◌≡◌, refl, sym, subst, Bool, true, false, List, ℕ, ◌+◌, ◌<◌, length, get_or, arith}
use lib.ListN.{set}
use lib.Dec.{eqb}
use lib.Seq.{get_or-set_same, get_or-set_other}
use borrow.Author.Tests.{eqb-true, eqb-false}

module _ {A : Type 0} (d : A) (P : ℕ → A → Type 0) where
  -- It holds of the indices below n and what stands there.
  abbrev pub Below : ℕ → List A → Type 0
  Below n xs = (k : ℕ) → k < n → P k (get_or xs k d)

  pub below_none : (xs : List A) → Below 0 xs
  below_none xs k h = absurd (omega arith)

  pub below_set : (n : ℕ) (xs : List A) (v : A) → n < length xs → P n v → Below n xs → Below (n + 1) (set xs n v)
  below_set n xs v fits p before k h = cases (eqb k n) refl
    where
      cases : (b : Bool) → eqb k n ≡ b → P k (get_or (set xs n v) k d)
      cases true q =
          let same : n ≡ k = sym (eqb-true k n q) in
          let value : v ≡ get_or (set xs n v) n d = sym (get_or-set_same xs n v d fits) in
          subst (λ (j : ℕ). P j (get_or (set xs n v) j d)) same (subst (P n) value p)
      cases false q =
          let apart = eqb-false k n q in
          subst (P k) (sym (get_or-set_other xs n k v d apart)) (before k (omega arith))
