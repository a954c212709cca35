-- A list of tests refuses as a table says, test by test.
use mathlib.Core.Path.{◌≡◌, refl, sym, subst, ◌∙◌}
use mathlib.Core.Bool.{Bool, true, false, true≢false}
use mathlib.Core.Logic.{◌↔◌, inl, inr}
use mathlib.Core.List.{List, [], ◌∷◌}
use Prim.Native.Nat.{ℕ}
use Rattle.prelude.specs.Refusals.{Test, ◌if◌, first}
use Rattle.meets.proofs.Deciding.{FalseWhere}
use Rattle.refusals.specs.Table.{Table, pass, rule, given, fork, Refuses}

-- A table says one number at most.
pub refuses_once : (t : Table) (k l : ℕ) → Refuses t k → Refuses t l → k ≡ l
unfolding Refuses
refuses_once pass k l a b = a ∙ sym b
refuses_once (rule n P rest) k l (inl a) (inl b) = a.1 ∙ sym b.1
refuses_once (rule n P rest) k l (inl a) (inr b) = absurd (a.0 b.0)
refuses_once (rule n P rest) k l (inr a) (inl b) = absurd (b.0 a.0)
refuses_once (rule n P rest) k l (inr a) (inr b) = refuses_once (rest a.0) k l (a.1 a.0) (b.1 a.0)
refuses_once (given P rest) k l a b = refuses_once (rest a.0) k l (a.1 a.0) (b.1 a.0)
refuses_once (fork P t u) k l (inl a) (inl b) = refuses_once t k l a.1 b.1
refuses_once (fork P t u) k l (inl a) (inr b) = absurd (b.0 a.0)
refuses_once (fork P t u) k l (inr a) (inl b) = absurd (a.0 b.0)
refuses_once (fork P t u) k l (inr a) (inr b) = refuses_once u k l a.1 b.1

-- So a number that a table says is the one that it says.
pub exactly : (t : Table) (n : ℕ) → Refuses t n → (k : ℕ) → (n ≡ k) ↔ Refuses t k
exactly t n r k = ((λ e. subst (Refuses t) e r), (λ s. refuses_once t n k r s))

module _ {P : Type 0} where
  -- A test with its rule.
  pub step : (n : ℕ) (b : Bool) (rest : P → Table) (ts : List Test) → FalseWhere b P →
      ((p : P) → Refuses (rest p) (first ts)) → Refuses (rule n P rest) (first (n if b ∷ ts))
  unfolding Refuses first
  step n true rest ts w f = inl ((λ p. true≢false (w.1 p)), refl)
  step n false rest ts w f = inr (w.0 refl, f)

  -- A rule that is kept without a test.
  pub kept : (n : ℕ) (rest : P → Table) (k : ℕ) → P → ((p : P) → Refuses (rest p) k) → Refuses (rule n P rest) k
  unfolding Refuses
  kept n rest k p f = inr (p, f)

  pub there : (rest : P → Table) (k : ℕ) → P → ((p : P) → Refuses (rest p) k) → Refuses (given P rest) k
  unfolding Refuses
  there rest k p f = (p, f)

-- No test is left.
pub last : Refuses pass (first [])
unfolding Refuses first
last = refl

-- Two tests of one rule.
pub step_two : {P : Type 0} (n : ℕ) (a b : Bool) (rest : P → Table) (ts : List Test) →
    ((a ≡ false) × (b ≡ false)) ↔ P → ((p : P) → Refuses (rest p) (first ts)) →
    Refuses (rule n P rest) (first (n if a ∷ (n if b ∷ ts)))
unfolding Refuses first
step_two n true b rest ts w f = inl ((λ p. true≢false (w.1 p).0), refl)
step_two n false true rest ts w f = inl ((λ p. true≢false (w.1 p).1), refl)
step_two n false false rest ts w f = inr (w.0 (refl, refl), f)

-- Where a sentence holds, and where it does not.

pub where_so : {P : Type 0} (t u : Table) (k : ℕ) → P → Refuses t k → Refuses (fork P t u) k
unfolding Refuses
where_so t u k p r = inl (p, r)

pub where_not : {P : Type 0} (t u : Table) (k : ℕ) → (P → ⊥) → Refuses u k → Refuses (fork P t u) k
unfolding Refuses
where_not t u k n r = inr (n, r)
