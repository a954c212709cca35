-- More levels change no answer of the reader of values: by induction on levels and turns.
use mathlib.Core.Path.{◌≡◌, refl, sym, subst}
use mathlib.Core.Bool.{Bool, true, false, cond}
use mathlib.Core.List.{List}
use mathlib.Core.Option.{Option, none, some}
use Prim.Native.Nat.{ℕ, zero, suc, ◌≤◌}
use native.Mathlib.Nat.{not-suc-le-zero, le_of_suc-le-suc}
use native.Mathlib.Omega.{arith}
use lib.ListN.{length}
use lib.Dec.{eqb}
use Rattle.grammar.specs.Grammar.{comma}
use Rattle.grammar.specs.Grammar.{Bracket, curly, square, opening, closing}
use Rattle.grammar.specs.Reader.{octet_at, step, skip_space, Answer, nothing, found}
use Rattle.grammar.specs.Reader.{Before, before_at, value_after, entry_at, after_entry, entries_at, nested_at}
use Rattle.grammar.specs.Reader.{value_with, value_at}

pub not_found : {e k : ℕ} → nothing ≡ found e k → ⊥
not_found p = let z : ◌≡◌ {A = ℕ} 0 1 = cc in omega arith

-- What the first finds, the second finds.
record More (x y : Answer) : Type 0 where
  finds : (e k : ℕ) → x ≡ found e k → y ≡ found e k

more_none : {y : Answer} → More nothing y
more_none = record { finds = λ e k p. absurd (not_found p) }

more_same : (x : Answer) → More x x
more_same x = record { finds = λ e k p. p }

-- The same test chooses for both.
more_either : (b : Bool) {x y x' y' : Answer} → More x x' → More y y' → More (cond b x y) (cond b x' y')
more_either true f g = f
more_either false f g = g

module _ (s : List ℕ) where
  module _ (inner inner' : ℕ → Answer) (more : (at : ℕ) → More (inner at) (inner' at)) (b : Bracket) where
    after_more : (others others' : ℕ → Answer) → ((q : ℕ) → More (others q) (others' q)) → (o : Option Before) →
        More (after_entry b s others (value_after inner o)) (after_entry b s others' (value_after inner' o))
    after_more others others' later none = more_none
    after_more others others' later (some x) = cases (inner x.value) (inner' x.value) (more x.value)
      where
        cases : (r r' : Answer) → More r r' →
            More (after_entry b s others (value_after (λ _. r) (some x)))
            (after_entry b s others' (value_after (λ _. r') (some x)))
        cases nothing r' f = more_none
        cases (found e k) r' f =
            let q = skip_space s e in
            let rest = skip_space s (step s q) in
            let whole = more_either (eqb (octet_at s q) (closing b)) (more_same _)
            (more_either (eqb (octet_at s q) comma) (later rest) (more_same nothing)) in
            subst (λ z. More (after_entry b s others (value_after (λ _. found e k) (some x)))
            (after_entry b s others' (value_after (λ _. z) (some x)))) (sym (f.finds e k refl)) whole

    entries_more : (n at : ℕ) → More (entries_at inner b s n at) (entries_at inner' b s n at)
    unfolding entries_at entry_at
    entries_more zero at = more_none
    entries_more (suc n) at =
        after_more (entries_at inner b s n) (entries_at inner' b s n) (entries_more n) (before_at b s at)

    nested_more : (at : ℕ) → More (nested_at inner b s at) (nested_at inner' b s at)
    unfolding nested_at
    nested_more at =
        let q = skip_space s at in
        more_either (eqb (octet_at s q) (closing b)) (more_same _) (entries_more (length s) q)

  with_more : (nest nest' : Bracket → ℕ → Answer) → ((b : Bracket) (p : ℕ) → More (nest b p) (nest' b p)) → (at c : ℕ) →
      More (value_with nest s at c) (value_with nest' s at c)
  unfolding value_with
  with_more nest nest' more at c =
      more_either (eqb c (opening curly)) (more curly (step s at))
      (more_either (eqb c (opening square)) (more square (step s at)) (more_same _))

  values_more : (l m at : ℕ) → l ≤ m → More (value_at l s at) (value_at m s at)
  unfolding value_at
  values_more zero zero at h = more_same (value_at zero s at)
  values_more zero (suc m) at h =
      with_more (λ b p. nothing) (λ b p. nested_at (value_at m s) b s p) (λ b p. more_none) at (octet_at s at)
  values_more (suc l) zero at h = absurd (not-suc-le-zero h)
  values_more (suc l) (suc m) at h =
      with_more (λ b p. nested_at (value_at l s) b s p) (λ b p. nested_at (value_at m s) b s p)
      (λ b p. nested_more (value_at l s) (value_at m s) (λ q. values_more l m q (le_of_suc-le-suc h)) b p) at
      (octet_at s at)

pub value_more : (l m : ℕ) (s : List ℕ) (at e k : ℕ) → l ≤ m → value_at l s at ≡ found e k → value_at m s at ≡ found e k
value_more l m s at e k h = (values_more s l m at h).finds e k
