-- What an octet does to the search, for code that reads a slice: an octet that is no mark is passed over, also many.
use mathlib.Core.Path.{◌≡◌, refl, ap, ap₂, sym, subst, ◌∙◌}
use mathlib.Core.Bool.{Bool, true, false, not, ◌&&◌, ◌||◌, true≢false}
use mathlib.Core.List.{List, [], ◌∷◌}
use Prim.Native.Nat.{ℕ, zero, suc, ◌+◌, ◌≤◌, ◌<◌}
use native.Mathlib.Omega.{arith}
use lib.ListN.{length, drop, get_or, drop_of_length-le, length-drop}
use lib.Seq.{get_or-drop}
use lib.Dec.{eqb}
use borrow.Author.Tests.{ne_eqb}
use Rattle.std.specs.List.{position_or_len}
use Rattle.std.proofs.Common.{inl, inr}
use Rattle.std.proofs.lemmas.Bool.{cases_lt}
use Rattle.std.proofs.lemmas.List.Sums.{prefix_len-le-length, fails_before_first}
use Rattle.prelude.proofs.Lists.{drop_next}
use Rattle.grammar.specs.Grammar.{quote, backslash}
use Rattle.grammar.proofs.Parse.{true→T}
use Rattle.grammar.proofs.Scan.{false_of, both_T, among_all}
use Rattle.skip.specs.Inner.Past.{is_opening, is_closing, is_mark, State, outside, inside, escaped, Turn, partner, go_on}
use Rattle.skip.specs.Inner.Past.{turn, past_in, past_from, Alike}

or_none : (a b : Bool) → (a || b) ≡ false → (a ≡ false) × (b ≡ false)
or_none true b e = absurd (true≢false e)
or_none false b e = (refl, e)

neither : {a b : Bool} → a ≡ false → b ≡ false → (a || (b || false)) ≡ false
neither e f = ap₂ (λ x y. x || (y || false)) e f

-- What is no mark.
record NoMark (c : ℕ) : Type 0 where
  pub quote' : eqb c quote ≡ false
  pub backslash' : eqb c backslash ≡ false
  pub opening : is_opening c ≡ false
  pub closing : is_closing c ≡ false

no_mark : (c : ℕ) → is_mark c ≡ false → NoMark c
no_mark c e =
    let a = or_none (eqb c 34) _ e in
    let b = or_none (eqb c 92) _ a.1 in
    let i = or_none (eqb c 91) _ b.1 in
    let j = or_none (eqb c 93) _ i.1 in
    let k = or_none (eqb c 123) _ j.1 in
    let l = or_none (eqb c 125) _ k.1 in
    record {
      quote' = a.0;
      backslash' = b.0;
      opening = neither i.0 k.0;
      closing = neither j.0 l.0;
    }

-- A closing bracket is nothing else.
pub closing_only : (c : ℕ) → is_closing c ≡ true → (eqb c quote ≡ false) × (is_opening c ≡ false)
closing_only c e =
    let t = among_all (λ x. not (eqb x quote) && not (is_opening x)) (93 ∷ 125 ∷ []) c tt (true→T (is_closing c) e) in
    let u = both_T (not (eqb c quote)) (not (is_opening c)) t in
    (false_of (eqb c quote) u.0, false_of (is_opening c) u.1)

-- What is not allowed where no other bracket is open tells that one is.
pub some_open : (d : ℕ) (b : Bool) → (d ≡ 0 → b ≡ false) → b ≡ true → 0 < d
some_open zero b f e = absurd (true≢false (sym e ∙ f refl))
some_open (suc d) b f e = omega arith

-- What is left after a turn that ends before position p.
abbrev onward : List ℕ → ℕ → Turn → ℕ
onward s p partner = p
onward s p (go_on y) = past_from y s p

module _ (s : List ℕ) (at : ℕ) where
  pub past_end : (x : State) → length s ≤ at → past_from x s at ≡ at
  unfolding past_in
  past_end x h = rw (drop_of_length-le s h)

  module _ (h : at < length s) where
    past_here : (x : State) → past_from x s at ≡ onward s (at + 1) (turn x (get_or s at 0))
    unfolding past_in
    past_here x =
        ap (λ (t : List ℕ). past_in x t at) (drop_next s at (at + 1) refl h) ∙ read (turn x (get_or s at 0))
      where
        read : (t : Turn) →
            elim t as (λ _. ℕ) [ partner ↦ at + 1 | go_on y ↦ past_in y (drop (at + 1) s) (at + 1) ]
            ≡ onward s (at + 1) t
        read partner = refl
        read (go_on y) = refl

    pub past_partner : (x : State) → turn x (get_or s at 0) ≡ partner → past_from x s at ≡ at + 1
    past_partner x e = past_here x ∙ ap (onward s (at + 1)) e

    pub past_goes : (x y : State) → turn x (get_or s at 0) ≡ go_on y → past_from x s at ≡ past_from y s (at + 1)
    past_goes x y e = past_here x ∙ ap (onward s (at + 1)) e

    -- Outside of strings

    pub past_quote : (d : ℕ) → get_or s at 0 ≡ quote → past_from (outside d) s at ≡ past_from (inside d) s (at + 1)
    unfolding turn
    past_quote d e = past_goes (outside d) (inside d) (rw e)

    pub past_closing : (d e : ℕ) → suc e ≡ d → is_closing (get_or s at 0) ≡ true →
        past_from (outside d) s at ≡ past_from (outside e) s (at + 1)
    unfolding turn
    past_closing d e h g =
        let n = closing_only (get_or s at 0) g in
        ap (λ x. past_from (outside x) s at) (sym h)
        ∙ past_goes (outside (suc e)) (outside e) (rw (n.0, n.1, g))

    pub past_closed : is_closing (get_or s at 0) ≡ true → past_from (outside 0) s at ≡ at + 1
    unfolding turn
    past_closed g = let n = closing_only (get_or s at 0) g in past_partner (outside 0) (rw (n.0, n.1, g))

    module _ (q : get_or s at 0 ≡ quote → ⊥) where
      pub past_opening : (d e : ℕ) → e ≡ suc d → is_opening (get_or s at 0) ≡ true →
          past_from (outside d) s at ≡ past_from (outside e) s (at + 1)
      unfolding turn
      past_opening d e h g =
          past_goes (outside d) (outside (suc d)) (rw (ne_eqb _ _ q, g))
          ∙ ap (λ x. past_from (outside x) s (at + 1)) (sym h)

      pub past_other : (d : ℕ) → is_opening (get_or s at 0) ≡ false → is_closing (get_or s at 0) ≡ false →
          past_from (outside d) s at ≡ past_from (outside d) s (at + 1)
      unfolding turn
      past_other d o e = past_goes (outside d) (outside d) (rw (ne_eqb _ _ q, o, e))

    -- In a string

    pub past_unquote : (d : ℕ) → get_or s at 0 ≡ quote → past_from (inside d) s at ≡ past_from (outside d) s (at + 1)
    unfolding turn
    past_unquote d e = past_goes (inside d) (outside d) (rw e)

    pub past_backslash : (d : ℕ) → get_or s at 0 ≡ backslash →
        past_from (inside d) s at ≡ past_from (escaped d) s (at + 1)
    unfolding turn
    past_backslash d e = past_goes (inside d) (escaped d) (rw e)

    pub past_escaped : (d : ℕ) → past_from (escaped d) s at ≡ past_from (inside d) s (at + 1)
    unfolding turn
    past_escaped d = past_goes (escaped d) (inside d) refl

    pub past_char : (d : ℕ) → (get_or s at 0 ≡ quote → ⊥) → (get_or s at 0 ≡ backslash → ⊥) →
        past_from (inside d) s at ≡ past_from (inside d) s (at + 1)
    unfolding turn
    past_char d q b = past_goes (inside d) (inside d) (rw (ne_eqb _ _ q, ne_eqb _ _ b))

    pub alike_one : is_mark (get_or s at 0) ≡ false → Alike s at (at + 1)
    unfolding turn
    alike_one e =
        let n = no_mark (get_or s at 0) e in
        record {
          out = λ d. sym (past_goes (outside d) (outside d) (rw (n.quote', n.opening, n.closing)));
          within = λ d. sym (past_goes (inside d) (inside d) (rw (n.quote', n.backslash')));
        }

pub alike_none : {s : List ℕ} {at : ℕ} → Alike s at at
alike_none = record { out = λ d. refl; within = λ d. refl }

pub alike_then : {s : List ℕ} {a b c : ℕ} → Alike s a b → Alike s b c → Alike s a c
alike_then x y = record { out = λ d. y.out d ∙ x.out d; within = λ d. y.within d ∙ x.within d }

alike_run : (s : List ℕ) (n at e : ℕ) → at + n ≡ e → e ≤ length s →
    ((k : ℕ) → k < n → is_mark (get_or s (at + k) 0) ≡ false) → Alike s at e
alike_run s zero at e p h f =
    let q : at ≡ e = omega arith in
    record {
      out = λ d. ap (past_from (outside d) s) (sym q);
      within = λ d. ap (past_from (inside d) s) (sym q);
    }
alike_run s (suc n) at e p h f =
    let z : at + 0 ≡ at = omega arith in
    alike_then
    (alike_one s at (omega arith) (ap (λ m. is_mark (get_or s m 0)) (sym z) ∙ f 0 (omega arith)))
    (alike_run s n (at + 1) e (omega arith) h (λ k l.
    let m : at + 1 + k ≡ at + suc k = omega arith in
    ap (λ z. is_mark (get_or s z 0)) m ∙ f (suc k) (omega arith)))

-- Up to the first mark, or to the text's end; past the end there is none.
pub alike_unmarked : (s : List ℕ) (at : ℕ) → Alike s at (at + position_or_len is_mark (drop at s))
alike_unmarked s at =
    let n = position_or_len is_mark (drop at s) in
    elim (cases_lt (length s) at) [
      | inl u ↦
          let none : at ≡ at + n = simp (drop_of_length-le s {i = at} (omega arith)) (omega arith) in
          subst (Alike s at) none alike_none
      | inr u ↦
          let size : n ≤ length (drop at s) = prefix_len-le-length (λ c. not (is_mark c)) (drop at s) in
          alike_run s n at (at + n) refl (omega (arith, length-drop at s)) (λ k l.
          ap is_mark (sym (get_or-drop at s k 0)) ∙ fails_before_first is_mark (drop at s) k 0 l)
    ]
