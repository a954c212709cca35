-- Tests one after the other, as the definitions combine them.
use mathlib.Core.Path.{◌≡◌, refl, ap, ap₂, sym, ◌∙◌}
use mathlib.Core.Bool.{Bool, true, false, not, ◌&&◌, ◌||◌, cond, false≢true}
use mathlib.Core.List.{List, [], ◌∷◌}
use Prim.Native.Nat.{ℕ, zero, suc, ◌-◌}
use native.Mathlib.Omega.{arith}
use lib.Dec.{eqb}
use lib.ListN.{length}
use borrow.Author.Tests.{eq-eqb, ne_eqb}
use Rattle.grammar.specs.Places.{Member, Element}
use Rattle.grammar.specs.Spellings.{equal, alike}
use Rattle.grammar.specs.Reader.{members_at, elements_at, elements_of, as_element}
use Rattle.same.specs.Same.{depth, all, own_at, spelled_at, same_name, repeats, same_elements, pairs, has_pair}
use Rattle.same.specs.Same.{same_members, same_kind, same_with, same_at, inner_at}
use Rattle.same.specs.Inner.Walking.{is_none}

pub first_no : (m n : ℕ) (b : Bool) → (m ≡ n → ⊥) → false ≡ eqb m n && b
first_no m n b h = ap (λ (z : Bool). z && b) (sym (ne_eqb m n h))

module _ (m n : ℕ) (h : m ≡ n) (a b : Bool) where
  pub second_no : a ≡ false → false ≡ eqb m n && (a && b)
  second_no e = ap₂ (λ (y z : Bool). y && (z && b)) (sym (eq-eqb m n h)) (sym e)

  pub third : a ≡ true → b ≡ eqb m n && (a && b)
  third e = ap₂ (λ (y z : Bool). y && (z && b)) (sym (eq-eqb m n h)) (sym e)

-- One level of the comparison.

pub same_unfolds : (l : ℕ) (s t : List ℕ) (x y : Element) → same_at l s t x y ≡ same_with (inner_at l s t) s t x y
unfolding same_at
same_unfolds zero s t x y = refl
same_unfolds (suc l) s t x y = refl

pub inner_less : (l : ℕ) (s t : List ℕ) (x y : Element) → (l ≡ 0 → ⊥) → inner_at l s t x y ≡ same_at (l - 1) s t x y
inner_less zero s t x y n = absurd (n refl)
inner_less (suc l) s t x y n = ap (λ k. same_at k s t x y) (omega arith)

pub inner_none : (l : ℕ) (s t : List ℕ) (x y : Element) → l ≡ 0 → inner_at l s t x y ≡ false
inner_none l s t x y e = ap (λ k. inner_at k s t x y) e

module _ (l : ℕ) (s t : List ℕ) (x y : Element) where
  abbrev own : Bool
  own = equal (own_at s x) (own_at t y)

  abbrev by_kind_lem : Bool
  by_kind_lem = same_kind (inner_at l s t) s t x y

  pub octets_same : own ≡ true → true ≡ same_at l s t x y
  unfolding same_with
  octets_same e =
      sym (same_unfolds l s t x y ∙ ap (λ (z : Bool). z || (eqb x.kind y.kind && by_kind_lem)) e)

  module _ (e : own ≡ false) where
    pub kinds_differ : (x.kind ≡ y.kind → ⊥) → false ≡ same_at l s t x y
    unfolding same_with
    kinds_differ n =
        sym (same_unfolds l s t x y
        ∙ ap₂ (λ (a b : Bool). a || (b && by_kind_lem)) e (ne_eqb x.kind y.kind n))

    module _ (k : x.kind ≡ y.kind) where
      pub by_kind : by_kind_lem ≡ same_at l s t x y
      unfolding same_with
      by_kind =
          sym (same_unfolds l s t x y
          ∙ ap₂ (λ (a b : Bool). a || (b && by_kind_lem)) e (eq-eqb x.kind y.kind k))

      abbrev o : Bool
      o = same_members (inner_at l s t) s t (members_at depth s x.start) (members_at depth t y.start)

      abbrev a : Bool
      a = same_elements (inner_at l s t) (elements_at depth s x.start) (elements_at depth t y.start)

      abbrev w : Bool
      w = alike (spelled_at s x) (spelled_at t y)

      pub of_objects : x.kind ≡ 0 → o ≡ same_at l s t x y
      unfolding same_kind
      of_objects h =
          sym (ap (λ (n : ℕ). cond (eqb n 0) o (cond (eqb n 1) a (cond (eqb n 2) w false))) h) ∙ by_kind

      pub of_arrays : x.kind ≡ 1 → a ≡ same_at l s t x y
      unfolding same_kind
      of_arrays h =
          sym (ap (λ (n : ℕ). cond (eqb n 0) o (cond (eqb n 1) a (cond (eqb n 2) w false))) h) ∙ by_kind

      pub of_strings : x.kind ≡ 2 → w ≡ same_at l s t x y
      unfolding same_kind
      of_strings h =
          sym (ap (λ (n : ℕ). cond (eqb n 0) o (cond (eqb n 1) a (cond (eqb n 2) w false))) h) ∙ by_kind

      pub of_others : (x.kind ≡ 0 → ⊥) → (x.kind ≡ 1 → ⊥) → (x.kind ≡ 2 → ⊥) → false ≡ same_at l s t x y
      unfolding same_kind
      of_others f g h =
          sym (ap (λ (z : Bool). cond z o (cond (eqb x.kind 1) a (cond (eqb x.kind 2) w false)))
          (ne_eqb x.kind 0 f)
          ∙ ap₂ (λ (p q : Bool). cond p a (cond q w false)) (ne_eqb x.kind 1 g) (ne_eqb x.kind 2 h))
          ∙ by_kind

-- Objects, by whether they can be compared.

module _ (inner : Element → Element → Bool) (s t : List ℕ) (ms ns : List Member) where
  abbrev able : Bool
  able = eqb (length ms) (length ns) && (not (repeats s ms) && not (repeats t ns))

  and_three : (a b c d : Bool) → a && (b && (c && d)) ≡ (a && (b && c)) && d
  and_three true true c d = refl
  and_three true false c d = refl
  and_three false b c d = refl

  whole : same_members inner s t ms ns ≡ able && all (has_pair inner s t ns) ms
  unfolding same_members
  whole = and_three (eqb (length ms) (length ns)) (not (repeats s ms)) (not (repeats t ns)) (all (has_pair inner s t ns) ms)

  pub objects_not : able ≡ false → false ≡ same_members inner s t ms ns
  objects_not e = sym (whole ∙ ap (λ (z : Bool). z && all (has_pair inner s t ns) ms) e)

  pub objects_able : able ≡ true → all (has_pair inner s t ns) ms ≡ same_members inner s t ms ns
  objects_able e = sym (whole ∙ ap (λ (z : Bool). z && all (has_pair inner s t ns) ms) e)

  -- The right one has no name twice.
  pub able_right : able ≡ true → repeats t ns ≡ false
  able_right e = cases (eqb (length ms) (length ns)) (not (repeats s ms)) (repeats t ns) e
    where
      cases : (a b c : Bool) → a && (b && not c) ≡ true → c ≡ false
      cases true true true e = absurd (false≢true e)
      cases true true false e = refl
      cases true false c e = absurd (false≢true e)
      cases false b c e = absurd (false≢true e)

-- A pair.

module _ (l : ℕ) (s t : List ℕ) (m n : Member) where
  pub pair_other : same_name s t m n ≡ false → false ≡ pairs (inner_at l s t) s t m n
  pair_other e = sym (ap (λ (z : Bool). z && inner_at l s t (as_element m) (as_element n)) e)

  module _ (e : same_name s t m n ≡ true) where
    pair_is : pairs (inner_at l s t) s t m n ≡ inner_at l s t (as_element m) (as_element n)
    pair_is = ap (λ (z : Bool). z && inner_at l s t (as_element m) (as_element n)) e

    pub pair_deep : l ≡ 0 → false ≡ pairs (inner_at l s t) s t m n
    pair_deep h = sym (pair_is ∙ inner_none l s t (as_element m) (as_element n) h)

    pub pair_same : (l ≡ 0 → ⊥) → same_at (l - 1) s t (as_element m) (as_element n) ≡ pairs (inner_at l s t) s t m n
    pair_same h = sym (pair_is ∙ inner_less l s t (as_element m) (as_element n) h)

-- Elements, one after the other.

module _ (inner : Element → Element → Bool) where
  abbrev in_order : List Member → List Member → Bool
  in_order ms ns = same_elements inner (elements_of ms) (elements_of ns)

  pub order_end : (ms ns : List Member) → ms ≡ [] → is_none ns ≡ in_order ms ns
  unfolding elements_of same_elements
  order_end ms ns e = over ns ∙ sym (ap (λ z. in_order z ns) e)
    where
      over : (ns : List Member) → is_none ns ≡ in_order [] ns
      over [] = refl
      over (n ∷ ns) = refl

  module _ (ms ns : List Member) (m : Member) (others : List Member) (e : ms ≡ m ∷ others) where
    pub order_short : ns ≡ [] → false ≡ in_order ms ns
    unfolding elements_of same_elements
    order_short f = sym (ap₂ in_order e f)

    module _ (n : Member) (rest : List Member) (f : ns ≡ n ∷ rest) where
      order_both : in_order ms ns ≡ inner (as_element m) (as_element n) && in_order others rest
      unfolding elements_of same_elements
      order_both = ap₂ in_order e f

      pub order_differs : inner (as_element m) (as_element n) ≡ false → false ≡ in_order ms ns
      order_differs g = sym (order_both ∙ ap (λ (z : Bool). z && in_order others rest) g)

      pub order_on : inner (as_element m) (as_element n) ≡ true → in_order others rest ≡ in_order ms ns
      order_on g = sym (order_both ∙ ap (λ (z : Bool). z && in_order others rest) g)
