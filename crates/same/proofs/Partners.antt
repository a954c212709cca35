-- A right member whose name says what a left one says is its only partner, where no name stands twice; so each left
-- member has its pair exactly where its partner's value is the same.
use mathlib.Core.Path.{◌≡◌, refl, ap, ap₂, sym, subst, ◌∙◌}
use mathlib.Core.Bool.{Bool, true, false, ◌&&◌, ◌||◌, true≢false}
use mathlib.Core.List.{List, [], ◌∷◌, ◌++◌}
use Prim.Native.Nat.{ℕ}
use lib.Dec.{T}
use Rattle.grammar.specs.Places.{Member, Element}
use Rattle.grammar.specs.Spellings.{undo, equal, alike}
use Rattle.grammar.specs.Reader.{as_element, members_at}
use Rattle.grammar.proofs.Spellings.{equal_sound, equal_same}
use Rattle.grammar.proofs.Parse.{true→T}
use Rattle.grammar.proofs.Scan.{T→true}
use Rattle.json_read.specs.declared.member.Row.{Row}
use Rattle.prelude.specs.Any.{any, any_pair}
use Rattle.distinct.specs.Inner.Walking.{row_member}
use Rattle.distinct.proofs.Windows.{any_append, Across, pair_append}
use Rattle.pairs.specs.Inner.Walks.{Partner, NoPartner}
use Rattle.same.specs.Same.{depth, name_at, same_name, repeats, pairs, has_pair, all, inner_at}

same_said : (v w : List ℕ) → alike v w ≡ true → undo v ≡ undo w
unfolding alike
same_said v w e = equal_sound (undo v) (undo w) (true→T (equal (undo v) (undo w)) e)

said_same : (v w : List ℕ) → undo v ≡ undo w → alike v w ≡ true
unfolding alike
said_same v w e = T→true (equal (undo v) (undo w)) (subst (λ z. T (equal (undo v) z)) e (equal_same (undo v)))

left : (a b : Bool) → a && b ≡ true → a ≡ true
left true b h = refl
left false b h = h

or_false : (a b : Bool) → a || b ≡ false → (a ≡ false) × (b ≡ false)
or_false true b e = absurd (true≢false e)
or_false false b e = (refl, e)

-- A test that is true only where another is, which is false of all.
none_pass : {A : Type 0} (f g : A → Bool) → ((x : A) → f x ≡ true → g x ≡ true) → (xs : List A) → any g xs ≡ false →
    any f xs ≡ false
unfolding any
none_pass f g h [] e = refl
none_pass f g h (x ∷ xs) e =
    let o = or_false (g x) (any g xs) e in
    ap₂ (λ a b. a || b) (cases (f x) refl o.0) (none_pass f g h xs o.1)
  where
    cases : (b : Bool) → f x ≡ b → g x ≡ false → f x ≡ false
    cases true e n = absurd (true≢false (sym (h x e) ∙ n))
    cases false e n = e

module _ (inner : Element → Element → Bool) (s t : List ℕ) (m n : Member) (e : same_name s t m n ≡ true) where
  -- Another with the name of m has that of n, which stands before it or behind it.
  like_n : (x : Member) → pairs inner s t m x ≡ true → undo (name_at t x) ≡ undo (name_at t n)
  like_n x h =
      sym (same_said (name_at s m) (name_at t x) (left (same_name s t m x) (inner (as_element m) (as_element x)) h))
      ∙ same_said (name_at s m) (name_at t n) e

  pub only_pair : (xs ys : List Member) → repeats t (xs ++ (n ∷ ys)) ≡ false →
      pairs inner s t m n ≡ has_pair inner s t (xs ++ (n ∷ ys)) m
  unfolding repeats has_pair any any_pair
  only_pair xs ys r =
      let f = pairs inner s t m in
      let o = or_false (any_pair (same_name t t) xs || Across (same_name t t) xs (n ∷ ys)) (any_pair (same_name t t) (n ∷ ys))
      (sym (pair_append (same_name t t) xs (n ∷ ys)) ∙ r) in
      let a = or_false (any_pair (same_name t t) xs) (Across (same_name t t) xs (n ∷ ys)) o.0 in
      let b = or_false (any (λ x. same_name t t x n) xs) (any (λ z. any (λ x. same_name t t x z) xs) ys) a.1 in
      let c = or_false (any (same_name t t n) ys) (any_pair (same_name t t) ys) o.1 in
      let before : any f xs ≡ false =
      none_pass f (λ x. same_name t t x n) (λ x h. said_same (name_at t x) (name_at t n) (like_n x h)) xs b.0 in
      let behind : any f ys ≡ false =
      none_pass f (same_name t t n) (λ x h. said_same (name_at t n) (name_at t x) (sym (like_n x h))) ys c.0 in
      sym (any_append f xs (n ∷ ys) ∙ ap₂ (λ p q. p || (f n || q)) before behind ∙ or_none (f n))
    where
      or_none : (b : Bool) → b || false ≡ b
      or_none true = refl
      or_none false = refl

-- Which of the left members have their pairs, the right object beginning at j.
module _ (l : ℕ) (s t : List ℕ) (j : ℕ) where
  abbrev has : Member → Bool
  has m = has_pair (inner_at l s t) s t (members_at depth t j) m

  -- A left member without a partner by name has none; and one that has such a partner has its pair if the values are the
  -- same.

  pub lone : (m : Member) → NoPartner s t j m → has m ≡ false
  unfolding has_pair
  lone m e =
      none_pass (pairs (inner_at l s t) s t m) (same_name s t m)
      (λ x h. left (same_name s t m x) (inner_at l s t (as_element m) (as_element x)) h) (members_at depth t j) e

  pub by_values : (m : Member) (b : Row) (next : ℕ) → Partner s t j m b next →
      repeats t (members_at depth t j) ≡ false → has m ≡ inner_at l s t (as_element m) (as_element (row_member b))
  by_values m b next p r =
      ap (λ ns. has_pair (inner_at l s t) s t ns m) p.among
      ∙ sym (only_pair (inner_at l s t) s t m (row_member b) p.said p.before p.behind
      (ap (repeats t) (sym p.among) ∙ r))
      ∙ ap (λ (z : Bool). z && inner_at l s t (as_element m) (as_element (row_member b))) p.said

  -- A walk along the left members.
  module _ (rows : List Member) (answer : Bool) (so : all has rows ≡ answer) where
    pub all_end : rows ≡ [] → true ≡ answer
    unfolding all
    all_end e = sym (ap (all has) e) ∙ so

    module _ (m : Member) (others : List Member) (e : rows ≡ m ∷ others) where
      first : has m && all has others ≡ answer
      unfolding all
      first = sym (ap (all has) e) ∙ so

      pub all_lone : has m ≡ false → false ≡ answer
      all_lone h = sym (ap (λ (z : Bool). z && all has others) h) ∙ first

      pub all_on : has m ≡ true → all has others ≡ answer
      all_on h = sym (ap (λ (z : Bool). z && all has others) h) ∙ first
