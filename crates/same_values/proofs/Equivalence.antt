-- The relation is symmetric and transitive, for all values, and an object that repeats a name is the same as the same
-- octets only. By induction on the levels of the left value: what stands in it keeps what is to be shown
-- (`with_below`), and one level of the comparison is turned round, or put behind another, clause by clause. Where a
-- name repeats, the octets are the same, and `same_octets` gives what is wanted.
use mathlib.Core.Path.{◌≡◌, sym, ap, ◌∙◌}
use mathlib.Core.List.{List, [], ◌∷◌}
use mathlib.Core.Logic.{inl, inr}
use Prim.Native.Nat.{ℕ, zero, suc, ◌≤◌}
use native.Mathlib.Omega.{arith}
use Rattle.grammar.specs.Grammar.{Value}
use Rattle.grammar.specs.Places.{levels, kind}
use Rattle.grammar.specs.Strings.{SayAlike}
use Rattle.meets.specs.Members.{Member, members_of, elements_of, Some, OneForOne}
use Rattle.meets.proofs.Deciding.{every_map, some_map, some_every}
use Rattle.meets.proofs.Standing.{is_string}
use Rattle.same_values.specs.Same.{own, NamesDistinct, ByName, SameWith, strings, numbers, literals, arrays}
use Rattle.same_values.specs.Same.{objects, repeating, Same}
use Rattle.same_values.proofs.Relation.{with_below, same_is}
use Rattle.same_values.proofs.EachKind.{ObjectsSame, literal_high, with_kind, with_object, with_array}
use Rattle.same_values.proofs.EachKind.{with_string, with_octets}
use Rattle.same_values.proofs.Octets.{same_octets}
use Rattle.same_values.proofs.Pairing.{right_paired}

-- Lists related one for one, turned round and one behind the other.

zip_back : {A B : Type 0} (R : A → B → Type 0) (xs : List A) (ys : List B) → OneForOne R xs ys →
    OneForOne (λ y x. R x y) ys xs
zip_back R [] [] z = tt
zip_back R [] (y ∷ ys) z = absurd z
zip_back R (x ∷ xs) [] z = absurd z
zip_back R (x ∷ xs) (y ∷ ys) z = (z.0, zip_back R xs ys z.1)

zip_join : {A B C : Type 0} (R : A → B → Type 0) (S : B → C → Type 0) (U : A → C → Type 0) →
    ((x : A) (y : B) (z : C) → R x y → S y z → U x z) → (xs : List A) (ys : List B) (zs : List C) →
    OneForOne R xs ys → OneForOne S ys zs → OneForOne U xs zs
zip_join R S U f [] [] [] a b = tt
zip_join R S U f [] [] (z ∷ zs) a b = absurd b
zip_join R S U f [] (y ∷ ys) zs a b = absurd a
zip_join R S U f (x ∷ xs) [] zs a b = absurd a
zip_join R S U f (x ∷ xs) (y ∷ ys) [] a b = absurd b
zip_join R S U f (x ∷ xs) (y ∷ ys) (z ∷ zs) a b =
    (f x y z a.0 b.0, zip_join R S U f xs ys zs a.1 b.1)

-- Turned round

turned : (v w : Value) → SameWith (λ c d. Same d c) v w → Same w v
turned v w (strings x y e f h) = (same_is w v).1 (strings y x f e (sym h))
turned v w (numbers x y e f h) = (same_is w v).1 (numbers y x f e (sym h))
turned v w (literals x e f) = (same_is w v).1 (literals x f e)
turned v w (arrays e f h) = (same_is w v).1 (arrays f e (zip_back (λ c d. Same d c) (elements_of v) (elements_of w) h))
turned v w (objects e f d g n h) =
    (same_is w v).1
    (objects f e g d (sym n) (right_paired (λ c d. Same d c) (members_of v) (members_of w) n d h))
turned v w (repeating e f d h) = same_octets w v (sym h)

symmetric_within : (l : ℕ) (v w : Value) → levels v ≤ l → Same v w → Same w v
symmetric_within zero v w low p =
    turned v w (with_below Same (λ c d. Same d c) v w 0 low (λ c i. absurd (omega arith)) ((same_is v w).0 p))
symmetric_within (suc l) v w low p =
    turned v w
    (with_below Same (λ c d. Same d c) v w (suc l) low (λ c i d. symmetric_within l c d (omega arith))
    ((same_is v w).0 p))

pub same_symmetric : (v w : Value) → Same v w → Same w v
same_symmetric v w = symmetric_within (levels v) v w (omega arith)

-- Objects in which a name repeats

pub repeated_only : (v w : Value) → (NamesDistinct v → ⊥) → kind v ≡ 0 → Same v w → own v ≡ own w
repeated_only v w n k p = elim (with_object Same v w k ((same_is v w).0 p)) [ inl h ↦ absurd (n h.0) | inr h ↦ h.1 ]

-- The same of one on the right.
pub repeated_right : (v w : Value) → (NamesDistinct w → ⊥) → kind w ≡ 0 → Same v w → own v ≡ own w
repeated_right v w n k p = sym (repeated_only w v n k (same_symmetric v w p))

-- Where no name repeats in an object, none does in what is the same.
pub distinct_too : (v w : Value) → kind v ≡ 0 → NamesDistinct v → Same v w → NamesDistinct w
distinct_too v w k d p = elim (with_object Same v w k ((same_is v w).0 p)) [ inl h ↦ h.1 | inr h ↦ absurd (h.0 d) ]

-- One behind the other

-- The left value goes on to all that the right one is the same as.
abbrev Onward : Value → Value → Type 0
Onward c d = (e : Value) → Same d e → Same c e

names_join : (ms ns os : List Member) → ByName Onward ms ns → ByName Same ns os → ByName Same ms os
names_join ms ns os a b =
    every_map (λ m. Some (λ n. SayAlike m.name n.name × Onward m.value n.value) ns)
    (λ m. Some (λ o. SayAlike m.name o.name × Same m.value o.value) os)
    (λ m s. some_every (λ n. SayAlike m.name n.name × Onward m.value n.value)
    (λ n. Some (λ o. SayAlike n.name o.name × Same n.value o.value) os)
    (λ n p. some_map (λ o. SayAlike n.name o.name × Same n.value o.value)
    (λ o. SayAlike m.name o.name × Same m.value o.value)
    (λ o q. (p.0 ∙ q.0, p.1 o.value q.1)) os)
    ns s b)
    ms a

module _ (u v w : Value) (q : SameWith Same v w) where
  objects_joined : kind u ≡ 0 → kind v ≡ 0 → ObjectsSame Onward u v → ObjectsSame Same v w → Same u w
  objects_joined e f (inl a) (inl b) =
      (same_is u w).1
      (objects e (sym (with_kind Same v w q) ∙ f) a.0 b.1 (a.2 ∙ b.2)
      (names_join (members_of u) (members_of v) (members_of w) a.3 b.3))
  objects_joined e f (inl a) (inr b) = absurd (b.0 a.1)
  objects_joined e f (inr a) (inl b) = absurd (a.0 (distinct_too v u f b.0 (same_octets v u (sym a.1))))
  objects_joined e f (inr a) (inr b) = same_octets u w (a.1 ∙ b.1)

  joined : SameWith Onward u v → Same u w
  unfolding kind own
  joined (strings x y e f h) =
      let (z, i, g) = (is_string (SayAlike y) w).0 (with_string Same v w y f q) in
      (same_is u w).1 (strings x z e i (h ∙ g))
  joined (numbers x y e f h) =
      same_octets u w (ap own e ∙ h ∙ sym (ap own f) ∙ with_octets Same v w (omega (arith, ap kind f)) q)
  joined (literals x e f) =
      same_octets u w (ap own (e ∙ sym f) ∙ with_octets Same v w (omega (arith, ap kind f, literal_high x)) q)
  joined (arrays e f h) =
      (same_is u w).1
      (arrays e (sym (with_kind Same v w q) ∙ f)
      (zip_join Onward Same Same (λ c d i a b. a i b) (elements_of u) (elements_of v) (elements_of w) h
      (with_array Same v w f q)))
  joined (objects e f d g n h) = objects_joined e f (inl (d, g, n, h)) (with_object Same v w f q)
  joined (repeating e f d h) = objects_joined e f (inr (d, h)) (with_object Same v w f q)

transitive_within : (l : ℕ) (u v w : Value) → levels u ≤ l → Same u v → Same v w → Same u w
transitive_within zero u v w low p q =
    joined u v w ((same_is v w).0 q)
    (with_below Same Onward u v 0 low (λ c i. absurd (omega arith)) ((same_is u v).0 p))
transitive_within (suc l) u v w low p q =
    joined u v w ((same_is v w).0 q)
    (with_below Same Onward u v (suc l) low (λ c i d a e. transitive_within l c d e (omega arith) a) ((same_is u v).0 p))

pub same_transitive : (u v w : Value) → Same u v → Same v w → Same u w
same_transitive u v w = transitive_within (levels u) u v w (omega arith)
