-- Tests and the sentences that they decide: a test over a list decides a sentence on each element of another, where the
-- two lists stand for each other one to one and the test decides the sentence at each.
use mathlib.Core.Path.{◌≡◌, refl, ap, sym, ◌∙◌}
use mathlib.Core.Bool.{Bool, true, false, not, ◌&&◌, ◌||◌, cond, true≢false, false≢true}
use mathlib.Core.Logic.Iff
use mathlib.Core.Logic.{◌↔◌, ◌⊎◌, inl, inr}
use mathlib.Core.List.{List, [], ◌∷◌, ◌++◌}
use Prim.Native.Nat.{ℕ}
use lib.Dec.{eqb}
use borrow.Author.Tests.{not-true, not-false, eqb-true, eqb-false, eq-eqb}
use Rattle.grammar.specs.Bounds.{Every}
use Rattle.prelude.specs.Any.{any, any_pair}
use Rattle.prelude.specs.Refusals.{Test, first}
use Rattle.meets.specs.Members.{Some}
use Rattle.meets.proofs.OneForOne.{OneForOne, zip_any, zip_all}
use Rattle.meets.proofs.Saying.{refuted}

-- A test that is true exactly where a sentence holds ..
abbrev pub TrueWhere : Bool → Type 0 → Type 0
TrueWhere b P = (b ≡ true) ↔ P

-- .. and one that is false exactly where it holds: it refuses what does not keep the sentence.
abbrev pub FalseWhere : Bool → Type 0 → Type 0
FalseWhere b P = (b ≡ false) ↔ P

-- Tests made of tests

module _ {P : Type 0} where
  pub not_where : (b : Bool) → TrueWhere b P → FalseWhere (not b) P
  not_where b w = ((λ e. w.0 (not-false b e)), (λ p. ap not (w.1 p)))

  pub not_none_where : (b : Bool) → TrueWhere b P → TrueWhere (not b) (P → ⊥)
  not_none_where b w = ((λ e. (refuted b w).0 (not-true b e)), (λ n. ap not ((refuted b w).1 n)))

  -- The other way round.
  pub not_false_where : (b : Bool) → FalseWhere b P → FalseWhere (not b) (P → ⊥)
  not_false_where true w = ((λ e p. true≢false (w.1 p)), (λ n. refl))
  not_false_where false w = ((λ e. absurd (true≢false e)), (λ n. absurd (n (w.0 refl))))

  -- A test by another name.
  pub where_is : (a b : Bool) → a ≡ b → FalseWhere b P → FalseWhere a P
  where_is a b e w = ((λ f. w.0 (sym e ∙ f)), (λ p. e ∙ w.1 p))

  -- Only where another test is true, which it is.
  pub where_true : (a b : Bool) → b ≡ true → FalseWhere a P → FalseWhere (a && b) P
  where_true true b e w = ((λ f. w.0 (sym e ∙ f)), (λ p. absurd (true≢false (w.1 p))))
  where_true false b e w = w

module _ {P Q : Type 0} where
  -- Neither refuses.
  pub neither : (a b : Bool) → FalseWhere a P → FalseWhere b Q → FalseWhere (a || b) (P × Q)
  neither true b w v = ((λ e. absurd (true≢false e)), (λ p. w.1 p.0))
  neither false b w v = ((λ e. (w.0 refl, v.0 e)), (λ p. v.1 p.1))

  pub either : (a b : Bool) → TrueWhere a P → TrueWhere b Q → TrueWhere (a || b) (P ⊎ Q)
  either true b w v = ((λ e. inl (w.0 refl)), (λ s. refl))
  either false b w v = (
    (λ e. inr (v.0 e)),
    (λ s. elim s [ inl p ↦ absurd (false≢true (w.1 p)) | inr q ↦ v.1 q ]),
  )

  -- The second is asked where the first is true.
  pub where_asked : (a b : Bool) → TrueWhere a P → (P → FalseWhere b Q) → FalseWhere (a && b) (P → Q)
  where_asked true b w v = ((λ e p. (v p).0 e), (λ f. (v (w.0 refl)).1 (f (w.0 refl))))
  where_asked false b w v = ((λ e p. absurd (false≢true (w.1 p))), (λ f. refl))

pub none_of_three : {P Q R : Type 0} (a b c : Bool) → FalseWhere a P → FalseWhere b Q → FalseWhere c R →
    FalseWhere (a || (b || c)) (P × Q × R)
none_of_three a b c w v u =
    let t = neither a (b || c) w (neither b c v u) in (
      (λ e. let h = t.0 e in (h.0, h.1.0, h.1.1)),
      (λ h. t.1 (h.0, (h.1, h.2))),
    )

pub eqb_where : (m n : ℕ) → TrueWhere (eqb m n) (m ≡ n)
eqb_where m n = (eqb-true m n, eq-eqb m n)

-- Two tests that are false together.
pub or_false : (a b : Bool) → (a || b ≡ false) ↔ ((a ≡ false) × (b ≡ false))
or_false a b = neither a b ((λ e. e), (λ e. e)) ((λ e. e), (λ e. e))

-- Sentences on lists

module _ {A : Type 0} (P Q : A → Type 0) where
  pub every_map : ((x : A) → P x → Q x) → (xs : List A) → Every P xs → Every Q xs
  every_map f [] h = tt
  every_map f (x ∷ xs) h = (f x h.0, every_map f xs h.1)

  pub some_map : ((x : A) → P x → Q x) → (xs : List A) → Some P xs → Some Q xs
  some_map f [] s = s
  some_map f (x ∷ xs) s = elim s [ inl p ↦ inl (f x p) | inr r ↦ inr (some_map f xs r) ]

  -- What follows from one of which something holds that holds of all besides.
  pub some_every : {C : Type 0} → ((x : A) → P x → Q x → C) → (xs : List A) → Some P xs → Every Q xs → C
  some_every f [] s h = absurd s
  some_every f (x ∷ xs) s h = elim s [ inl p ↦ f x p h.0 | inr r ↦ some_every f xs r h.1 ]

  pub every_both : (xs : List A) → Every (λ x. P x × Q x) xs ↔ (Every P xs × Every Q xs)
  every_both [] = ((λ h. (tt, tt)), (λ h. tt))
  every_both (x ∷ xs) = (
    (λ h. let r = (every_both xs).0 h.1 in ((h.0.0, r.0), (h.0.1, r.1))),
    (λ h. ((h.0.0, h.1.0), (every_both xs).1 (h.0.1, h.1.1))),
  )

pub every_three : {A : Type 0} (P Q R : A → Type 0) (xs : List A) →
    Every (λ x. P x × Q x × R x) xs ↔ (Every P xs × Every Q xs × Every R xs)
every_three P Q R [] = ((λ h. (tt, tt, tt)), (λ h. tt))
every_three P Q R (x ∷ xs) = (
  (λ h. let r = (every_three P Q R xs).0 h.1 in ((h.0.0, r.0), (h.0.1, r.1), (h.0.2, r.2))),
  (λ h. ((h.0.0, h.1.0, h.2.0), (every_three P Q R xs).1 (h.0.1, h.1.1, h.2.1))),
)

-- A test of each of a list.

module _ {A : Type 0} (f : A → Bool) (P : A → Type 0) where
  pub any_every : ((x : A) → FalseWhere (f x) (P x)) → (xs : List A) → FalseWhere (any f xs) (Every P xs)
  unfolding any
  any_every w [] = ((λ e. tt), (λ h. refl))
  any_every w (x ∷ xs) = neither (f x) (any f xs) (w x) (any_every w xs)

  pub any_some : ((x : A) → TrueWhere (f x) (P x)) → (xs : List A) → TrueWhere (any f xs) (Some P xs)
  unfolding any
  any_some w [] = ((λ e. absurd (false≢true e)), (λ s. absurd s))
  any_some w (x ∷ xs) = either (f x) (any f xs) (w x) (any_some w xs)

-- Lists that stand for each other

module _ {A B : Type 0} (R : A → B → Type 0) (P : A → Type 0) where
  -- What holds of each on the left holds beside what relates the two.
  pub zip_with : (xs : List A) (ys : List B) → OneForOne R xs ys → Every P xs → OneForOne (λ x y. R x y × P x) xs ys
  zip_with [] [] z h = tt
  zip_with [] (y ∷ ys) z h = absurd z
  zip_with (x ∷ xs) [] z h = absurd z
  zip_with (x ∷ xs) (y ∷ ys) z h = ((z.0, h.0), zip_with xs ys z.1 h.1)

  -- No element is refused; some element passes.
  module _ (f : B → Bool) (xs : List A) (ys : List B) where
    pub every_where : ((x : A) (y : B) → R x y → FalseWhere (f y) (P x)) → OneForOne R xs ys →
        FalseWhere (any f ys) (Every P xs)
    every_where w z = Iff.symm (zip_all R P f (λ x y r. Iff.symm (w x y r)) xs ys z)

    pub some_where : ((x : A) (y : B) → R x y → TrueWhere (f y) (P x)) → OneForOne R xs ys →
        TrueWhere (any f ys) (Some P xs)
    some_where w z = Iff.symm (zip_any R P f (λ x y r. Iff.symm (w x y r)) xs ys z)

pub every_left : {A B : Type 0} (R : A → B → Type 0) (P : A → Type 0) → ((x : A) (y : B) → R x y → P x) →
    (xs : List A) (ys : List B) → OneForOne R xs ys → Every P xs
every_left R P f [] [] z = tt
every_left R P f [] (y ∷ ys) z = absurd z
every_left R P f (x ∷ xs) [] z = absurd z
every_left R P f (x ∷ xs) (y ∷ ys) z = (f x y z.0, every_left R P f xs ys z.1)

pub every_right : {A B : Type 0} (R : A → B → Type 0) (Q : B → Type 0) → ((x : A) (y : B) → R x y → Q y) →
    (xs : List A) (ys : List B) → OneForOne R xs ys → Every Q ys
every_right R Q f [] [] z = tt
every_right R Q f [] (y ∷ ys) z = absurd z
every_right R Q f (x ∷ xs) [] z = absurd z
every_right R Q f (x ∷ xs) (y ∷ ys) z = (f x y z.0, every_right R Q f xs ys z.1)

-- Two of a list

module _ {B : Type 0} (f : B → Bool) where
  pub any_append : (xs ys : List B) → (any f (xs ++ ys) ≡ false) ↔ ((any f xs ≡ false) × (any f ys ≡ false))
  unfolding any
  any_append [] ys = ((λ e. (refl, e)), (λ e. e.1))
  any_append (x ∷ xs) ys = (
    (λ e.
        let h = (or_false (f x) (any f (xs ++ ys))).0 e in
        let r = (any_append xs ys).0 h.1 in
        ((or_false (f x) (any f xs)).1 (h.0, r.0), r.1)),
    (λ e.
        let h = (or_false (f x) (any f xs)).0 e.0 in
        (or_false (f x) (any f (xs ++ ys))).1 (h.0, (any_append xs ys).1 (h.1, e.1))),
  )

module _ {B : Type 0} (g : B → B → Bool) where
  -- One of a list with one of another.
  abbrev pub any_across : List B → List B → Bool
  any_across xs ys = any (λ x. any (g x) ys) xs

  pub pair_append : (xs ys : List B) →
      (any_pair g (xs ++ ys) ≡ false)
      ↔ ((any_pair g xs ≡ false) × (any_across xs ys ≡ false) × (any_pair g ys ≡ false))
  unfolding any any_pair
  pair_append [] ys = ((λ e. (refl, refl, e)), (λ e. e.2))
  pair_append (x ∷ xs) ys = (
    (λ e.
        let h = (or_false (any (g x) (xs ++ ys)) (any_pair g (xs ++ ys))).0 e in
        let a = (any_append (g x) xs ys).0 h.0 in
        let r = (pair_append xs ys).0 h.1 in (
          (or_false (any (g x) xs) (any_pair g xs)).1 (a.0, r.0),
          (or_false (any (g x) ys) (any_across xs ys)).1 (a.1, r.1),
          r.2,
        )),
    (λ e.
        let h = (or_false (any (g x) xs) (any_pair g xs)).0 e.0 in
        let a = (or_false (any (g x) ys) (any_across xs ys)).0 e.1 in
        (or_false (any (g x) (xs ++ ys)) (any_pair g (xs ++ ys))).1
        ((any_append (g x) xs ys).1 (h.0, a.0), (pair_append xs ys).1 (h.1, a.1, e.2))),
  )

  pub across_append : (xs ys zs : List B) →
      (any_across xs (ys ++ zs) ≡ false) ↔ ((any_across xs ys ≡ false) × (any_across xs zs ≡ false))
  unfolding any
  across_append [] ys zs = ((λ e. (refl, refl)), (λ e. refl))
  across_append (x ∷ xs) ys zs = (
    (λ e.
        let h = (or_false (any (g x) (ys ++ zs)) (any_across xs (ys ++ zs))).0 e in
        let a = (any_append (g x) ys zs).0 h.0 in
        let r = (across_append xs ys zs).0 h.1 in (
          (or_false (any (g x) ys) (any_across xs ys)).1 (a.0, r.0),
          (or_false (any (g x) zs) (any_across xs zs)).1 (a.1, r.1),
        )),
    (λ e.
        let h = (or_false (any (g x) ys) (any_across xs ys)).0 e.0 in
        let i = (or_false (any (g x) zs) (any_across xs zs)).0 e.1 in
        (or_false (any (g x) (ys ++ zs)) (any_across xs (ys ++ zs))).1
        ((any_append (g x) ys zs).1 (h.0, i.0), (across_append xs ys zs).1 (h.1, i.1))),
  )

  -- None passes with another where all are of a sort that does not.
  module _ (Q : B → Type 0) (w : (x y : B) → Q x → Q y → g x y ≡ false) where
    no_other_lem : (x : B) → Q x → (ys : List B) → Every Q ys → any (g x) ys ≡ false
    unfolding any
    no_other_lem x q [] h = refl
    no_other_lem x q (y ∷ ys) h = (or_false (g x y) (any (g x) ys)).1 (w x y q h.0, no_other_lem x q ys h.1)

    pub no_pair : (xs : List B) → Every Q xs → any_pair g xs ≡ false
    unfolding any_pair
    no_pair [] h = refl
    no_pair (x ∷ xs) h =
        (or_false (any (g x) xs) (any_pair g xs)).1 (no_other_lem x h.0 xs h.1, no_pair xs h.1)

-- Tests in order: none refuses where each is false, their numbers being none of them 0.
pub first_none : (ts : List Test) → any (λ t. eqb t.number 0) ts ≡ false →
    (first ts ≡ 0) ↔ Every (λ t. t.fails ≡ false) ts
unfolding any first
first_none [] n = ((λ e. tt), (λ h. refl))
first_none (t ∷ ts) n =
    let m = (or_false (eqb t.number 0) (any (λ t. eqb t.number 0) ts)).0 n in
    cases t.fails (first_none ts m.1) (eqb-false t.number 0 m.0)
  where
    cases : (b : Bool) → (first ts ≡ 0) ↔ Every (λ t. t.fails ≡ false) ts → (t.number ≡ 0 → ⊥) →
        (cond b t.number (first ts) ≡ 0) ↔ ((b ≡ false) × Every (λ t. t.fails ≡ false) ts)
    cases true r m = ((λ e. absurd (m e)), (λ h. absurd (true≢false h.0)))
    cases false r m = ((λ e. (refl, r.0 e)), (λ h. r.1 h.1))
