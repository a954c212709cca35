-- Tests in order, one list of them after another: none refuses where none of each list does, their numbers being none
-- of them 0. And what holds along lists that are made of others.
use mathlib.Core.Path.{◌≡◌, refl}
use mathlib.Core.Bool.{Bool, true, false, cond}
use mathlib.Core.Logic.{◌↔◌}
use mathlib.Core.List.{List, [], ◌∷◌, ◌++◌, map, flat_map}
use Prim.Native.Nat.{ℕ}
use lib.Dec.{eqb}
use Rattle.grammar.specs.Bounds.{Every}
use Rattle.prelude.specs.Any.{any}
use Rattle.prelude.specs.Refusals.{Test, ◌if◌, first}
use Rattle.meets.proofs.OneForOne.{OneForOne}
use Rattle.meets.proofs.Deciding.{or_false, any_append, first_none, FalseWhere}

-- No test has the number 0.
abbrev pub Numbered : List Test → Type 0
Numbered ts = any (λ t. eqb t.number 0) ts ≡ false

pub numbered_append : (xs ys : List Test) → Numbered xs → Numbered ys → Numbered (xs ++ ys)
numbered_append xs ys n m = (any_append (λ (t : Test). eqb t.number 0) xs ys).1 (n, m)

pub numbered_either : (b : Bool) (xs ys : List Test) → Numbered xs → Numbered ys → Numbered (cond b xs ys)
numbered_either true xs ys n m = n
numbered_either false xs ys n m = m

every_append : (P : Test → Type 0) (xs ys : List Test) → Every P (xs ++ ys) ↔ (Every P xs × Every P ys)
every_append P [] ys = ((λ h. (tt, h)), (λ h. h.1))
every_append P (x ∷ xs) ys =
    let r = every_append P xs ys in
    ((λ h. ((h.0, (r.0 h.1).0), (r.0 h.1).1)), (λ h. (h.0.0, r.1 (h.0.1, h.1))))

-- One list after another.
pub none_append : (xs ys : List Test) → Numbered xs → Numbered ys →
    (first (xs ++ ys) ≡ 0) ↔ ((first xs ≡ 0) × (first ys ≡ 0))
none_append xs ys n m =
    let passes : Test → Type 0 = λ t. t.fails ≡ false in
    let a = first_none (xs ++ ys) (numbered_append xs ys n m) in
    let b = first_none xs n in
    let c = first_none ys m in
    let s = every_append passes xs ys in (
      (λ e. let h = s.0 (a.0 e) in (b.1 h.0, c.1 h.1)),
      (λ e. a.1 (s.1 (b.0 e.0, c.0 e.1))),
    )

-- One test.
pub none_one : (n : ℕ) (b : Bool) → eqb n 0 ≡ false → (first (n if b ∷ []) ≡ 0) ↔ (b ≡ false)
unfolding any
none_one n b e =
    let t = first_none (n if b ∷ []) ((or_false (eqb n 0) false).1 (e, refl)) in
    ((λ h. (t.0 h).0), (λ h. t.1 (h, tt)))

-- A list for each of a list.

module _ {A : Type 0} (f : A → List Test) (n : (x : A) → Numbered (f x)) where
  pub numbered_flat : (xs : List A) → Numbered (flat_map f xs)
  unfolding any flat_map
  numbered_flat [] = refl
  numbered_flat (x ∷ xs) = numbered_append (f x) (flat_map f xs) (n x) (numbered_flat xs)

  pub none_flat : (xs : List A) → (first (flat_map f xs) ≡ 0) ↔ Every (λ x. first (f x) ≡ 0) xs
  unfolding first flat_map
  none_flat [] = ((λ e. tt), (λ h. refl))
  none_flat (x ∷ xs) =
      let a = none_append (f x) (flat_map f xs) (n x) (numbered_flat xs) in
      let r = none_flat xs in (
        (λ e. let h = a.0 e in (h.0, r.0 h.1)),
        (λ h. a.1 (h.0, r.1 h.1)),
      )

-- Lists made of others

module _ {A B : Type 0} (f : A → B) where
  pub every_made : (P : B → Type 0) (xs : List A) → Every P (map f xs) ↔ Every (λ x. P (f x)) xs
  every_made P [] = ((λ h. h), (λ h. h))
  every_made P (x ∷ xs) =
      let r = every_made P xs in ((λ h. (h.0, r.0 h.1)), (λ h. (h.0, r.1 h.1)))

  pub any_made : (g : B → Bool) (xs : List A) → FalseWhere (any g (map f xs)) (Every (λ x. g (f x) ≡ false) xs)
  unfolding any
  any_made g [] = ((λ e. tt), (λ h. refl))
  any_made g (x ∷ xs) =
      let o = or_false (g (f x)) (any g (map f xs)) in
      let r = any_made g xs in (
        (λ e. let h = o.0 e in (h.0, r.0 h.1)),
        (λ h. o.1 (h.0, r.1 h.1)),
      )

-- What holds of each on the left, and three more of each on the right, are together a sentence on each on the left.
module _ {A B : Type 0} (R : A → B → Type 0) (P S : A → Type 0) (U Q W : B → Type 0)
    (same : (x : A) (y : B) → R x y → (S x × (U y × (Q y × W y))) ↔ P x) where
  pub every_together : (xs : List A) (ys : List B) → OneForOne R xs ys →
      (Every S xs × (Every U ys × (Every Q ys × Every W ys))) ↔ Every P xs
  every_together [] [] z = ((λ h. tt), (λ h. (tt, (tt, (tt, tt)))))
  every_together [] (y ∷ ys) z = absurd z
  every_together (x ∷ xs) [] z = absurd z
  every_together (x ∷ xs) (y ∷ ys) z =
      let one = same x y z.0 in
      let others = every_together xs ys z.1 in (
        (λ h. (
          one.0 (h.0.0, (h.1.0.0, (h.1.1.0.0, h.1.1.1.0))),
          others.0 (h.0.1, (h.1.0.1, (h.1.1.0.1, h.1.1.1.1))),
        )),
        (λ h.
            let a = one.1 h.0 in
            let b = others.1 h.1 in
            ((a.0, b.0), ((a.1.0, b.1.0), ((a.1.1.0, b.1.1.0), (a.1.1.1, b.1.1.1))))),
      )
