-- A bound that is asked either way.
use mathlib.Core.Path.{◌≡◌, refl, ap, sym}
use mathlib.Core.Bool.{Bool, true, false, cond}
use Prim.Native.Nat.{ℕ}
use lib.Dec.{leb, ltb}
use borrow.Author.Tests.{leb-true, leb-false, le-ltb, lt-ltb}

-- What is within a bound is not over it.
pub either_way : {A : Type 0} (most n : ℕ) (x y : A) → cond (leb n most) x y ≡ cond (ltb most n) y x
either_way {A} most n x y = cases (leb n most) refl
  where
    cases : (b : Bool) → leb n most ≡ b → cond b x y ≡ cond (ltb most n) y x
    cases true t = sym (ap (λ (z : Bool). cond z y x) (le-ltb most n (leb-true n most t)))
    cases false t = sym (ap (λ (z : Bool). cond z y x) (lt-ltb most n (leb-false n most t)))
