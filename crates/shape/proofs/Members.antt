-- 10 on one member, by the answers to the questions that the definitions ask: each law takes the
-- answers, those that a return of the code knows being written out and the others being what they are.
use mathlib.Core.Path.{◌≡◌, ap₂, sym, ◌∙◌}
use mathlib.Core.Bool.{Bool, false, not, ◌&&◌, ◌||◌, cond}
use mathlib.Core.List.{List}
use Prim.Native.Nat.{ℕ}
use lib.Dec.{eqb}
use Rattle.rows.specs.Rows.{Entry, numbered}
use Rattle.shape.specs.Shape.{wrong_component, wrong_header, wrong_member, wrong_in_element}

module _ (message : List ℕ) (e : Entry) where
  pub member_is : (z u h r : Bool) → eqb e.number 0 ≡ z → numbered 2 e ≡ u → numbered 3 e ≡ h → numbered 5 e ≡ r →
      cond z false
      (cond (u || h) (wrong_header message e) (cond r (not (eqb e.member.kind 1)) (wrong_component message e)))
      ≡ wrong_member message e
  unfolding wrong_member
  member_is z u h r p q s t =
      sym (ap₂
      (λ (x y : Bool). cond x false
      (cond (y || numbered 3 e) (wrong_header message e)
      (cond (numbered 5 e) (not (eqb e.member.kind 1)) (wrong_component message e))))
      p
      q
      ∙ ap₂
      (λ (x y : Bool). cond z false
      (cond (u || x) (wrong_header message e) (cond y (not (eqb e.member.kind 1)) (wrong_component message e))))
      s
      t)

  pub in_element_is : (h k : Bool) → numbered 3 e ≡ h → numbered 4 e ≡ k →
      ((h || k) && wrong_member message e) ≡ wrong_in_element message e
  in_element_is h k p q = sym (ap₂ (λ (x y : Bool). (x || y) && wrong_member message e) p q)
