-- One number after the other.
use Prim.Native.Nat.{ℕ, ◌+◌, ◌<◌}
use mathlib.Core.Path.{◌≡◌, refl, ap, ◌∙◌}
use mathlib.Core.Bool.{Bool, true, false}
use mathlib.Core.List.{List}
use lib.ListN.{length, get_or, set, length-set}
use lib.Seq.{get_or-set_same, get_or-set_other}
use lib.Dec.{eqb}
use native.Mathlib.Omega.{arith}
use borrow.Author.Tests.{eqb-true, eqb-false}
use Rattle.distinct.specs.Inner.Filter.{Empty}
use Rattle.distinct.proofs.window.clear.Goals as goal

empty_more : (w : List ℕ) (k : ℕ) → k < length w → Empty w k → Empty (set w k 0) (k + 1)
empty_more w k h f i l = cases (eqb i k) refl
  where
    cases : (t : Bool) → eqb i k ≡ t → get_or (set w k 0) i 0 ≡ 0
    cases true e = ap (λ j. get_or (set w k 0) j 0) (eqb-true i k e) ∙ get_or-set_same w k 0 0 h
    cases false e =
        let n = eqb-false i k e in
        get_or-set_other w k i 0 0 n ∙ f i (omega (arith, n))

pub loop-i-init : goal.loop-i-init
loop-i-init c = ((omega arith, refl), λ i l. absurd (omega (arith, l)))

pub bounds-work-i : goal.bounds-work-i
bounds-work-i c =
    omega (arith, c.loop-i-test.true, c.loop-i.invariant.0.1, c.requires)

pub loop-i-preserved : goal.loop-i-preserved
loop-i-preserved c = (
  (omega (arith, c.loop-i-test.true), length-set c.loop-i.work c.loop-i.i 0 ∙ c.loop-i.invariant.0.1),
  empty_more c.loop-i.work c.loop-i.i (omega (arith, c.loop-i-test.true, c.loop-i.invariant.0.1, c.requires)) c.loop-i.invariant.1,
)

pub shape_of-work : goal.shape_of-work
shape_of-work c = c.loop-i.invariant.0.1

pub returns : goal.returns
returns c =
    λ i l. c.loop-i.invariant.1 i (omega (arith, l, c.loop-i.invariant.0.0, c.loop-i-test.false))
