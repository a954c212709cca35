-- The places from the start of a tag on, one after the other.
use native.Mathlib.Omega.{arith}
use Rattle.distinct.proofs.Windows.{look_start, look_on, look_found, look_free, look_full}
use Rattle.distinct.proofs.window.look.Goals as goal

pub loop-at-init : goal.loop-at-init
loop-at-init c = look_start _ _ _

pub returns-then-x-v : goal.returns-then-x-v
returns-then-x-v c =
    look_found _ _ _ c.loop-at.at c.loop-at.invariant _ c.if-x-v.true

pub returns-then-x-eq0 : goal.returns-then-x-eq0
returns-then-x-eq0 c =
    look_free _ _ _ c.loop-at.at c.loop-at.invariant _ c.loop-at-test.true c.if-x-eq0.true

pub loop-at-preserved : goal.loop-at-preserved
loop-at-preserved c =
    look_on _ _ _ c.loop-at.at c.loop-at.invariant c.if-x-v.false c.if-x-eq0.false

pub returns : goal.returns
returns c =
    look_full _ _ _ c.loop-at.at c.loop-at.invariant _ (omega (arith, c.loop-at-test.false))
