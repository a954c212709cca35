-- `counted` tells no element from some.
use mathlib.Core.Path.{ap, sym}
use mathlib.Core.Bool.{Bool, cond}
use borrow.Author.Tests.{eq-eqb, ne_eqb}
use Rattle.prelude.specs.Refusals.{Passed, Refused}
use Rattle.shape.proofs.element.counted.Goals as goal

pub returns-then-count-eq0 : goal.returns-then-count-eq0
returns-then-count-eq0 c =
    sym (ap (λ (b : Bool). cond b (Refused 10) (Passed c.args.count)) (eq-eqb _ _ c.if-count-eq0.true))

pub returns : goal.returns
returns c =
    sym (ap (λ (b : Bool). cond b (Refused 10) (Passed c.args.count)) (ne_eqb _ _ c.if-count-eq0.false))
