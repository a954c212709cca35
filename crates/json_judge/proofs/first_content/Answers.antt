-- That of the first recipient, or the one from before.
use mathlib.Core.Path.{ap, sym}
use mathlib.Core.Bool.{Bool, cond}
use borrow.Author.Tests.{eq-eqb, ne_eqb}
use Rattle.json_judge.proofs.first_content.Goals as goal

pub returns-then-i-eq0 : goal.returns-then-i-eq0
returns-then-i-eq0 c =
    let args = c.args in
    sym (ap (λ (z : Bool). cond z args.its args.so_far) (eq-eqb args.i 0 c.if-i-eq0.true))

pub returns-else-i-eq0 : goal.returns-else-i-eq0
returns-else-i-eq0 c =
    let args = c.args in
    sym (ap (λ (z : Bool). cond z args.its args.so_far) (ne_eqb args.i 0 c.if-i-eq0.false))
