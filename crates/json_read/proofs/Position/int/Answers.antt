-- `int` reads a zero, or a digit from 1 to 9 and any digits.
use mathlib.Core.Path.{sym, ◌∙◌}
use borrow.Author.Tests.{eq-eqb, ne_eqb}
use Rattle.json_read.proofs.NumberParts.{int_zero, int_other}
use Rattle.json_read.proofs.Position.int.Goals as goal

pub returns-then-peek-eq48 : goal.returns-then-peek-eq48
returns-then-peek-eq48 c =
    let s = c.args.s.now in
    let at = c.args.self.at in
    int_zero s at c.step.result.at (eq-eqb _ _ (sym c.peek.ensures ∙ c.if-peek-eq48.true)) c.step.ensures

pub returns-else-peek-eq48 : goal.returns-else-peek-eq48
returns-else-peek-eq48 c =
    let s = c.args.s.now in
    let at = c.args.self.at in
    c.digits.ensures ∙ int_other s at (ne_eqb _ _ (λ e. c.if-peek-eq48.false (c.peek.ensures ∙ e)))
