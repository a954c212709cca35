-- `fraction` reads a point and digits, or nothing.
use mathlib.Core.Path.{ap, sym, ◌∙◌}
use mathlib.Core.Bool.{Bool, false, ◌||◌}
use borrow.Author.Tests.{eq-eqb, ne_eqb}
use Rattle.json_read.proofs.NumberParts.{fraction_yes, fraction_no}
use Rattle.json_read.proofs.Position.fraction.Goals as goal

pub returns-then-peek-eq46 : goal.returns-then-peek-eq46
returns-then-peek-eq46 c =
    let s = c.args.s.now in
    let at = c.args.self.at in
    c.digits.ensures ∙ fraction_yes s at c.step.result.at (ap (λ (b : Bool). b || false) (eq-eqb _ _ (sym c.peek.ensures ∙ c.if-peek-eq46.true))) c.step.ensures

pub returns-else-peek-eq46 : goal.returns-else-peek-eq46
returns-else-peek-eq46 c =
    let s = c.args.s.now in
    let at = c.args.self.at in
    fraction_no s at (ap (λ (b : Bool). b || false) (ne_eqb _ _ (λ e. c.if-peek-eq46.false (c.peek.ensures ∙ e))))
