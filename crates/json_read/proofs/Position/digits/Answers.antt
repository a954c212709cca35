-- `digits` reads one digit and any digits.
use mathlib.Core.Path.{ap, sym, ◌∙◌}
use Rattle.grammar.specs.Grammar.{is_digit}
use Rattle.json_read.proofs.NumberParts.{digits_yes, digits_no}
use Rattle.json_read.proofs.Position.digits.Goals as goal

pub returns-then-is_digit : goal.returns-then-is_digit
returns-then-is_digit c =
    let s = c.args.s.now in
    let at = c.args.self.at in
    digits_yes s at is_digit c.step.result.at c.skip_digits.result.at (sym (c.is_digit.ensures ∙ ap is_digit c.peek.ensures) ∙ c.if-is_digit.true) c.step.ensures c.skip_digits.ensures

pub returns-else-is_digit : goal.returns-else-is_digit
returns-else-is_digit c =
    let s = c.args.s.now in
    let at = c.args.self.at in
    digits_no s at is_digit (sym (c.is_digit.ensures ∙ ap is_digit c.peek.ensures) ∙ c.if-is_digit.false)
