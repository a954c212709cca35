-- `exponent` reads e or E, perhaps a sign, and digits, or nothing.
use mathlib.Core.Path.{ap, sym, ◌∙◌}
use Rattle.grammar.specs.Grammar.{is_e}
use Rattle.json_read.proofs.NumberParts.{exponent_yes, exponent_no}
use Rattle.json_read.proofs.Position.exponent.Goals as goal

pub returns-then-c : goal.returns-then-c
returns-then-c c =
    let s = c.args.s.now in
    let at = c.args.self.at in
    c.digits.ensures ∙ exponent_yes s at c.step.result.at c.skip_sign.result.at (sym (ap is_e c.peek-c.ensures) ∙ c.if-c.true) c.step.ensures c.skip_sign.ensures

pub returns-else-c : goal.returns-else-c
returns-else-c c =
    let s = c.args.s.now in
    let at = c.args.self.at in
    exponent_no s at (sym (ap is_e c.peek-c.ensures) ∙ c.if-c.false)
