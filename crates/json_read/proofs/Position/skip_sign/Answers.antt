-- `skip_sign` passes a plus or a minus, if one stands here.
use mathlib.Core.Path.{ap, sym, ◌∙◌}
use Rattle.grammar.specs.Grammar.{is_plus_minus}
use Rattle.json_read.proofs.NumberParts.{perhaps_yes, perhaps_no}
use Rattle.json_read.proofs.Position.skip_sign.Goals as goal

pub returns-then-c : goal.returns-then-c
returns-then-c c =
    let s = c.args.s.now in
    let at = c.args.self.at in
    perhaps_yes s at is_plus_minus c.step.result.at (sym (ap is_plus_minus c.peek-c.ensures) ∙ c.if-c.true) c.step.ensures

pub returns-else-c : goal.returns-else-c
returns-else-c c =
    let s = c.args.s.now in
    let at = c.args.self.at in
    perhaps_no s at is_plus_minus (sym (ap is_plus_minus c.peek-c.ensures) ∙ c.if-c.false)
