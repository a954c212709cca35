-- `skip_minus` passes a minus, if one stands here.
use mathlib.Core.Path.{ap, sym, ◌∙◌}
use Rattle.grammar.specs.Grammar.{is_minus}
use Rattle.json_read.proofs.NumberParts.{perhaps_yes, perhaps_no}
use Rattle.json_read.proofs.Position.skip_minus.Goals as goal

pub returns-then-c-orfalse : goal.returns-then-c-orfalse
returns-then-c-orfalse c =
    let s = c.args.s.now in
    let at = c.args.self.at in
    perhaps_yes s at is_minus c.step.result.at (sym (ap is_minus c.peek-c.ensures) ∙ c.if-c-orfalse.true) c.step.ensures

pub returns-else-c-orfalse : goal.returns-else-c-orfalse
returns-else-c-orfalse c =
    let s = c.args.s.now in
    let at = c.args.self.at in
    perhaps_no s at is_minus (sym (ap is_minus c.peek-c.ensures) ∙ c.if-c-orfalse.false)
