-- `number` reads the parts of a number one after the other; a refusal is handed up.
use mathlib.Core.Path.{◌∙◌}
use Rattle.json_read.proofs.NumberParts.{is_ended, is_refused, number_no_int, number_no_fraction, number_exponent}
use Rattle.json_read.proofs.Position.number.Goals as goal

pub returns-in_err-whole : goal.returns-in_err-whole
returns-in_err-whole c =
    let s = c.args.s.now in
    let at = c.args.self.at in
    let told = c.from_residual.ensures in
    told ∙ number_no_int s at c.skip_minus.result.at c.skip_minus.ensures (is_refused _ c.in_err-whole.ensures)

pub returns-in_err-part : goal.returns-in_err-part
returns-in_err-part c =
    let s = c.args.s.now in
    let at = c.args.self.at in
    let told = c.from_residual-in_err-part.ensures in
    told ∙ number_no_fraction s at c.skip_minus.result.at c.skip_minus.ensures c.in_ok-whole.whole.at (is_ended _ c.in_ok-whole.whole c.in_ok-whole.ensures) (is_refused _ c.in_err-part.ensures)

pub returns : goal.returns
returns c =
    let s = c.args.s.now in
    let at = c.args.self.at in
    c.exponent.ensures ∙ number_exponent s at c.skip_minus.result.at c.skip_minus.ensures c.in_ok-whole.whole.at (is_ended _ c.in_ok-whole.whole c.in_ok-whole.ensures) c.in_ok-part.part.at (is_ended _ c.in_ok-part.part c.in_ok-part.ensures)
