-- `probe_check` hands out what `check` promises, case by case.
use mathlib.Core.Path.{ap, sym, ◌∙◌}
use Rattle.base64url.specs.Answers.{check_number}
use Rattle.probe.proofs.probe_check.Goals as goal

pub returns-in-Ok : goal.returns-in-Ok
returns-in-Ok c = ap check_number (sym c.in-Ok.is ∙ c.check-answer.ensures)

pub returns-in-Err : goal.returns-in-Err
returns-in-Err c = ap check_number (sym c.in-Err.is ∙ c.check-answer.ensures)
