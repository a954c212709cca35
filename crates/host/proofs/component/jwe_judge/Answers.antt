-- `jwe_judge` answers the number of the reader's result.
use mathlib.Core.Path.{ap, sym, ◌∙◌}
use Rattle.jwe.specs.Judge.{call}
use Rattle.jwe.specs.Answers.{as_result}
use Rattle.host.proofs.HandedOut.{number_first}
use Rattle.host.proofs.component.jwe_judge.Goals as goal

pub returns-in-Ok : goal.returns-in-Ok
returns-in-Ok c =
    let given = c.args in
    sym (ap (λ r. (as_result r).number) c.in-Ok.is)
    ∙ number_first (call given.message.now given.known.now given.recipient 4096 576) (as_result c.read.result) c.read.ensures.answered

pub returns-in-Err : goal.returns-in-Err
returns-in-Err c =
    let given = c.args in
    c.number.ensures ∙ sym (ap (λ r. (as_result r).number) c.in-Err.is)
    ∙ number_first (call given.message.now given.known.now given.recipient 4096 576) (as_result c.read.result) c.read.ensures.answered
