-- `misspelled` answers by the check of the component's text.
use mathlib.Core.Path.{sym, ◌∙◌}
use Rattle.headers.specs.Answers.{place_of}
use Rattle.headers.proofs.Faults.{checked, empty_spelled}
use Rattle.headers.proofs.misspelled.Goals as goal

pub returns-then-place-eq0 : goal.returns-then-place-eq0
returns-then-place-eq0 c =
    let args = c.args in
    sym (empty_spelled args.message.now (place_of args.place) c.if-place-eq0.true)

pub returns : goal.returns
returns c =
    let args = c.args in
    c.is_err.ensures.value ∙ checked args.message.now (place_of args.place) _ _ c.part.ensures.octets c.check.ensures
