-- `step` hands out what the reader of members finds.
use Rattle.walk.proofs.Opens.{steps_end, steps_here}
use Rattle.walk.proofs.step.Goals as goal

pub returns-in_default : goal.returns-in_default
returns-in_default c = steps_end _ _ c.in_default.ensures

pub returns : goal.returns
returns c =
    steps_here _ _ _ _ c.in-Some.ensures
