-- At the end nothing is left.
use mathlib.Core.Path.{◌∙◌}
use Rattle.utf8.proofs.Utf8Parts.{all_walked}
use Rattle.utf8.proofs.utf8.Goals as goal

pub returns : goal.returns
returns c =
    c.is_some.ensures ∙ all_walked c.args.s.now c.walk.result c.walk.ensures.reaches ∙ c.walk.ensures.result_value ∙ c.loop-at.invariant.1
