-- What both have there is taken from both.
use mathlib.Core.Path.{subst₂}
use Rattle.spelling.specs.Inner.Escapes.{Common}
use Rattle.spelling.proofs.Compare.{common_rest}
use Rattle.spelling.proofs.past_common.Goals as goal

pub returns-clause-same : goal.returns-clause-same
returns-clause-same c =
    let left = c.in-Some-Some.ensures in
    let right = c.in-Some-Some.ensures' in
    let common = subst₂ (λ v w. Common v w c.common-k.result) left.2 right.2 c.common-k.ensures in
    common_rest _ _ _ _ _ _ _ _ _ _ _ left.0 right.0 left.1 right.1 common
