-- `value` is `near`: the choices are those of the definition.
use mathlib.Core.Path.{refl}
use Rattle.base64url.specs.Inner.Step.{near}
use Rattle.base64url.proofs.step.value.Goals as goal

pub returns : goal.returns
unfolding near
returns c =
    rw (
      c.on-4.ensures.value,
      c.on-3.ensures.value,
      c.on-2.ensures.value,
      c.on.ensures.value,
    )
    refl
