-- `character` finds the alphabet's character: no difference on the way goes below 0, and the whole is one test, computed
-- over all values.
use Rattle.base64url.proofs.Alphabet.{step_one, step_two, character_by_range}
use Rattle.base64url.proofs.step.character.Goals as goal

pub overflow_sub-result-2 : goal.overflow_sub-result-2
overflow_sub-result-2 c =
    rw (c.on-3.ensures.value, c.on-2.ensures.value, c.on.ensures.value)
    (step_one c.args.v c.requires)

pub overflow_sub-result-3 : goal.overflow_sub-result-3
overflow_sub-result-3 c =
    rw (
      c.on-4.ensures.value,
      c.on-3.ensures.value,
      c.on-2.ensures.value,
      c.on.ensures.value,
    )
    (step_two c.args.v c.requires)

pub returns : goal.returns
returns c =
    rw (
      c.on-4.ensures.value,
      c.on-3.ensures.value,
      c.on-2.ensures.value,
      c.on.ensures.value,
    )
    (character_by_range c.args.v c.requires)
