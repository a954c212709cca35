-- `value` reads three of an entry's numbers; the kind is an octet.
use Rattle.std.proofs.Common.{refl, arith}
use Rattle.matching.proofs.Side.value.Goals as goal

pub overflow_cast-result : goal.overflow_cast-result
overflow_cast-result c = omega (arith, c.requires.kind_bound, c.field-3.ensures.value)

pub returns : goal.returns
returns c = rw (c.field.ensures.value, c.field-2.ensures.value, c.field-3.ensures.value) refl
