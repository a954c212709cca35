-- `probe_has` hands out what `has` promises, as a number.
use mathlib.Core.Bool.{Bool, cond}
use mathlib.Core.Path.{ap, sym, ◌∙◌}
use Rattle.probe.proofs.probe_has.Goals as goal

pub returns-then-has : goal.returns-then-has
returns-then-has c = ap (λ (b : Bool). cond b 1 0) (sym c.if-has.true ∙ c.has.ensures)

pub returns-else-has : goal.returns-else-has
returns-else-has c = ap (λ (b : Bool). cond b 1 0) (sym c.if-has.false ∙ c.has.ensures)
