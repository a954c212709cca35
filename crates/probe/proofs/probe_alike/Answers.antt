-- `probe_alike` hands out what `alike` promises, as a number.
use mathlib.Core.Bool.{Bool, cond}
use mathlib.Core.Path.{ap, sym, ◌∙◌}
use Rattle.probe.proofs.probe_alike.Goals as goal

pub returns-then-alike : goal.returns-then-alike
returns-then-alike c = ap (λ (b : Bool). cond b 1 0) (sym c.if-alike.true ∙ c.alike.ensures)

pub returns-else-alike : goal.returns-else-alike
returns-else-alike c = ap (λ (b : Bool). cond b 1 0) (sym c.if-alike.false ∙ c.alike.ensures)
