-- `after_unit` goes by the halves, as the definition does.
use mathlib.Core.Path.{sym, ◌∙◌}
use Rattle.json_read.proofs.string.after_unit.Goals as goal

pub returns-then-low : goal.returns-then-low
returns-then-low c = simp (c.if-half.true, (sym c.is_low-low.ensures ∙ c.if-low.true))

pub returns-then-half : goal.returns-then-half
returns-then-half c = simp (c.if-half.true, (sym c.is_low-low.ensures ∙ c.if-low.false))

pub returns-then-low-2 : goal.returns-then-low-2
returns-then-low-2 c = simp (c.if-half.false, (sym c.is_low-low.ensures ∙ c.if-low-2.true))

pub returns : goal.returns
returns c = simp (c.if-half.false, (sym c.is_low-low.ensures ∙ c.if-low-2.false), c.is_high-waits.ensures)
