-- The next number is below the size only where this one is.
use Rattle.pairs.proofs.after.Goals as goal

pub returns-then-number-size : goal.returns-then-number-size
returns-then-number-size c = λ h. c.if-number-size.true

pub returns-else-number-size : goal.returns-else-number-size
returns-else-number-size c = λ h. h
