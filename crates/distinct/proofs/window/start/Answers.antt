-- The rest of a division is less than what is divided by.
use mathlib.Core.Path.{refl}
use native.Mathlib.Omega.{arith}
use native.Mathlib.Nat.{mod-lt}
use Rattle.distinct.proofs.window.start.Goals as goal

pub returns : goal.returns
returns c = (refl, mod-lt c.args.v (omega (arith, c.requires.0)))
