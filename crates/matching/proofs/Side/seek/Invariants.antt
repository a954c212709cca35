-- `seek` asks one entry after the other.
use Rattle.std.proofs.Common.{◌≡◌, drop}
use Rattle.matching.specs.Matching.{partner}
use Rattle.matching.specs.Inner.Sides.{texts, entries}
use Rattle.matching.proofs.Side.seek.Given as goal

abbrev pub invariant-loop-j : goal.invariant-loop-j
invariant-loop-j l = partner (texts l.self) l.w (drop l.j (entries l.self)) ≡ partner (texts l.self) l.w (drop l.from (entries l.self))
