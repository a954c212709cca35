-- `string` reads a string: what is left of the scan stays the same from escape to escape.
use Prim.Native.Nat.{◌-◌}
use mathlib.Core.Path.{◌≡◌}
use lib.ListN.{length}
use Rattle.grammar.specs.Reader.{between}
use Rattle.json_read.proofs.StringParts.{scan}
use Rattle.json_read.proofs.Position.string.Given as goal

abbrev pub invariant-loop-at : goal.invariant-loop-at
invariant-loop-at l = scan l.s (between l.half) l.at ≡ scan l.s (between l.initial.half) l.initial.at

abbrev pub decreases-loop-at : goal.decreases-loop-at
decreases-loop-at l = length l.s - l.at
