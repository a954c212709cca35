-- `skip_space` ends where the space ends: what is left to skip stays the same, octet by octet.
use Prim.Native.Nat.{◌-◌}
use mathlib.Core.Path.{◌≡◌}
use lib.ListN.{length}
use Rattle.grammar.specs.Grammar.{is_space}
use Rattle.grammar.specs.Reader.{skip}
use Rattle.json_read.proofs.Position.skip_space.Given as goal

abbrev pub invariant-loop-at : goal.invariant-loop-at
invariant-loop-at l = skip is_space l.s l.initial.at ≡ skip is_space l.s l.at

abbrev pub decreases-loop-at : goal.decreases-loop-at
decreases-loop-at l = length l.s - l.at
