-- `hand_out` writes the numbers of one line after the other.
use Rattle.std.proofs.Common.{◌≡◌, map, take}
use Rattle.prelude.specs.Buffer.{written}
use Rattle.parameters.specs.Lines.{laid}
use Rattle.parameters.specs.Inner.Puts.{line_is}
use Rattle.parameters.proofs.lines.Lines.hand_out.Given as goal

abbrev pub invariant-loop-i : goal.invariant-loop-i
invariant-loop-i g l = l.list ≡ written 0 (laid (map line_is (take l.i l.self-inside.lines))) l.initial.list
