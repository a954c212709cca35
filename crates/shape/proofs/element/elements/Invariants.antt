-- `elements` reads one element after the other: those so far passed, and those from here on decide.
use Prim.Native.Nat.{◌-◌}
use lib.ListN.{length}
use Rattle.shape.proofs.Reading.{Reading}
use Rattle.shape.proofs.element.elements.Given as goal

abbrev pub invariant-loop-i : goal.invariant-loop-i
invariant-loop-i l = Reading l.message l.starts l.i l.initial.into l.into

abbrev pub decreases-loop-i : goal.decreases-loop-i
decreases-loop-i l = length l.starts - l.i
