-- What is to come from the two cursors is equal exactly where the wholes are.
use mathlib.Core.Path.{◌≡◌}
use Rattle.grammar.specs.Spellings.{equal, alike}
use Rattle.spelling.specs.Inner.Cursors.{rest, size}
use Rattle.spelling.proofs.alike.Given as goal

abbrev pub invariant-loop-p : goal.invariant-loop-p
invariant-loop-p l = equal (rest l.p) (rest l.q) ≡ alike l.a l.b

abbrev pub decreases-loop-p : goal.decreases-loop-p
decreases-loop-p l = size l.p
