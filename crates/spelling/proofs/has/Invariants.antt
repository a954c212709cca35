-- What is to come from the cursor equals what is left of the octets exactly where the wholes are equal.
use mathlib.Core.Path.{◌≡◌}
use lib.ListN.{drop}
use Rattle.grammar.specs.Spellings.{equal, has}
use Rattle.spelling.specs.Inner.Cursors.{rest}
use Rattle.spelling.proofs.has.Given as goal

abbrev pub invariant-loop-c : goal.invariant-loop-c
invariant-loop-c l = equal (rest l.p) (drop l.c-index l.c-items) ≡ has l.a l.w
