-- What was taken in with what is to come is the fingerprint of the whole.
use mathlib.Core.Path.{◌≡◌}
use Rattle.std.specs.Prelude.{None}
use Rattle.grammar.specs.Spellings.{undo}
use Rattle.spelling.specs.Inner.Fingerprints.{fingerprint_from, fingerprint}
use Rattle.spelling.specs.Inner.Escapes.{undo_at}
use Rattle.spelling.proofs.fingerprint.Given as goal

abbrev pub invariant-loop-k : goal.invariant-loop-k
invariant-loop-k l = fingerprint_from l.print (undo_at l.a None l.k) ≡ fingerprint (undo l.a)
