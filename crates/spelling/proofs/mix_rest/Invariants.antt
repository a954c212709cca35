-- What was taken in with what is to come is the fingerprint of all of it.
use mathlib.Core.Path.{◌≡◌}
use Rattle.spelling.specs.Inner.Fingerprints.{fingerprint_from}
use Rattle.spelling.specs.Inner.Cursors.{rest, size}
use Rattle.spelling.proofs.mix_rest.Given as goal

abbrev pub invariant-loop-c : goal.invariant-loop-c
invariant-loop-c l = fingerprint_from l.h (rest l.p) ≡ fingerprint_from l.initial.h (rest l.initial.p)

abbrev pub decreases-loop-c : goal.decreases-loop-c
decreases-loop-c l = size l.p
