-- Octet by octet, and the whole stays the same.
use mathlib.Core.Path.{ap, sym, ◌∙◌}
use Rattle.spelling.specs.Inner.Fingerprints.{fingerprint_from}
use Rattle.spelling.specs.Inner.Cursors.{rest}
use Rattle.spelling.proofs.Fingerprints.{mixed_next, mixed_end}
use Rattle.spelling.proofs.mix_rest.Goals as goal

pub loop-c-preserved : goal.loop-c-preserved
loop-c-preserved c =
    ap (λ h. fingerprint_from h (rest c.next.new.self)) c.mix-h.ensures
    ∙ mixed_next c.loop-c.h c.in-Some.c (rest c.next.new.self) (rest c.loop-c.p) (sym c.in-Some.ensures.0) ∙ c.loop-c.invariant

pub returns : goal.returns
returns c = mixed_end c.loop-c.h (rest c.loop-c.p) (sym c.in_default.ensures) ∙ c.loop-c.invariant
