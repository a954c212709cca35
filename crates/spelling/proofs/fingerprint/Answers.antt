-- Octet by octet, and the whole stays the same.
use Prim.Native.Nat.{◌+◌}
use mathlib.Core.Path.{ap, sym, ◌∙◌}
use Rattle.std.specs.Prelude.{None}
use Rattle.grammar.specs.Spellings.{between}
use Rattle.spelling.specs.Inner.Fingerprints.{fingerprint_from}
use Rattle.spelling.specs.Inner.Escapes.{half_of, undo_at}
use Rattle.spelling.proofs.Cursors.{undo_plain, undo_end}
use Rattle.spelling.proofs.Fingerprints.{mixed_start, mixed_next, mixed_end}
use Rattle.spelling.proofs.fingerprint.Goals as goal

pub loop-k-init : goal.loop-k-init
loop-k-init c = mixed_start c.args.a.now

pub loop-k-preserved : goal.loop-k-preserved
loop-k-preserved c =
    let a = c.args.a.now in
    let k = c.loop-k.k in
    ap (λ h. fingerprint_from h (undo_at a None (k + 1))) c.mix-print.ensures
    ∙ mixed_next c.loop-k.print _ (undo_at a None (k + 1)) (undo_at a None k) (sym (undo_plain a None k c.loop-k-test.true c.if-c-eq92.false))
    ∙ c.loop-k.invariant

pub returns-then-c-eq92 : goal.returns-then-c-eq92
returns-then-c-eq92 c = c.mix_rest.ensures ∙ ap (fingerprint_from c.loop-k.print) c.new.ensures ∙ c.loop-k.invariant

pub returns : goal.returns
returns c =
    let a = c.args.a.now in
    let k = c.loop-k.k in
    mixed_end c.loop-k.print (undo_at a None k) (sym (undo_end a (between (half_of None)) k c.loop-k-test.false)) ∙ c.loop-k.invariant
