-- `value` shows the part of the text that the origin says, and nothing where the place does not fit.
use mathlib.Core.Path.{sym, ◌∙◌}
use Prim.Native.Nat.{◌+◌, ◌≤◌}
use lib.ListN.{length}
use native.Mathlib.Omega.{arith}
use Rattle.shown.proofs.Choosing.{from_header, from_unfit, from_message, from_nothing}
use Rattle.shown.proofs.Choosing.{in_header, out_of_header, in_message_lem, in_nothing}
use Rattle.shown.proofs.value.Goals.{in_default-via-in-0+then-start-header+else-len-header, in_default-via-in-0+else-start-header}
use Rattle.shown.proofs.value.Goals.{in_default-via-in_default+else-origin-lt3}
use Rattle.shown.proofs.value.Goals as goal

pub returns-in-0 : goal.returns-in-0
returns-in-0 c =
    let given = c.args in
    let fitting : given.start + given.len ≤ length given.header.now = omega arith in
    record {
      octets = c.part.ensures.octets
          ∙ sym (from_header given.message.now given.header.now given.origin given.start given.len c.in-0.is);
      place = c.part.ensures.place
          ∙ sym (in_header given.message given.header given.origin given.start given.len c.in-0.is fitting);
    }

pub returns-in-1 : goal.returns-in-1
returns-in-1 c =
    let given = c.args in
    record {
      octets = c.part-in-1.ensures.octets
          ∙ sym (from_message given.message.now given.header.now given.origin given.start given.len (λ z. omega arith) (omega arith));
      place = c.part-in-1.ensures.place
          ∙ sym (in_message_lem given.message given.header given.origin given.start given.len (λ z. omega arith) (omega arith));
    }

pub returns-in_default-clause-octets : goal.returns-in_default-clause-octets
returns-in_default-clause-octets c =
    let given = c.args in
    sym (elim c.in_default.branch [
      | in_default-via-in-0+then-start-header+else-len-header w ↦
          from_unfit given.message.now given.header.now given.origin given.start given.len w.in-0.is (omega (arith, w.if-start-header, w.if-len-header))
      | in_default-via-in-0+else-start-header w ↦
          from_unfit given.message.now given.header.now given.origin given.start given.len w.in-0.is (omega (arith, w.if-start-header))
      | in_default-via-in_default+else-origin-lt3 w ↦
          from_nothing given.message.now given.header.now given.origin given.start given.len (omega (arith, w))
    ])

pub returns-in_default-clause-place : goal.returns-in_default-clause-place
returns-in_default-clause-place c =
    let given = c.args in
    sym (elim c.in_default.branch [
      | in_default-via-in-0+then-start-header+else-len-header w ↦
          out_of_header given.message given.header given.origin given.start given.len w.in-0.is (omega (arith, w.if-start-header, w.if-len-header))
      | in_default-via-in-0+else-start-header w ↦
          out_of_header given.message given.header given.origin given.start given.len w.in-0.is (omega (arith, w.if-start-header))
      | in_default-via-in_default+else-origin-lt3 w ↦
          in_nothing given.message given.header given.origin given.start given.len (omega (arith, w))
    ])
