-- `compare` judges both messages, and answers their refusals or hands the lines out.
use Rattle.std.proofs.Common.{ap, sym, ◌∙◌, inl, inr, not, Result}
use Rattle.prelude.specs.declared.refusal.Refusal.{Refusal}
use Rattle.jwe.specs.declared.Holding.{Holding}
use Rattle.jwe.specs.Answers.{as_holding}
use Rattle.jwe.proofs.Exits.{held_above}
use Rattle.differences.proofs.Answering.{compares_refused, compares_accepted, not_accepted, are_accepted}
use Rattle.differences.proofs.compare.Goals as goal

pub returns-in_default-clause-compares : goal.returns-in_default-clause-compares
returns-in_default-clause-compares c =
    compares_refused c.args.left.now c.args.right.now c.args.known.now c.args.list.now c.hold-l.result c.hold-r.result
    c.hold-l.ensures.number_value c.hold-r.ensures.number_value c.err.ensures.value c.err-2.ensures.value (inl (held_above c.in_default.is))

pub returns-in_default-clause-refused : goal.returns-in_default-clause-refused
returns-in_default-clause-refused c =
    sym (ap not (not_accepted c.args.left.now c.args.right.now c.args.known.now c.args.list.now _ _
    c.hold-l.ensures.number_value c.hold-r.ensures.number_value (inl (held_above c.in_default.is))))

pub returns-in_default-r-clause-compares : goal.returns-in_default-r-clause-compares
returns-in_default-r-clause-compares c =
    compares_refused c.args.left.now c.args.right.now c.args.known.now c.args.list.now c.hold-l.result c.hold-r.result
    c.hold-l.ensures.number_value c.hold-r.ensures.number_value c.err.ensures.value c.err-2.ensures.value (inr (held_above c.in_default-r.is))

pub returns-in_default-r-clause-refused : goal.returns-in_default-r-clause-refused
returns-in_default-r-clause-refused c =
    sym (ap not (not_accepted c.args.left.now c.args.right.now c.args.known.now c.args.list.now _ _
    c.hold-l.ensures.number_value c.hold-r.ensures.number_value (inr (held_above c.in_default-r.is))))

pub returns-clause-compares : goal.returns-clause-compares
returns-clause-compares c =
    let number = λ (x : Result Holding Refusal). (as_holding x).number in
    compares_accepted c.args.left.now c.args.right.now c.args.known.now c.args.list.now _ _ _ c.hand_out.new.list
    c.hold-l.ensures.number_value c.hold-r.ensures.number_value (ap number c.in-Ok.is) (ap number c.in-Ok-r.is) c.hand_out.ensures.answers

pub returns-clause-refused : goal.returns-clause-refused
returns-clause-refused c =
    let number = λ (x : Result Holding Refusal). (as_holding x).number in
    c.hand_out.ensures.accepted
    ∙ sym (ap not (are_accepted c.args.left.now c.args.right.now c.args.known.now c.args.list.now _ _
    c.hold-l.ensures.number_value c.hold-r.ensures.number_value (ap number c.in-Ok.is) (ap number c.in-Ok-r.is)))
