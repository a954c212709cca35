-- `next` gives the body that it stands at, and the next one begins where this one's key ends.
use Rattle.std.proofs.Common.{◌+◌, ◌∷◌, length, ap, sym, ◌∙◌, arith, rules}
use Rattle.recipients.specs.declared.Body.{Body}
use Rattle.recipients.specs.Inner.Answers.{body_at, bodies_left}
use Rattle.recipients.proofs.Places.{start_next, lengths_fit, body_fits}
use Rattle.recipients.proofs.Left.{left_next, left_end}
use Rattle.recipients.proofs.bodies.BodiesIterator.next.Goals as goal

pub bounds-self-0 : goal.bounds-self-0
bounds-self-0 c = omega (arith, lengths_fit c.args.self.now.table.now c.args.self.now.sound)

pub returns-then-self-clause-steps : goal.returns-then-self-clause-steps
returns-then-self-clause-steps c =
    let old = c.args.self.now in
    let none = left_end old.table.now old.i (omega (arith, c.if-self.true)) in
    (none, none)

pub overflow_add-self-2 : goal.overflow_add-self-2
unfolding body_at
overflow_add-self-2 c =
    let old = c.args.self.now in
    let end = ap (λ (b : Body). b.key.start + b.key.len) c.recipient-body.ensures in
    omega (arith, end, body_fits old.table.now old.sound old.i (omega (arith, old.within, c.if-self.false)))

pub invariant_of-self : goal.invariant_of-self
unfolding body_at
invariant_of-self c =
    let old = c.args.self.now in
    record {
      sound = old.sound;
      within = omega (arith, old.within, c.if-self.false);
      here = ap (λ (b : Body). b.key.start + b.key.len) c.recipient-body.ensures ∙ sym (start_next old.table.now old.i);
    }

pub returns-clause-steps : goal.returns-clause-steps
returns-clause-steps c =
    let old = c.args.self.now in
    left_next old.table.now old.i (omega (arith, old.within, c.if-self.false))
    ∙ ap (λ (b : Body). b ∷ bodies_left old.table.now (old.i + 1)) (sym c.recipient-body.ensures)

pub returns-clause-goes : goal.returns-clause-goes
returns-clause-goes c =
    let old = c.args.self.now in
    let shorter = ap length (left_next old.table.now old.i (omega (arith, old.within, c.if-self.false))) in
    search rules
