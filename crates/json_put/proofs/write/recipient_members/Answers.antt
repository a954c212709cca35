-- `recipient_members` writes `recipients`, or the members of the first recipient.
use Rattle.std.proofs.Common.{List, ℕ, sym, subst, arith}
use Rattle.recipients.proofs.Places.{start_first, sound_some, lengths_fit}
use Rattle.json_put.specs.Inner.Members.{point, Room, Puts}
use Rattle.json_put.proofs.Members.{flat_members}
use Rattle.json_put.proofs.write.recipient_members.Goals as goal

pub bounds-table-0 : goal.bounds-table-0
bounds-table-0 g c =
    omega (arith, lengths_fit c.args.message.now.recipients.now c.args.message.now.sound)

pub recipient-body-requires-clause-i_bound : goal.recipient-body-requires-clause-i_bound
recipient-body-requires-clause-i_bound g c =
    omega (arith, sound_some c.args.message.now.recipients.now c.args.message.now.sound)

pub recipient-body-requires-clause-start_value : goal.recipient-body-requires-clause-start_value
recipient-body-requires-clause-start_value g c = sym (start_first c.args.message.now.recipients.now)

pub own-requires : goal.own-requires
own-requires g c =
    let m = c.args.message.now in
    subst (λ (l : List (List ℕ)). Room g.S.Sink.fits (point c.args.to.now c.args.begun) l)
    (flat_members m.recipients.now m.sound c.args.many c.if-many.false c.recipient-body.result c.recipient-body.ensures) c.requires

pub returns : goal.returns
returns g c =
    let m = c.args.message.now in
    subst (λ (l : List (List ℕ)). Puts g.S.Sink.gains (point c.args.to.now c.args.begun) l (point c.own.new.to c.own.result))
    (sym (flat_members m.recipients.now m.sound c.args.many c.if-many.false c.recipient-body.result c.recipient-body.ensures))
    c.own.ensures
