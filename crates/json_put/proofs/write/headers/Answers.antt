-- `headers` writes one member behind the other.
use Rattle.prelude.specs.Ascii.{ascii}
use Rattle.json_put.specs.Inner.Members.{point}
use Rattle.json_put.proofs.Putting.{next, ◌▸◌, ended}
use Rattle.json_put.proofs.Parts.{head_parts}
use Rattle.json_put.proofs.write.headers.Goals as goal

pub component-first-requires : goal.component-first-requires
unfolding ascii
component-first-requires g c = next (head_parts g.S.Sink.laws (point c.args.to.now c.args.begun) c.args.message.now c.args.many c.requires)

pub header-second-requires : goal.header-second-requires
unfolding ascii
header-second-requires g c =
    next (head_parts g.S.Sink.laws (point c.args.to.now c.args.begun) c.args.message.now c.args.many c.requires ▸ c.component-first.ensures)

pub recipient_members-requires : goal.recipient_members-requires
unfolding ascii
recipient_members-requires g c =
    next
    (head_parts g.S.Sink.laws (point c.args.to.now c.args.begun) c.args.message.now c.args.many c.requires ▸ c.component-first.ensures ▸ c.header-second.ensures)

pub returns : goal.returns
unfolding ascii
returns g c =
    ended
    (head_parts g.S.Sink.laws (point c.args.to.now c.args.begun) c.args.message.now c.args.many c.requires ▸ c.component-first.ensures ▸ c.header-second.ensures
    ▸ c.recipient_members.ensures)
