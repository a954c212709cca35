-- `member_name` writes the comma, the name between quotes, and the colon.
use Rattle.json_put.specs.Inner.Members.{point}
use Rattle.json_put.proofs.Putting.{next, ◌▸◌, ended}
use Rattle.json_put.proofs.Parts.{name_parts}
use Rattle.json_put.proofs.write.member_name.Goals as goal

pub comma-requires : goal.comma-requires
comma-requires g c = next (name_parts g.S.Sink.laws (point c.args.to.now c.args.begun) c.args.name.now c.requires)

pub octets-requires : goal.octets-requires
octets-requires g c =
    next (name_parts g.S.Sink.laws (point c.args.to.now c.args.begun) c.args.name.now c.requires ▸ c.comma.ensures)

pub octets-requires-2 : goal.octets-requires-2
octets-requires-2 g c =
    next
    (name_parts g.S.Sink.laws (point c.args.to.now c.args.begun) c.args.name.now c.requires ▸ c.comma.ensures ▸ c.octets.ensures)

pub octets-requires-3 : goal.octets-requires-3
octets-requires-3 g c =
    next
    (name_parts g.S.Sink.laws (point c.args.to.now c.args.begun) c.args.name.now c.requires ▸ c.comma.ensures ▸ c.octets.ensures
    ▸ c.octets-2.ensures)

pub returns : goal.returns
returns g c =
    ended
    (name_parts g.S.Sink.laws (point c.args.to.now c.args.begun) c.args.name.now c.requires ▸ c.comma.ensures ▸ c.octets.ensures
    ▸ c.octets-2.ensures ▸ c.octets-3.ensures)
