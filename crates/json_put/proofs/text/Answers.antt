-- `text` writes the members between brackets.
use Rattle.json_put.proofs.Putting.{next, ◌▸◌, ended}
use Rattle.json_put.proofs.Parts.{text_parts}
use Rattle.json_put.proofs.text.Goals as goal

pub octets-requires : goal.octets-requires
octets-requires g c = next (text_parts g.S.Sink.laws c.args.to.now c.args.message.now c.args.general c.requires)

pub members-requires : goal.members-requires
members-requires g c =
    next (text_parts g.S.Sink.laws c.args.to.now c.args.message.now c.args.general c.requires ▸ c.octets.ensures)

pub octets-requires-2 : goal.octets-requires-2
octets-requires-2 g c =
    next
    (text_parts g.S.Sink.laws c.args.to.now c.args.message.now c.args.general c.requires ▸ c.octets.ensures ▸ c.members.ensures.octets)

pub returns : goal.returns
returns g c =
    ended
    (text_parts g.S.Sink.laws c.args.to.now c.args.message.now c.args.general c.requires ▸ c.octets.ensures ▸ c.members.ensures.octets
    ▸ c.octets-2.ensures)
