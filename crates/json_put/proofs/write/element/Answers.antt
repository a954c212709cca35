-- `element` writes the comma, and the members between brackets.
use Rattle.std.proofs.Common.{refl}
use Rattle.recipients.specs.Inner.Answers.{shown}
use Rattle.json_put.specs.Inner.Members.{point}
use Rattle.json_put.proofs.Putting.{next, ◌▸◌, ended}
use Rattle.json_put.proofs.Parts.{element_parts}
use Rattle.json_put.proofs.write.element.Goals as goal

pub comma-requires : goal.comma-requires
comma-requires g c = next (element_parts g.S.Sink.laws (point c.args.to.now c.args.begun) (shown c.args.table.now c.args.body) c.requires)

pub octets-requires : goal.octets-requires
octets-requires g c =
    next
    (element_parts g.S.Sink.laws (point c.args.to.now c.args.begun) (shown c.args.table.now c.args.body) c.requires ▸ c.comma.ensures)

pub own-requires : goal.own-requires
own-requires g c =
    next
    (element_parts g.S.Sink.laws (point c.args.to.now c.args.begun) (shown c.args.table.now c.args.body) c.requires ▸ c.comma.ensures
    ▸ c.octets.ensures)

pub octets-requires-2 : goal.octets-requires-2
octets-requires-2 g c =
    next
    (element_parts g.S.Sink.laws (point c.args.to.now c.args.begun) (shown c.args.table.now c.args.body) c.requires ▸ c.comma.ensures
    ▸ c.octets.ensures ▸ c.own.ensures.octets)

pub returns : goal.returns
returns g c = record {
  octets =
      ended
      (element_parts g.S.Sink.laws (point c.args.to.now c.args.begun) (shown c.args.table.now c.args.body) c.requires ▸ c.comma.ensures
      ▸ c.octets.ensures ▸ c.own.ensures.octets ▸ c.octets-2.ensures);
  begun = refl;
}
