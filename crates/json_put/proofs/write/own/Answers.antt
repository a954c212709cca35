-- `own` writes the header, and the key behind it.
use Rattle.prelude.specs.Ascii.{ascii}
use Rattle.recipients.specs.Inner.Answers.{shown}
use Rattle.json_put.specs.Inner.Members.{point}
use Rattle.json_put.proofs.Putting.{next, ◌▸◌, ended}
use Rattle.json_put.proofs.Parts.{own_parts}
use Rattle.json_put.proofs.write.own.Goals as goal

pub header-next-requires : goal.header-next-requires
unfolding ascii shown
header-next-requires g c =
    next
    (own_parts g.S.Sink.laws (point c.args.to.now c.args.begun) (shown c.args.table.now c.args.body) c.part-text.result.now c.part-key.result.now
    c.part-text.ensures.octets c.part-key.ensures.octets c.requires)

pub component-requires : goal.component-requires
unfolding ascii shown
component-requires g c =
    next
    (own_parts g.S.Sink.laws (point c.args.to.now c.args.begun) (shown c.args.table.now c.args.body) c.part-text.result.now c.part-key.result.now
    c.part-text.ensures.octets c.part-key.ensures.octets c.requires ▸ c.header-next.ensures)

pub returns : goal.returns
unfolding ascii shown
returns g c =
    ended
    (own_parts g.S.Sink.laws (point c.args.to.now c.args.begun) (shown c.args.table.now c.args.body) c.part-text.result.now c.part-key.result.now
    c.part-text.ensures.octets c.part-key.ensures.octets c.requires ▸ c.header-next.ensures ▸ c.component.ensures)
