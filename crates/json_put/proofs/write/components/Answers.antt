-- `components` writes one member behind the other.
use Rattle.prelude.specs.Ascii.{ascii}
use Rattle.json_put.specs.Inner.Members.{point}
use Rattle.json_put.proofs.Putting.{next, ◌▸◌, ended}
use Rattle.json_put.proofs.Parts.{tail_parts}
use Rattle.json_put.proofs.write.components.Goals as goal

pub component-first-requires : goal.component-first-requires
unfolding ascii
component-first-requires g c = next (tail_parts g.S.Sink.laws (point c.args.to.now c.args.begun) c.args.message.now c.requires)

pub component-second-requires : goal.component-second-requires
unfolding ascii
component-second-requires g c =
    next (tail_parts g.S.Sink.laws (point c.args.to.now c.args.begun) c.args.message.now c.requires ▸ c.component-first.ensures)

pub encoded-third-requires : goal.encoded-third-requires
unfolding ascii
encoded-third-requires g c =
    next
    (tail_parts g.S.Sink.laws (point c.args.to.now c.args.begun) c.args.message.now c.requires ▸ c.component-first.ensures ▸ c.component-second.ensures)

pub component-requires : goal.component-requires
unfolding ascii
component-requires g c =
    next
    (tail_parts g.S.Sink.laws (point c.args.to.now c.args.begun) c.args.message.now c.requires ▸ c.component-first.ensures ▸ c.component-second.ensures
    ▸ c.encoded-third.ensures)

pub returns : goal.returns
unfolding ascii
returns g c =
    ended
    (tail_parts g.S.Sink.laws (point c.args.to.now c.args.begun) c.args.message.now c.requires ▸ c.component-first.ensures ▸ c.component-second.ensures
    ▸ c.encoded-third.ensures ▸ c.component.ensures)
