-- `members` writes those up to the recipients', and those behind them.
use Rattle.json_put.specs.Inner.Members.{point}
use Rattle.json_put.proofs.Putting.{next, ◌▸◌, ended}
use Rattle.json_put.proofs.Parts.{all_parts}
use Rattle.json_put.proofs.write.members.Goals as goal

pub headers-next-requires : goal.headers-next-requires
headers-next-requires g c =
    next (all_parts g.S.Sink.laws (point c.args.to.now c.args.begun) c.args.message.now c.args.many c.requires)

pub components-requires : goal.components-requires
components-requires g c =
    next
    (all_parts g.S.Sink.laws (point c.args.to.now c.args.begun) c.args.message.now c.args.many c.requires ▸ c.headers-next.ensures)

pub returns : goal.returns
returns g c =
    ended
    (all_parts g.S.Sink.laws (point c.args.to.now c.args.begun) c.args.message.now c.args.many c.requires ▸ c.headers-next.ensures
    ▸ c.components.ensures)
