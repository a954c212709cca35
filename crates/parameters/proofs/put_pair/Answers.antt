-- `put_pair` puts the lines of a pair.
use Rattle.std.proofs.Common.{◌<◌}
use Rattle.matching.specs.Inner.Sides.{entry_at}
use Rattle.matching.proofs.Partners.{nth_at}
use Rattle.parameters.proofs.Appending.{pair_put}
use Rattle.parameters.proofs.put_pair.Goals as goal

pub returns : goal.returns
returns g c =
    let right = c.args.right.now in
    let p = c.in-Some.pair in
    let below : p.at < right.count = rw c.in-Some.is at c.requires.pair_in_bounds in
    rw (c.in-Some.is, nth_at p.at right.count right.table.now below)
    (pair_put c.args.recipient (entry_at c.args.left.now c.args.i) (entry_at right p.at) p.other c.args.lines.now c.half-mine.ensures c.half-yours.ensures
    c.put_if.ensures c.put_if-2.ensures)
