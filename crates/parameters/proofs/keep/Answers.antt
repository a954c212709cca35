-- `keep` keeps what matching and comparing give.
use Rattle.std.proofs.Common.{arith}
use Rattle.rows.proofs.Entries.{entries_length}
use Rattle.parameters.proofs.keep.Goals as goal

pub returns : goal.returns
returns g c =
    let left = c.args.left.now in
    let right = c.args.right.now in
    record {
      room = (omega (arith, entries_length left.count left.table.now), omega (arith, entries_length right.count right.table.now));
      matched = c.seek_all.ensures;
      valued = c.compare_all.ensures;
      back = c.seek_all-2.ensures;
    }
