-- `front` makes a side of what is all recipients'.
use Rattle.std.proofs.Common.{arith}
use Rattle.differences.proofs.Readings.{common_read}
use Rattle.differences.proofs.Judging.{printed_side, reads_side}
use Rattle.differences.proofs.message.Judged.front.Goals as goal

pub invariant_of-result : goal.invariant_of-result
invariant_of-result c =
    let self = c.args.self.now in
    let message = self.message.now in
    let header = self.header.now in
    let table = c.args.table.now in
    let common = self.holds.common in
    record {
      few = omega arith;
      fits = omega arith;
    }

pub returns-clause-printed : goal.returns-clause-printed
returns-clause-printed c =
    let self = c.args.self.now in
    let message = self.message.now in
    let header = self.header.now in
    let table = c.args.table.now in
    let common = self.holds.common in
    printed_side message header common table self.judged.decoded c.requires.front.printed

pub returns-clause-reads : goal.returns-clause-reads
returns-clause-reads c =
    let self = c.args.self.now in
    let message = self.message.now in
    reads_side message self.header.now self.holds.common c.args.table.now self.judged.decoded _ c.requires.front.entries (common_read message)
