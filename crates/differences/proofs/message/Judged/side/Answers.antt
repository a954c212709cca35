-- `side` makes a side of a recipient's parameters.
use Rattle.differences.proofs.Readings.{recipient_read}
use Rattle.differences.proofs.Judging.{printed_side, reads_side}
use Rattle.differences.proofs.message.Judged.side.Goals as goal

pub invariant_of-result : goal.invariant_of-result
invariant_of-result c =
    let self = c.args.self.now in
    let message = self.message.now in
    let header = self.header.now in
    let table = c.args.table.now in
    record {
      few = c.requires.some;
      fits = c.requires.gathers.few;
    }

pub returns-clause-printed : goal.returns-clause-printed
returns-clause-printed c =
    let self = c.args.self.now in
    let message = self.message.now in
    let header = self.header.now in
    let table = c.args.table.now in
    printed_side message header c.args.count table self.judged.decoded c.requires.gathers.printed

pub returns-clause-reads : goal.returns-clause-reads
returns-clause-reads c =
    let self = c.args.self.now in
    let message = self.message.now in
    reads_side message self.header.now c.args.count c.args.table.now self.judged.decoded _ c.requires.gathers.entries (recipient_read message c.args.n)
