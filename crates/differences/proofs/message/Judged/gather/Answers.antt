-- `gather` puts a recipient's own parameters behind those that are all recipients'.
use Rattle.std.proofs.Common.{◌∙◌, arith}
use Rattle.jwe.specs.Judge.{held}
use Rattle.jwe.specs.Inner.Holding.{Gathers}
use Rattle.jwe.proofs.HeldTables.{behind, held_stands}
use Rattle.differences.proofs.message.Judged.gather.Goals as goal

pub returns : goal.returns
returns c =
    let self = c.args.self.now in
    let message = self.message.now in
    let n = c.args.n in
    let share = self.judged.share n c.requires.recipient in
    let gathers : Gathers message (held message) n self.holds.common c.gather.result c.gather.new.table =
    behind message (held message) self.of.now self.own.now self.counts.now n self.holds.common c.gather.result c.args.table.now c.gather.new.table
    (held_stands message n) share c.requires.fronted.front c.requires.fronted.long c.gather.ensures.value c.gather.ensures.table_after in
    record {
      fronted = record { front = gathers.common; long = c.gather.auto.table ∙ c.requires.fronted.long };
      gathered = record {
        gathers = gathers;
        some = omega (arith, c.gather.ensures.value);
        few = omega (arith, c.gather.ensures.value, share.few, c.requires.fronted.front.few);
      };
    }
