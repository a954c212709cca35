-- `pair_of` goes by the pair that was kept, or by the one that it finds among the others.
use Rattle.std.proofs.Common.{arith}
use Rattle.rows.proofs.Entries.{entries_length}
use Rattle.matching.specs.Inner.Sides.{texts, entry_at}
use Rattle.matching.proofs.Partners.{nth_at}
use Rattle.parameters.proofs.Keeping.{kept_pair, rest_pair}
use Rattle.parameters.proofs.pair_of.Goals as goal

pub bounds : goal.bounds
bounds g c = omega (arith, c.requires.keeps.room.0, entries_length c.args.left.now.common c.args.left.now.table.now, c.if-left-i.false)

pub bounds-kept-i : goal.bounds-kept-i
bounds-kept-i g c = omega (arith, c.requires.keeps.room.0, entries_length c.args.left.now.common c.args.left.now.table.now, c.if-left-i.false)

pub returns-in-Some : goal.returns-in-Some
returns-in-Some g c =
    let left = c.args.left.now in
    let i = c.args.i in
    let e = entry_at left i in
    let here = nth_at i left.common left.table.now c.if-left-i.false in
    kept_pair c.args.right.now (texts left) e _ c.in-Some.is (c.requires.keeps.matched i e here) (c.requires.keeps.valued i e here)

pub returns-in-None : goal.returns-in-None
returns-in-None g c =
    let left = c.args.left.now in
    let i = c.args.i in
    let e = entry_at left i in
    rest_pair c.args.right.now (texts left) e c.in-None.is (c.requires.keeps.matched i e (nth_at i left.common left.table.now c.if-left-i.false)) c.find-in-None.ensures
