-- `has_partner` goes by what was kept, or by what it finds among the others.
use Rattle.std.proofs.Common.{arith}
use Rattle.rows.specs.Rows.{name_in}
use Rattle.rows.proofs.Entries.{entries_length}
use Rattle.rows.proofs.Printing.{printed_at}
use Rattle.matching.specs.Inner.Sides.{texts, entry_at}
use Rattle.matching.proofs.Partners.{nth_at}
use Rattle.parameters.proofs.Keeping.{there_found, there_kept, there_front, there_rest}
use Rattle.parameters.proofs.has_partner.Goals as goal

pub seek-requires-clause-has_print : goal.seek-requires-clause-has_print
seek-requires-clause-has_print g c =
    let right = c.args.right.now in
    printed_at (texts right) c.args.j right.count right.table.now c.requires.j_lt_count c.requires.right_printed

pub seek-requires-else-is_some-clause-has_print : goal.seek-requires-else-is_some-clause-has_print
seek-requires-else-is_some-clause-has_print g c =
    let right = c.args.right.now in
    printed_at (texts right) c.args.j right.count right.table.now c.requires.j_lt_count c.requires.right_printed

pub returns-then-right-j : goal.returns-then-right-j
returns-then-right-j g c = there_found c.args.left.now _ c.seek.ensures.bounds c.seek.ensures.partner c.is_some.ensures

pub bounds-kept-j : goal.bounds-kept-j
bounds-kept-j g c = omega (arith, c.requires.keeps.room.1, entries_length c.args.right.now.common c.args.right.now.table.now, c.if-right-j.false)

pub returns-then-is_some : goal.returns-then-is_some
returns-then-is_some g c =
    let right = c.args.right.now in
    let left = c.args.left.now in
    let f = entry_at right c.args.j in
    let m = c.requires.keeps.back c.args.j f (nth_at c.args.j right.common right.table.now c.if-right-j.false) in
    there_front c.args.left.now (name_in (texts right) f) _ (there_kept left _ m.fits m.is c.is_some-2.ensures)
    c.if-is_some.true

pub returns-else-is_some : goal.returns-else-is_some
returns-else-is_some g c =
    let right = c.args.right.now in
    let left = c.args.left.now in
    let f = entry_at right c.args.j in
    let m = c.requires.keeps.back c.args.j f (nth_at c.args.j right.common right.table.now c.if-right-j.false) in
    there_rest c.args.left.now (name_in (texts right) f) _ (there_kept left _ m.fits m.is c.is_some-2.ensures)
    c.if-is_some.false
    (there_found c.args.left.now _ c.seek-else-is_some.ensures.bounds c.seek-else-is_some.ensures.partner c.is_some-else-is_some.ensures)
