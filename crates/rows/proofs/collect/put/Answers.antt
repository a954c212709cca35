-- `put` writes an entry's eight numbers: eight stores, the last two of what was found of the name.
use Prim.Native.Nat.{◌+◌}
use mathlib.Core.Path.{refl}
use native.Mathlib.Omega.{arith}
use lib.ListN.{length-set}
use Rattle.prelude.proofs.Lists.{below_at}
use Rattle.prelude.proofs.Writing.{begin_as, put, done}
use Rattle.prelude.specs.Limits.{number_limit}
use Rattle.names.specs.Names.{names}
use Rattle.rows.specs.Rows.{entry_of}
use Rattle.rows.specs.Inner.Prints.{table_row}
use Rattle.rows.specs.Inner.Members.{first_member}
use Rattle.rows.proofs.Collecting.{entry_numbers}
use Rattle.rows.proofs.collect.put.Goals as goal

pub overflow_cast-table : goal.overflow_cast-table
overflow_cast-table c =
    let row = c.args.row.now in
    record { fits = below_at number_limit row c.requires.all_below 0 (omega (arith, c.requires.row_len)) }

pub bounds-table-at-2 : goal.bounds-table-at-2
bounds-table-at-2 c = simp length-set (omega arith)

pub overflow_cast-table-2 : goal.overflow_cast-table-2
overflow_cast-table-2 c =
    let row = c.args.row.now in
    record { fits = below_at number_limit row c.requires.all_below 1 (omega (arith, c.requires.row_len)) }

pub bounds-table-at-3 : goal.bounds-table-at-3
bounds-table-at-3 c = simp length-set (omega arith)

pub overflow_cast-table-3 : goal.overflow_cast-table-3
overflow_cast-table-3 c =
    let row = c.args.row.now in
    record { fits = below_at number_limit row c.requires.all_below 2 (omega (arith, c.requires.row_len)) }

pub bounds-table-at-4 : goal.bounds-table-at-4
bounds-table-at-4 c = simp length-set (omega arith)

pub overflow_cast-table-4 : goal.overflow_cast-table-4
overflow_cast-table-4 c =
    let row = c.args.row.now in
    record { fits = below_at number_limit row c.requires.all_below 3 (omega (arith, c.requires.row_len)) }

pub bounds-table-at-5 : goal.bounds-table-at-5
bounds-table-at-5 c = simp length-set (omega arith)

pub overflow_cast-table-5 : goal.overflow_cast-table-5
overflow_cast-table-5 c =
    let row = c.args.row.now in
    record { fits = below_at number_limit row c.requires.all_below 4 (omega (arith, c.requires.row_len)) }

pub bounds-table-at-6 : goal.bounds-table-at-6
bounds-table-at-6 c = simp length-set (omega arith)

pub bounds-table-at-7 : goal.bounds-table-at-7
bounds-table-at-7 c = simp length-set (omega arith)

pub bounds-table-at-8 : goal.bounds-table-at-8
bounds-table-at-8 c = simp length-set (omega arith)

pub shape_of-table : goal.shape_of-table
shape_of-table c = simp length-set

pub returns : goal.returns
returns c =
    let at = c.args.at in
    let text = c.args.text.now in
    let origin = c.args.origin in
    let list = names c.args.list.now in
    let row = c.args.row.now in
    let entry = table_row text (entry_of list text origin (first_member row)) in
    let is = entry_numbers list text origin row c.part-name.result.now c.find-number.result c.fingerprint-print.result
    c.part-name.ensures.octets c.find-number.ensures c.fingerprint-print.ensures in
    let opened = begin_as at entry _ c.args.table.now is c.requires.width_in_bounds in
    let one = put _ (at + 1) refl opened in
    let two = put _ (at + 2) (omega arith) one in
    let three = put _ (at + 3) (omega arith) two in
    let four = put _ (at + 4) (omega arith) three in
    let five = put _ (at + 5) (omega arith) four in
    let list_row = put _ (at + 6) (omega arith) five in
    let seven = put _ (at + 7) (omega arith) list_row in
    done (put _ (at + 8) (omega arith) seven)
