-- `put_row` writes a row's five numbers: five stores.
use Prim.Native.Nat.{◌+◌}
use mathlib.Core.Path.{refl}
use native.Mathlib.Omega.{arith}
use lib.ListN.{length-set}
use Rattle.prelude.proofs.Writing.{begin, put, done}
use Rattle.json_read.specs.Members.{five_of}
use Rattle.json_read.proofs.member.put_row.Goals as goal

pub bounds-table-at-2 : goal.bounds-table-at-2
bounds-table-at-2 c = simp length-set (omega arith)

pub bounds-table-at-3 : goal.bounds-table-at-3
bounds-table-at-3 c = simp length-set (omega arith)

pub bounds-table-at-4 : goal.bounds-table-at-4
bounds-table-at-4 c = simp length-set (omega arith)

pub bounds-table-at-5 : goal.bounds-table-at-5
bounds-table-at-5 c = simp length-set (omega arith)

pub shape_of-table : goal.shape_of-table
shape_of-table c = simp length-set

pub returns : goal.returns
returns c =
    let at = c.args.at in
    let five = five_of c.args.row in
    let opened = begin at five c.args.table.now c.requires in
    let one = put _ (at + 1) refl opened in
    let two = put _ (at + 2) (omega arith) one in
    let three = put _ (at + 3) (omega arith) two in
    let four = put _ (at + 4) (omega arith) three in
    done (put _ (at + 5) (omega arith) four)
