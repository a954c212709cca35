-- `put_numbers` writes a line's eight numbers: eight stores.
use Rattle.std.proofs.Common.{◌+◌, refl, arith}
use Rattle.prelude.proofs.Writing.{begin, put, done}
use Rattle.parameters.specs.Lines.{line_numbers}
use Rattle.parameters.specs.Inner.Puts.{line_is}
use Rattle.parameters.proofs.lines.put_numbers.Goals as goal

pub returns : goal.returns
returns c =
    let args = c.args in
    let at = args.from in
    let opened = begin at (line_numbers (line_is args.l)) args.list.now c.requires in
    let one = put _ (at + 1) refl opened in
    let two = put _ (at + 2) (omega arith) one in
    let three = put _ (at + 3) (omega arith) two in
    let four = put _ (at + 4) (omega arith) three in
    let five = put _ (at + 5) (omega arith) four in
    let six = put _ (at + 6) (omega arith) five in
    let seven = put _ (at + 7) (omega arith) six in
    rw c.number.ensures (done (put _ (at + 8) (omega arith) seven))
