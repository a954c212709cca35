-- `find` seeks the partner, and compares the values.
use Rattle.std.proofs.Common.{refl, arith}
use Rattle.rows.proofs.Entries.{entries_length}
use Rattle.rows.proofs.Printing.{printed_at}
use Rattle.matching.specs.Inner.Sides.{texts}
use Rattle.parameters.specs.Parameters.{other_value}
use Rattle.parameters.proofs.find.Goals as goal

pub seek-requires-clause-has_print : goal.seek-requires-clause-has_print
seek-requires-clause-has_print c =
    let left = c.args.left.now in
    printed_at (texts left) c.args.i left.count left.table.now c.requires.i_lt_count c.requires.left_printed

pub returns-in_err-at : goal.returns-in_err-at
unfolding other_value
returns-in_err-at c = rw c.from_residual.ensures (record { fits = tt; is = c.in_err-at.ensures.partner; other = refl })

pub returns : goal.returns
returns c =
    let right = c.args.right.now in
    record {
      fits = omega (arith, c.in_ok-at.ensures.bounds, entries_length right.count right.table.now);
      is = c.in_ok-at.ensures.partner;
      other = c.other-other.ensures;
    }
