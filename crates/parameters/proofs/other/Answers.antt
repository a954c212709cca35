-- `other` reads both values where they stand and compares them.
use Rattle.std.proofs.Common.{refl, arith}
use Rattle.matching.specs.Inner.Sides.{texts}
use Rattle.matching.proofs.Partners.{each_at, nth_none}
use Rattle.parameters.specs.Parameters.{other_value}
use Rattle.parameters.proofs.Keeping.{reads_at, compared}
use Rattle.parameters.proofs.other.Goals as goal

pub returns-in_default : goal.returns-in_default
unfolding other_value
returns-in_default c = rw c.in_default.is refl

pub returns-then-right-j : goal.returns-then-right-j
unfolding other_value
returns-then-right-j c =
    let right = c.args.right.now in
    rw (c.in-Some.is, nth_none c.in-Some.j right.count right.table.now c.if-right-j.true) refl

pub value-requires-clause-kind_bound : goal.value-requires-clause-kind_bound
value-requires-clause-kind_bound c =
    let left = c.args.left.now in
    (each_at (texts left) c.args.i left.count left.table.now c.requires.i_lt_count c.requires.left_reads).kind

pub value-requires-2-clause-kind_bound : goal.value-requires-2-clause-kind_bound
value-requires-2-clause-kind_bound c =
    let right = c.args.right.now in
    (each_at (texts right) c.in-Some.j right.count right.table.now (omega (arith, c.if-right-j.false)) c.requires.right_reads).kind

pub same-requires-clause-reads : goal.same-requires-clause-reads
same-requires-clause-reads c =
    reads_at c.args.left.now c.args.i c.requires.i_lt_count c.requires.left_reads c.text-s.ensures c.value.ensures

pub same-requires-clause-reads_2 : goal.same-requires-clause-reads_2
same-requires-clause-reads_2 c =
    reads_at c.args.right.now c.in-Some.j (omega (arith, c.if-right-j.false)) c.requires.right_reads c.text-t.ensures c.value-2.ensures

pub returns : goal.returns
returns c =
    rw c.in-Some.is
    (compared c.args.left.now c.args.right.now c.args.i c.in-Some.j (omega (arith, c.if-right-j.false)) c.text-s.ensures c.text-t.ensures
    c.value.ensures c.value-2.ensures c.same.ensures)
