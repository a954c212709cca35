-- `of` begins at the first body, behind the lengths.
use Rattle.std.proofs.Common.{sym, arith}
use Rattle.recipients.proofs.Places.{start_first, lengths_fit}
use Rattle.recipients.proofs.bodies.Bodies.of.Goals as goal

pub bounds-table-0 : goal.bounds-table-0
bounds-table-0 c = omega (arith, lengths_fit c.args.table.now c.requires)

pub invariant_of-result : goal.invariant_of-result
invariant_of-result c = record {
  sound = c.requires;
  within = omega arith;
  here = sym (start_first c.args.table.now);
}
