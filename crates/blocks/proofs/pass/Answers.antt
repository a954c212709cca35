-- `pass` passes blocks without an octet of the kind: one block more.
use Rattle.std.proofs.Common.{◌+◌, sym, ◌∙◌, arith}
use Rattle.blocks.proofs.Sought.{none_more}
use Rattle.blocks.proofs.pass.Goals as goal

pub loop-at-preserved : goal.loop-at-preserved
loop-at-preserved g c =
    let has = g.K.Kind.has c.args.kind in
    let past = c.loop-at.invariant in
    record {
      behind = omega arith;
      fits = omega arith;
      none = none_more has c.args.s.now c.args.from c.loop-at.at (c.loop-at.at + g.row.N) (omega arith) (omega arith) past.none (sym c.count.ensures ∙ c.if-count-ne0.false);
    }
