-- Each left member's fingerprint goes behind the positions, which stay 0.
use mathlib.Core.Path.{refl, ◌∙◌}
use native.Mathlib.Omega.{arith}
use Rattle.pairs.proofs.table.enter.Goals as goal

pub loop-row-init : goal.loop-row-init
loop-row-init c = record { long = refl; empty = c.requires.empty }

pub put-requires : goal.put-requires
put-requires c =
    record {
      size_nonzero = (c.requires.size_nonzero.0, omega (arith, c.loop-row.invariant.long, c.requires.size_nonzero.1));
      number_bound = omega (arith, c.if-number-gt4294967295.false);
    }

pub loop-row-preserved : goal.loop-row-preserved
loop-row-preserved c =
    let so = c.loop-row.invariant in
    record {
      long = c.put.auto.work ∙ so.long;
      empty = λ k h. c.put.ensures k h ∙ so.empty k h;
    }

pub returns-then-number-size : goal.returns-then-number-size
returns-then-number-size c = c.loop-row.invariant.empty

pub returns-then-number-gt4294967295 : goal.returns-then-number-gt4294967295
returns-then-number-gt4294967295 c = c.loop-row.invariant.empty

pub returns : goal.returns
returns c = c.loop-row.invariant.empty
