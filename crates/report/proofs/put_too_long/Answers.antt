-- `put_too_long` writes its one line.
use native.Mathlib.Omega.{arith}
use Rattle.prelude.specs.Ascii.{ascii}
use Rattle.report.specs.Report.{too_long}
use Rattle.report.proofs.put_too_long.Goals as goal

pub returns : goal.returns
unfolding too_long ascii
returns c =
    record {
      value = c.put_word.ensures.value;
      out_after = c.put_word.ensures.out_after;
      upper_bound = omega (arith, c.put_word.ensures.value);
    }
