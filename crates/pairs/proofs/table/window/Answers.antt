-- The window that there is, or a new one.
use mathlib.Core.Path.{◌∙◌}
use native.Mathlib.Omega.{arith}
use Rattle.pairs.proofs.Tables.{table_empty}
use Rattle.pairs.proofs.table.window.Goals as goal

pub returns-then-number-size : goal.returns-then-number-size
returns-then-number-size c = c.requires.table

pub returns-then-size-eq0 : goal.returns-then-size-eq0
returns-then-size-eq0 c = λ h. absurd (omega (arith, h, c.if-number-size.false))

pub clear-requires : goal.clear-requires
clear-requires c = c.requires.size_in_bounds

pub enter-requires : goal.enter-requires
enter-requires c =
    record {
      known_from = c.requires.known_from;
      size_nonzero = (omega (arith, c.if-size-eq0.false), omega (arith, c.requires.size_in_bounds, c.clear.auto.work));
      empty = λ k h. c.clear.ensures k (omega (arith, h));
    }

pub meet-requires : goal.meet-requires
meet-requires c =
    record {
      known_in = c.requires.known_in;
      size_nonzero = (omega (arith, c.if-size-eq0.false), omega (arith, c.requires.size_in_bounds, c.clear.auto.work, c.enter.auto.work));
      table = table_empty c.args.t.now c.args.at c.args.size c.enter.new.work c.enter.ensures;
    }

pub shape_of-work : goal.shape_of-work
shape_of-work c =
    c.meet.auto.work ∙ c.enter.auto.work ∙ c.clear.auto.work

pub returns : goal.returns
returns c = λ h. c.meet.ensures
