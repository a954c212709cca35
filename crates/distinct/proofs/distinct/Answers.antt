-- Both answer the same.
use mathlib.Core.Path.{ap}
use mathlib.Core.Bool.{not}
use native.Mathlib.Omega.{arith}
use Rattle.distinct.proofs.distinct.Goals as goal

pub returns-then-size-le64 : goal.returns-then-size-le64
returns-then-size-le64 c = ap not c.by_pairs.ensures

pub by_windows-requires : goal.by_windows-requires
by_windows-requires c =
    record {
      known_in = c.requires;
      size_nonzero = (omega (arith, c.if-size-le64.false), c.window_size-size.ensures);
    }

pub returns : goal.returns
returns c = ap not c.by_windows.ensures
