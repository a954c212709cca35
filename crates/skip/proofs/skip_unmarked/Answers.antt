-- `skip_unmarked` passes over octets that are no marks: the search from there comes to the same end.
use mathlib.Core.Path.{sym, subst}
use native.Mathlib.Omega.{arith}
use Rattle.skip.specs.Inner.Past.{Alike}
use Rattle.skip.proofs.Steps.{alike_unmarked}
use Rattle.skip.proofs.skip_unmarked.Goals as goal

pub returns : goal.returns
returns c =
    let s = c.args.s.now in
    let from = c.args.from in
    let first = c.seek.ensures in
    (subst (Alike s from) (sym first) (alike_unmarked s from), omega (arith, first))
