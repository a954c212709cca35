-- Window after window: whether two of the members from here on have one name stays the answer.
use mathlib.Core.Path.{◌≡◌}
use lib.ListN.{length}
use Rattle.grammar.specs.Grammar.{curly}
use Rattle.grammar.specs.Reader.{members_at}
use Rattle.json_read.specs.Inner.Known.{KnownFrom}
use Rattle.prelude.specs.Any.{any_pair}
use Rattle.distinct.specs.Names.{depth, same_name, repeats}
use Rattle.distinct.specs.Inner.Walking.{rows_from}
use Rattle.distinct.proofs.window.by_windows.Given as goal

abbrev pub invariant-loop-left : goal.invariant-loop-left
invariant-loop-left l =
    (any_pair (same_name l.s l.s) (rows_from curly l.s l.left l.p.at) ≡ repeats l.s (members_at depth l.s l.at))
    × (KnownFrom curly depth l.s l.left l.p.at × (length l.filter ≡ length l.initial.filter))

abbrev pub decreases-loop-left : goal.decreases-loop-left
decreases-loop-left l = l.left
