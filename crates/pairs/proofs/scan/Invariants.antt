-- Whether one of the right members from here on has the name stays the answer.
use mathlib.Core.Path.{◌≡◌}
use Rattle.grammar.specs.Grammar.{curly}
use Rattle.grammar.specs.Reader.{members_at}
use Rattle.prelude.specs.Any.{any}
use Rattle.distinct.specs.Names.{depth, same_name}
use Rattle.distinct.specs.Inner.Walking.{row_member, rows_from}
use Rattle.pairs.specs.Inner.Walks.{SpotAt}
use Rattle.pairs.proofs.scan.Given as goal

abbrev pub invariant-loop-left : goal.invariant-loop-left
invariant-loop-left l =
    (any (same_name l.s l.t (row_member l.row)) (rows_from curly l.t l.left l.p.at)
    ≡ any (same_name l.s l.t (row_member l.row)) (members_at depth l.t l.at))
    × SpotAt l.t l.at l.left l.p.at

abbrev pub decreases-loop-left : goal.decreases-loop-left
decreases-loop-left l = l.left
