-- Values, arrays and objects: what remains to be compared from here is what the whole compares. The levels fall from an
-- object or an array to what stands in it.
use mathlib.Core.Path.{◌≡◌}
use Prim.Native.Nat.{◌+◌, ◌*◌}
use Rattle.grammar.specs.Bounds.{Every}
use Rattle.grammar.specs.Reader.{members_at, elements_at}
use Rattle.json_read.specs.Inner.Rows.{rows_left, elements_left}
use Rattle.distinct.specs.Inner.Walking.{rows_from}
use Rattle.pairs.specs.Inner.Walks.{Going}
use Rattle.same.specs.Same.{depth, all, same_elements, has_pair, inner_at}
use Rattle.same.proofs.Rows.{RowReads}
use Rattle.grammar.specs.Grammar.{curly}
use Rattle.same.proofs.+all_paired_arrays_compare_values.Given as goal

abbrev pub decreases-all_paired : goal.decreases-all_paired
decreases-all_paired l = 3 * l.levels + 1

abbrev pub decreases-arrays : goal.decreases-arrays
decreases-arrays l = 3 * l.levels + 1

abbrev pub decreases-compare : goal.decreases-compare
decreases-compare l = 3 * l.levels + 2

abbrev pub decreases-values : goal.decreases-values
decreases-values l = 3 * l.levels

abbrev pub invariant-all_paired-loop-a : goal.invariant-all_paired-loop-a
invariant-all_paired-loop-a l =
    (all (has_pair (inner_at l.levels l.s l.t) l.s l.t (members_at depth l.t l.j)) (rows_from curly l.s l.walk.left l.walk.at.at)
    ≡ all (has_pair (inner_at l.levels l.s l.t) l.s l.t (members_at depth l.t l.j)) (members_at depth l.s l.i))
    × (Going l.s l.t l.j l.size l.work l.walk × Every (RowReads l.s) (rows_from curly l.s l.walk.left l.walk.at.at))

abbrev pub decreases-all_paired-loop-a : goal.decreases-all_paired-loop-a
decreases-all_paired-loop-a l = l.walk.left

abbrev pub invariant-arrays-loop-a : goal.invariant-arrays-loop-a
invariant-arrays-loop-a l = record {
  same :
      same_elements (inner_at l.levels l.s l.t) (elements_left l.a-iterator) (elements_left l.others)
      ≡ same_elements (inner_at l.levels l.s l.t) (elements_at depth l.s l.i) (elements_at depth l.t l.j);
  left : Every (RowReads l.s) (rows_left l.a-iterator);
  right : Every (RowReads l.t) (rows_left l.others);
}
