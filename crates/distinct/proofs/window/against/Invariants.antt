-- What is asked of the members that are left stays the answer; the window stays entered.
use mathlib.Core.Path.{◌≡◌}
use lib.ListN.{length}
use Rattle.grammar.specs.Grammar.{curly}
use Rattle.grammar.specs.Bounds.{Every}
use Rattle.json_read.specs.Inner.Rows.{rows_left}
use Rattle.distinct.specs.Names.{same_name}
use Rattle.distinct.specs.Inner.Walking.{rows_from}
use Rattle.distinct.specs.Inner.Filter.{tag_of, Marked}
use Rattle.distinct.proofs.Windows.{Across}
use Rattle.distinct.proofs.window.against.Given as goal

abbrev pub invariant-loop-row : goal.invariant-loop-row
invariant-loop-row l = record {
  same :
      Across (same_name l.s l.s) (rows_from curly l.s l.done l.from.at) (rows_left l.row-iterator)
      ≡ Across (same_name l.s l.s) (rows_from curly l.s l.done l.from.at) (rows_from curly l.s l.left l.fn.behind.at);
  marked : Every (λ m. Marked l.size l.filter (tag_of l.s m)) (rows_from curly l.s l.done l.from.at);
  long : length l.filter ≡ length l.initial.filter;
}
