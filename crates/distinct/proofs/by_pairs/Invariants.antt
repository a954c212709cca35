-- `by_pairs` walks along the members: whether two of those that are left have one name stays the answer.
use mathlib.Core.Path.{◌≡◌}
use Rattle.grammar.specs.Reader.{members_at}
use Rattle.json_read.specs.Inner.Rows.{rows_left}
use Rattle.prelude.specs.Any.{any_pair}
use Rattle.distinct.specs.Names.{depth, same_name, repeats}
use Rattle.distinct.proofs.by_pairs.Given as goal

abbrev pub invariant-loop-row : goal.invariant-loop-row
invariant-loop-row l = any_pair (same_name l.s l.s) (rows_left l.members) ≡ repeats l.s (members_at depth l.s l.at)
