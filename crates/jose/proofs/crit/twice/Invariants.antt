-- `twice` walks along the elements: whether two of those that are left say the same stays the answer.
use mathlib.Core.Path.{◌≡◌}
use Rattle.grammar.specs.Reader.{elements_at}
use Rattle.json_read.specs.Inner.Rows.{elements_left}
use Rattle.prelude.specs.Any.{any_pair}
use Rattle.prelude.specs.Limits.{levels}
use Rattle.jose.specs.HeaderRules.{same_element}
use Rattle.jose.proofs.crit.twice.Given as goal

abbrev pub invariant-loop-row : goal.invariant-loop-row
invariant-loop-row l = any_pair (same_element l.s) (elements_left l.elements) ≡ any_pair (same_element l.s) (elements_at levels l.s l.at)
