-- `past` keeps the search's end, with the brackets that are open, until the one that is sought or the text's end.
use Prim.Native.Nat.{◌-◌, ◌≤◌}
use mathlib.Core.Path.{◌≡◌}
use lib.ListN.{length}
use Rattle.skip.specs.Inner.Past.{outside, past_from, past_nested}
use Rattle.skip.proofs.past.Given as goal

abbrev pub invariant-loop-at : goal.invariant-loop-at
invariant-loop-at l = (past_from (outside l.depth) l.s l.at ≡ past_nested l.s l.from) × (l.depth ≤ l.at)

abbrev pub decreases-loop-at : goal.decreases-loop-at
decreases-loop-at l = length l.s - l.at
