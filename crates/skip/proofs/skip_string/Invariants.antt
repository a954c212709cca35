-- `skip_string` stays in the string until its quotation mark, or until the text ends.
use Prim.Native.Nat.{ℕ, ◌-◌, ◌≤◌}
use mathlib.Core.Path.{◌≡◌}
use lib.ListN.{length}
use Rattle.skip.specs.Inner.Past.{inside, past_from}
use Rattle.skip.proofs.skip_string.Given as goal

abbrev pub invariant-loop-at : goal.invariant-loop-at
invariant-loop-at l =
    ((d : ℕ) → past_from (inside d) l.s l.at ≡ past_from (inside d) l.s l.from) × (l.from ≤ l.at)

abbrev pub decreases-loop-at : goal.decreases-loop-at
decreases-loop-at l = length l.s - l.at
