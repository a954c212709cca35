-- `contents_differ` compares one own header after the other with that of recipient `with`: what is asked of those left stays the answer.
use mathlib.Core.Path.{◌≡◌}
use Prim.Native.Nat.{◌-◌, ◌≤◌}
use Rattle.prelude.specs.Any.{any}
use Rattle.jose.specs.ContentAlgorithm.{differ, differing}
use Rattle.jose.specs.Inner.Content.{shown_in}
use Rattle.jwe.specs.Inner.Stages.{own_contents}
use Rattle.jwe.proofs.general.contents_differ.Given as goal

abbrev pub invariant-loop-k : goal.invariant-loop-k
invariant-loop-k l =
    (l.k ≤ l.number)
    × (any (differ (shown_in l.message l.asked)) (own_contents l.message l.own l.counts l.k (l.number - l.k))
    ≡ differing l.with (own_contents l.message l.own l.counts 0 l.number))

abbrev pub decreases-loop-k : goal.decreases-loop-k
decreases-loop-k l = l.number - l.k
