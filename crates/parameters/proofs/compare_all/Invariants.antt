-- `compare_all` compares one entry's value after the other.
use Rattle.std.proofs.Common.{◌≡◌, false, None, get_or, length}
use Rattle.matching.specs.Inner.Places.{found}
use Rattle.matching.specs.Inner.Sides.{texts, entries, entry_at}
use Rattle.matching.proofs.Below.{Below}
use Rattle.parameters.specs.Parameters.{other_value}
use Rattle.parameters.proofs.compare_all.Given as goal

abbrev pub invariant-loop-k : goal.invariant-loop-k
invariant-loop-k l =
    (length l.others ≡ length l.initial.others)
    × Below false (λ k b. b ≡ other_value (texts l.left) (texts l.right) (entry_at l.left k) (found (entries l.right) (get_or l.partners k None))) l.k l.others
