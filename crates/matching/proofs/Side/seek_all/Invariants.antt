-- `seek_all` seeks for one entry after the other.
use Rattle.std.proofs.Common.{◌≡◌, None, length}
use Rattle.matching.specs.Inner.Places.{MatchedAt}
use Rattle.matching.specs.Inner.Sides.{texts, entries, entry_at}
use Rattle.matching.proofs.Below.{Below}
use Rattle.matching.proofs.Side.seek_all.Given as goal

abbrev pub invariant-loop-i : goal.invariant-loop-i
invariant-loop-i l =
    (length l.numbers ≡ length l.initial.numbers)
    × Below None (λ k o. MatchedAt (texts l.other) (texts l.self) (entries l.self) (entry_at l.other k) o) l.i l.numbers
