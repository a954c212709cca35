-- `seek` finds the first octet of the kind: none so far.
use Rattle.std.proofs.Common.{◌≡◌, ◌≤◌, ◌+◌, length, false}
use Rattle.std.specs.List.{AllWithin}
use Rattle.blocks.proofs.seek.Given as goal

abbrev pub invariant-loop-few : goal.invariant-loop-few
invariant-loop-few g l =
    record {
      fits : l.at + l.few ≤ length l.s;
      none : AllWithin (λ c. g.K.Kind.has l.kind c ≡ false) l.s l.at (l.at + l.few);
    }

abbrev pub invariant-loop-i : goal.invariant-loop-i
invariant-loop-i g l = AllWithin (λ c. g.K.Kind.has l.kind c ≡ false) l.s l.at l.i
