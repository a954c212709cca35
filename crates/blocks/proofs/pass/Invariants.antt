-- `pass` passes blocks without an octet of the kind: none so far.
use Rattle.std.proofs.Common.{◌≡◌, ◌≤◌, ◌-◌, length, false}
use Rattle.std.specs.List.{AllWithin}
use Rattle.blocks.proofs.pass.Given as goal

abbrev pub invariant-loop-at : goal.invariant-loop-at
invariant-loop-at g l =
    record {
      behind : l.from ≤ l.at;
      fits : l.at ≤ length l.s;
      none : AllWithin (λ c. g.K.Kind.has l.kind c ≡ false) l.s l.from l.at;
    }

abbrev pub decreases-loop-at : goal.decreases-loop-at
decreases-loop-at g l = length l.s - l.at
