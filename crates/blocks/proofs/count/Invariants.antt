-- `count` counts the octets of a kind: so far, in the octets passed.
use Rattle.std.proofs.Common.{◌≡◌, ◌≤◌, take}
use Rattle.std.specs.List.{count_by}
use Rattle.blocks.proofs.count.Given as goal

abbrev pub invariant-loop-c : goal.invariant-loop-c
invariant-loop-c g l = (l.count ≤ l.c-index) × (l.count ≡ count_by (g.K.Kind.has l.kind) (take l.c-index l.block))
