-- `own_headers` has the headers so far beside each other in its table; the refusals from the next one on are those of
use Prim.Native.Nat.{ℕ, ◌-◌, ◌≤◌}
use mathlib.Core.Path.{◌≡◌}
use mathlib.Core.List.{List, flat_map}
use lib.ListN.{length, drop}
use Rattle.prelude.specs.Refusals.{Test, first}
use Rattle.headers.specs.Headers.{object_order}
use Rattle.shape.specs.Shape.{Recipient}
use Rattle.jwe.specs.General.{own_entries}
use Rattle.jwe.specs.Inner.Stages.{recipients_of, Owned, own_tests}
use Rattle.jwe.proofs.general.own_headers.Given as goal

-- the tests of one recipient
abbrev pub tests : List ℕ → Recipient → List Test
tests message r = object_order message (own_entries message r)

abbrev pub invariant-loop-i : goal.invariant-loop-i
invariant-loop-i l =
    let all = first (own_tests l.message (recipients_of l.number l.of)) in
    (l.i ≤ l.number)
    × ((length l.own ≡ 2048)
    × ((length l.counts ≡ 8)
    × (Owned l.i l.message l.of l.own l.counts × (first (flat_map (tests l.message) (drop l.i (recipients_of l.number l.of))) ≡ all))))

abbrev pub decreases-loop-i : goal.decreases-loop-i
decreases-loop-i l = l.number - l.i
