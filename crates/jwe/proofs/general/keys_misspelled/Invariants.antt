-- `keys_misspelled` asks one recipient's key after the other.
use Prim.Native.Nat.{◌-◌, ◌≤◌}
use mathlib.Core.Path.{◌≡◌}
use lib.ListN.{drop}
use Rattle.prelude.specs.Any.{any}
use Rattle.headers.specs.Components.{misspelled}
use Rattle.jwe.specs.Inner.Stages.{recipients_of}
use Rattle.jwe.proofs.RecipientRows.{keys}
use Rattle.jwe.proofs.general.keys_misspelled.Given as goal

abbrev pub invariant-loop-i : goal.invariant-loop-i
invariant-loop-i l =
    let all = any (misspelled l.message) (keys (recipients_of l.number l.of)) in
    (l.i ≤ l.number) × (any (misspelled l.message) (keys (drop l.i (recipients_of l.number l.of))) ≡ all)

abbrev pub decreases-loop-i : goal.decreases-loop-i
decreases-loop-i l = l.number - l.i
