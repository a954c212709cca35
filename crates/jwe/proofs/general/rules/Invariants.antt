-- `rules` judges one recipient after the other: the refusals from the next one on are those of all, and the first entries of
use Prim.Native.Nat.{ℕ, ◌-◌, ◌≤◌}
use mathlib.Core.Path.{◌≡◌}
use mathlib.Core.List.{List, flat_map, ◌++◌}
use lib.ListN.{length, drop}
use Rattle.names.specs.Names.{names}
use Rattle.rows.specs.Rows.{Entry, read_texts}
use Rattle.rows.specs.Inner.Prints.{Printed}
use Rattle.rows.specs.Tables.{entries_of}
use Rattle.prelude.specs.Refusals.{Test, first}
use Rattle.jose.specs.HeaderRules.{recipient_order}
use Rattle.headers.specs.Components.{Components, with_key, sizes_of}
use Rattle.headers.specs.Answers.{components_of}
use Rattle.shape.specs.Shape.{Recipient}
use Rattle.jwe.specs.General.{own_entries}
use Rattle.jwe.specs.Inner.Stages.{recipients_of, rule_tests}
use Rattle.jwe.proofs.general.rules.Given as goal

-- the tests of one recipient
abbrev pub tests : List (List ℕ) → List ℕ → List ℕ → List Entry → Components → Recipient → List Test
tests known header message front q r =
    recipient_order known (read_texts header message) (front ++ own_entries message r) (sizes_of (with_key q r.key))

abbrev pub invariant-loop-i : goal.invariant-loop-i
invariant-loop-i l =
    let es = entries_of l.front l.initial.table in
    let all = first (rule_tests (names l.known) l.header l.message es (components_of l.q) (recipients_of l.number l.of)) in
    (l.i ≤ l.number)
    × ((length l.table ≡ length l.initial.table)
    × ((entries_of l.front l.table ≡ es)
    × (Printed (read_texts l.header l.message) l.front l.table
    × (first (flat_map (tests (names l.known) l.header l.message es (components_of l.q)) (drop l.i (recipients_of l.number l.of))) ≡ all))))

abbrev pub decreases-loop-i : goal.decreases-loop-i
decreases-loop-i l = l.number - l.i
