-- `mode` asks one entry after the other for `alg`; the mode that those left say stays the answer.
use mathlib.Core.Path.{◌≡◌}
use lib.ListN.{drop}
use Rattle.rows.specs.Inner.Views.{the_entries, the_texts}
use Rattle.jose.specs.HeaderRules.{mode_in}
use Rattle.jose.proofs.rules.mode.Given as goal

abbrev pub invariant-loop-i : goal.invariant-loop-i
invariant-loop-i l =
    mode_in (the_texts l.texts) (drop l.i (the_entries l.entries)) ≡ mode_in (the_texts l.texts) (the_entries l.entries)
