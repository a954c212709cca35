-- `judge_by` asks the rules one after the other: the first that is broken from the next one on is the first of all.
use mathlib.Core.Path.{◌≡◌}
use mathlib.Core.List.{map}
use lib.ListN.{drop}
use Rattle.names.specs.Names.{names}
use Rattle.rows.specs.Inner.Views.{the_entries, the_texts}
use Rattle.jose.specs.Inner.Rules.{rule_number}
use Rattle.jose.proofs.Order.{ordered}
use Rattle.jose.proofs.judge.judge_by.Given as goal

abbrev pub invariant-loop-rule : goal.invariant-loop-rule
invariant-loop-rule l =
    let all = ordered (names l.known) (the_texts l.h.texts) (the_entries l.h.entries) l.bad_key in
    all (drop l.rule-index (map rule_number l.rules)) ≡ all (map rule_number l.rules)
