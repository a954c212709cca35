-- `block_values` writes a number near each character's value: a loop that writes a function of each element.
use mathlib.Core.List.{map}
use lib.ListN.{drop}
use Rattle.prelude.proofs.Writing.{Writing}
use Rattle.base64url.specs.Inner.Step.{near}
use Rattle.base64url.proofs.decoding.block_values.Given as goal

abbrev pub invariant-loop-k : goal.invariant-loop-k
invariant-loop-k l = Writing 0 (map near l.text) l.initial.six (map near (drop l.k l.text)) l.k l.six
