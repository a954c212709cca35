-- What is left of the word, read from here, is the whole word, read from the start.
use Prim.Native.Nat.{◌-◌}
use mathlib.Core.Path.{◌≡◌}
use lib.ListN.{length, drop}
use Rattle.grammar.specs.Reader.{word_at}
use Rattle.json_read.proofs.Position.word.Given as goal

abbrev pub invariant-loop-k : goal.invariant-loop-k
invariant-loop-k l = word_at (drop l.k l.w) l.s l.p.at ≡ word_at (drop l.initial.k l.w) l.s l.initial.p.at

abbrev pub decreases-loop-k : goal.decreases-loop-k
decreases-loop-k l = length l.w - l.k
