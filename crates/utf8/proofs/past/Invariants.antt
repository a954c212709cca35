-- The octets so far are in their ranges, and those to come are the rest of the character and what follows it.
use Prim.Native.Nat.{◌+◌, ◌-◌}
use mathlib.Core.Path.{◌≡◌}
use mathlib.Core.Bool.{◌&&◌}
use mathlib.Core.List.{◌∷◌}
use lib.ListN.{drop, replicate}
use Rattle.grammar.specs.Utf8.{to, tail, utf8_after}
use Rattle.utf8.proofs.past.Given as goal

abbrev pub invariant-loop-k : goal.invariant-loop-k
invariant-loop-k g l =
    (l.right && utf8_after (replicate (g.row.N - l.k) tail) (drop (l.at + l.k) l.s))
    ≡ utf8_after (to l.low l.high ∷ replicate (g.row.N - 2) tail) (drop (l.at + 1) l.s)
