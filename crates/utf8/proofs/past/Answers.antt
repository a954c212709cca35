-- Each octet that is in its range moves the test on; or there are too few.
use Prim.Native.Nat.{suc, ◌+◌, ◌-◌}
use mathlib.Core.Path.{◌≡◌, ap, sym, ◌∙◌}
use mathlib.Core.Bool.{◌&&◌}
use mathlib.Core.List.{◌∷◌}
use native.Mathlib.Omega.{arith}
use lib.ListN.{drop, replicate, length-replicate}
use Rattle.grammar.specs.Utf8.{to, tail, utf8_after}
use Rattle.utf8.proofs.Utf8Parts.{range_here, range_more, tested, too_few}
use Rattle.utf8.proofs.past.Goals as goal

pub returns-then-s-at-clause-result_value : goal.returns-then-s-at-clause-result_value
returns-then-s-at-clause-result_value g c =
    too_few c.args.s.now c.args.at (to c.args.low c.args.high ∷ replicate (g.row.N - 2) tail) (omega (arith, length-replicate (g.row.N - 2) tail)) c.requires.here

pub loop-k-init : goal.loop-k-init
loop-k-init g c =
    rw c.is_within-right.ensures
    (sym (range_here c.args.s.now (c.args.at + 1) (to c.args.low c.args.high) (replicate (g.row.N - 2) tail) (c.args.at + 2) (omega arith) (omega arith)))

pub loop-k-preserved : goal.loop-k-preserved
loop-k-preserved g c =
    let s = c.args.s.now in
    let at = c.args.at in
    let k = c.loop-k.k in
    let one : suc (g.row.N - (k + 1)) ≡ g.row.N - k = omega arith in
    rw c.is_within-right-in-loop-k.ensures
    (range_more s (at + k) tail (replicate (g.row.N - (k + 1)) tail) (at + (k + 1)) c.loop-k.right (omega arith) (omega arith)
    ∙ ap (λ n. c.loop-k.right && utf8_after (replicate n tail) (drop (at + k) s)) one
    ∙ c.loop-k.invariant)

pub returns-clause-result_value : goal.returns-clause-result_value
returns-clause-result_value g c =
    rw c.then_some.ensures (tested c.args.s.now c.loop-k.right c.args.at g.row.N c.loop-k.k (omega arith) ∙ c.loop-k.invariant)
