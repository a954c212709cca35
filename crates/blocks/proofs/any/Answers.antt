-- `any` tells whether one stands in the text: in a block that is not passed, or in what is left.
use Rattle.std.proofs.Common.{ℕ, ◌-◌, not, eqb, length, drop, take_all, length-drop, ap, sym, ◌∙◌, arith}
use Rattle.std.specs.List.{count_by}
use Rattle.blocks.proofs.Sought.{some_counted, some_there, from_there}
use Rattle.blocks.proofs.any.Goals as goal

pub returns-then-s-at : goal.returns-then-s-at
returns-then-s-at g c =
    let past = c.pass-at.ensures in
    sym (some_there (g.K.Kind.has c.args.kind) c.args.s.now _ _ (past.some c.if-s-at.true))

pub returns : goal.returns
returns g c =
    let has = g.K.Kind.has c.args.kind in
    let s = c.args.s.now in
    let at = c.pass-at.result in
    let rest = take_all (length s - at) (drop at s) (omega (arith, length-drop at s)) in
    ap (λ (n : ℕ). not (eqb n 0)) (c.count.ensures ∙ ap (count_by has) rest) ∙ some_counted has (drop at s)
    ∙ sym (from_there has s at c.pass-at.ensures.none)
