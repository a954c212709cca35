-- `seek` finds the first octet of the kind: none stands before it.
use Rattle.std.proofs.Common.{◌+◌, length, refl, arith}
use Rattle.blocks.proofs.Sought.{first_there, first_end}
use Rattle.blocks.proofs.seek.Goals as goal

pub returns-then-n-i : goal.returns-then-n-i
returns-then-n-i g c =
    let i = c.args.at + c.loop-few.few in
    first_end (g.K.Kind.has c.args.kind) c.args.s.now c.args.at i (omega arith) (omega arith) c.loop-few.invariant.none

pub returns-then-has : goal.returns-then-has
returns-then-has g c =
    let i = c.args.at + c.loop-few.few in
    first_there (g.K.Kind.has c.args.kind) c.args.s.now c.args.at i (omega arith) (omega arith) c.loop-few.invariant.none
    c.has.result c.has.ensures c.if-has.true

pub returns-then-has-2 : goal.returns-then-has-2
returns-then-has-2 g c =
    first_there (g.K.Kind.has c.args.kind) c.args.s.now c.args.at c.loop-i.i (omega arith) (omega arith) c.loop-i.invariant
    c.has-in-loop-i.result c.has-in-loop-i.ensures c.if-has-2.true

pub returns : goal.returns
returns g c =
    let n = length c.args.s.now in
    first_end (g.K.Kind.has c.args.kind) c.args.s.now c.args.at n (omega arith) refl
    (λ k d l h. c.loop-i.invariant k d l (omega (arith, h)))
