-- What is to come from the cursor equals what is left of the octets exactly where the wholes are equal.
use Prim.Native.Nat.{◌-◌}
use mathlib.Core.Path.{ap₂, ◌∙◌}
use native.Mathlib.Omega.{arith}
use lib.ListN.{length, take, drop, length-drop}
use lib.Seq.{take_all}
use Rattle.grammar.specs.Spellings.{equal}
use Rattle.spelling.proofs.Compare.{common_has}
use Rattle.spelling.proofs.Answering.{differ_octet, same_octet, octets_end}
use Rattle.spelling.proofs.has.Goals as goal

pub returns-then-differ_at : goal.returns-then-differ_at
returns-then-differ_at c = c.differ_at.ensures c.if-differ_at.true ∙ common_has c.args.a.now c.args.w.now _ c.common_octets-k.ensures

pub loop-c-init : goal.loop-c-init
loop-c-init c =
    let k = c.common_octets-k.result in
    let w = c.args.w.now in
    ap₂ equal c.new-p.ensures (take_all (length w - k) (drop k w) (omega (arith, length-drop k w)))
    ∙ common_has c.args.a.now w k c.common_octets-k.ensures

pub returns-then-ne : goal.returns-then-ne
returns-then-ne c =
    let w = c.args.w.now in
    let k = c.common_octets-k.result in
    differ_octet c.loop-c.p c.next.new.self c.next.result c.next.ensures (take (length w - k) (drop k w)) c.loop-c.c-index c.loop-c-test.true c.if-ne.ensures
    ∙ c.loop-c.invariant

pub loop-c-preserved : goal.loop-c-preserved
loop-c-preserved c =
    let w = c.args.w.now in
    let k = c.common_octets-k.result in
    same_octet c.loop-c.p c.next.new.self c.next.result c.next.ensures (take (length w - k) (drop k w)) c.loop-c.c-index c.loop-c-test.true c.if-ne.ensures
    ∙ c.loop-c.invariant

pub returns : goal.returns
returns c =
    let w = c.args.w.now in
    let k = c.common_octets-k.result in
    octets_end c.loop-c.p c.next-2.new.self c.next-2.result c.next-2.ensures (take (length w - k) (drop k w)) c.loop-c.c-index c.loop-c-test.false c.is_none.result c.is_none.ensures
    ∙ c.loop-c.invariant
