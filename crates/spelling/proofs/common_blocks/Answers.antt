-- Blocks that both have, one after the other.
use Prim.Native.Nat.{◌+◌}
use native.Mathlib.Omega.{arith}
use Rattle.spelling.proofs.Compare.{common_block}
use Rattle.spelling.proofs.common_blocks.Goals as goal

pub loop-k-preserved : goal.loop-k-preserved
loop-k-preserved c =
    let start = c.args in
    let a = start.a.now in
    let b = start.b.now in
    let k = c.loop-k.k in
    let e = k + 64 in (
      omega arith,
      common_block a b k e (omega arith) (omega arith) (omega arith) c.loop-k.invariant.1
          (c.unlike.ensures (omega (arith, c.if-unlike-ne0.false))),
    )
