-- `block_values` writes a number near each character's value: a loop that writes a function of each element.
use Prim.Native.Nat.{◌+◌}
use mathlib.Core.Path.{refl, ◌∙◌}
use mathlib.Core.List.{map}
use native.Mathlib.Omega.{arith}
use lib.ListN.{length-map}
use Rattle.prelude.proofs.Writing.{begin, put_mapped, mapped, done}
use Rattle.base64url.specs.Inner.Step.{near}
use Rattle.base64url.proofs.Covering.{written_whole}
use Rattle.base64url.proofs.decoding.block_values.Goals as goal

pub loop-k-init : goal.loop-k-init
loop-k-init c = begin 0 (map near c.args.text.now) c.args.six.now (omega (arith, length-map c.args.text.now near))

pub loop-k-preserved : goal.loop-k-preserved
loop-k-preserved c = put_mapped near c.args.text.now c.loop-k.k c.value.result (c.loop-k.k + 1) (omega arith) c.value.ensures refl c.loop-k.invariant

pub returns : goal.returns
returns c =
    let text = c.args.text.now in
    done (mapped near text c.loop-k.k (omega arith) c.loop-k.invariant)
    ∙ written_whole (map near text) c.args.six.now (omega (arith, length-map text near))
