-- `characters` writes the character of each value: a loop that writes a function of each element.
use Prim.Native.Nat.{◌+◌}
use mathlib.Core.Path.{refl, ◌∙◌}
use mathlib.Core.List.{map}
use native.Mathlib.Omega.{arith}
use lib.ListN.{length-map}
use Rattle.prelude.proofs.Lists.{below_at}
use Rattle.prelude.proofs.Writing.{begin, put_mapped, mapped, done}
use Rattle.base64url.specs.Base64url.{character}
use Rattle.base64url.proofs.Covering.{written_whole}
use Rattle.base64url.proofs.encoding.characters.Goals as goal

pub loop-k-init : goal.loop-k-init
loop-k-init c = begin 0 (map character c.args.six.now) c.args.out.now (omega (arith, length-map c.args.six.now character))

pub character-requires : goal.character-requires
character-requires c = below_at 64 c.args.six.now c.requires.all_below c.loop-k.k (omega arith)

pub loop-k-preserved : goal.loop-k-preserved
loop-k-preserved c =
    put_mapped character c.args.six.now c.loop-k.k c.character.result (c.loop-k.k + 1) (omega arith) c.character.ensures refl c.loop-k.invariant

pub returns : goal.returns
returns c =
    let six = c.args.six.now in
    done (mapped character six c.loop-k.k (omega arith) c.loop-k.invariant)
    ∙ written_whole (map character six) c.args.out.now (omega (arith, length-map six character))
