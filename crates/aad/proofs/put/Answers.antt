-- `put` writes the header, the full stop and the aad, one behind the other.
use native.Mathlib.Omega.{arith}
use Rattle.prelude.proofs.Writing.{ended}
use Rattle.aad.proofs.Joining.{aad_fits, behind_aad}
use Rattle.aad.proofs.put.Goals as goal

pub copy_octets-requires-2 : goal.copy_octets-requires-2
copy_octets-requires-2 c = aad_fits c.args.header.now c.args.aad.now c.args.out.now c.requires c.copy_octets.ensures

pub shape_of-out : goal.shape_of-out
shape_of-out c =
    (behind_aad c.args.header.now c.args.aad.now c.args.out.now c.requires c.copy_octets.ensures c.copy_octets-2.ensures).same

pub returns : goal.returns
returns c =
    let all = ended (behind_aad c.args.header.now c.args.aad.now c.args.out.now c.requires c.copy_octets.ensures
    c.copy_octets-2.ensures) in
    record { value = omega (arith, all.0); out_after = all.1 }
