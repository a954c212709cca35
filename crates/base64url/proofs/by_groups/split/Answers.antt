-- `split` writes octets' values: group by group, and then what is left.
use Prim.Native.Nat.{◌+◌, ◌*◌, ◌-◌}
use mathlib.Core.Path.{◌≡◌, ◌∙◌}
use mathlib.Core.List.{[]}
use native.Mathlib.Omega.{arith}
use lib.ListN.{length, get_or}
use Rattle.prelude.proofs.Writing.{begin}
use Rattle.base64url.specs.Base64url.{sextets}
use Rattle.base64url.proofs.Chunks.{Chunked, chunk_length, part_filled, rest_size, rest_filled}
use Rattle.base64url.proofs.Groups.{sextets_by}
use Rattle.base64url.proofs.Groups.{sextets_length}
use Rattle.base64url.proofs.by_groups.split.Goals as goal

pub loop-i-init : goal.loop-i-init
loop-i-init c = begin 0 (sextets c.args.octets.now) c.args.into.now (omega (arith, c.requires))

pub slice_bounds-copy_from_slice-end : goal.slice_bounds-copy_from_slice-end
slice_bounds-copy_from_slice-end c = omega (arith, sextets_length c.args.octets.now, c.as_chunks.ensures.front_len)

pub loop-i-preserved : goal.loop-i-preserved
loop-i-preserved c =
    let chunks : Chunked 3 c.args.octets.now c.as_chunks.result.0.now c.as_chunks.result.1.now =
    record { front = c.as_chunks.ensures.front; count = c.as_chunks.ensures.front_len; back = c.as_chunks.ensures.back } in
    let i = c.loop-i.i in
    let block = get_or c.as_chunks.result.0.now i [] in
    let size : 4 * i + 4 - 4 * i ≡ length (sextets block) = omega (arith, sextets_length block, chunk_length chunks i c.loop-i-test.true) in
    part_filled chunks sextets_by c.loop-i.invariant c.loop-i-test.true size (omega arith) (c.copy_from_slice.ensures.after ∙ c.split_three.ensures)

pub split_few-requires-clause-into_len : goal.split_few-requires-clause-into_len
split_few-requires-clause-into_len c =
    let chunks : Chunked 3 c.args.octets.now c.as_chunks.result.0.now c.as_chunks.result.1.now =
    record { front = c.as_chunks.ensures.front; count = c.as_chunks.ensures.front_len; back = c.as_chunks.ensures.back } in
    rest_size chunks sextets_by c.loop-i.invariant c.requires (omega arith) (omega arith)

pub returns : goal.returns
returns c =
    let chunks : Chunked 3 c.args.octets.now c.as_chunks.result.0.now c.as_chunks.result.1.now =
    record { front = c.as_chunks.ensures.front; count = c.as_chunks.ensures.front_len; back = c.as_chunks.ensures.back } in
    rest_filled chunks sextets_by c.loop-i.invariant c.requires (omega arith) (omega arith) c.split_few.ensures
