-- `decode` writes a text's octets: block by block, and the rest group by group, by the table that it lends.
use Prim.Native.Nat.{◌+◌, ◌*◌, ◌-◌}
use mathlib.Core.Path.{◌≡◌, refl}
use mathlib.Core.List.{[]}
use native.Mathlib.Omega.{arith}
use lib.ListN.{length, get_or}
use Rattle.prelude.proofs.Writing.{begin}
use Rattle.base64url.specs.Base64url.{six_bits, decoded}
use Rattle.base64url.proofs.Chunks.{Chunked, chunk_below, rest_below, chunk_length, part_size, part_filled, rest_size, rest_filled}
use Rattle.base64url.proofs.Groups.{decoded_by}
use Rattle.base64url.proofs.Laws.{decoded_length_lem}
use Rattle.base64url.proofs.decoding.decode.Goals as goal

pub loop-i-init : goal.loop-i-init
loop-i-init c = begin 0 (decoded c.args.text.now) c.args.out.now (omega (arith, c.requires.out_len))

pub slice_bounds-decode_block-end : goal.slice_bounds-decode_block-end
slice_bounds-decode_block-end c = omega (arith, decoded_length_lem c.args.text.now, c.as_chunks.ensures.front_len)

pub decode_block-requires-clause-all_below : goal.decode_block-requires-clause-all_below
decode_block-requires-clause-all_below c =
    let chunks : Chunked 128 c.args.text.now c.as_chunks.result.0.now c.as_chunks.result.1.now =
    record { front = c.as_chunks.ensures.front; count = c.as_chunks.ensures.front_len; back = c.as_chunks.ensures.back } in
    chunk_below chunks c.loop-i.i c.loop-i-test.true 64 six_bits c.requires.all_below

pub decode_groups-requires-clause-all_below : goal.decode_groups-requires-clause-all_below
decode_groups-requires-clause-all_below c =
    let chunks : Chunked 128 c.args.text.now c.as_chunks.result.0.now c.as_chunks.result.1.now =
    record { front = c.as_chunks.ensures.front; count = c.as_chunks.ensures.front_len; back = c.as_chunks.ensures.back } in
    rest_below chunks 64 six_bits c.requires.all_below

pub decode_block-requires-clause-out_len : goal.decode_block-requires-clause-out_len
decode_block-requires-clause-out_len c =
    let chunks : Chunked 128 c.args.text.now c.as_chunks.result.0.now c.as_chunks.result.1.now =
    record { front = c.as_chunks.ensures.front; count = c.as_chunks.ensures.front_len; back = c.as_chunks.ensures.back } in
    let i = c.loop-i.i in
    let block = get_or c.as_chunks.result.0.now i [] in
    let size : 96 * i + 96 - 96 * i ≡ length (decoded block) = omega (arith, decoded_length_lem block, chunk_length chunks i c.loop-i-test.true) in
    part_size chunks (decoded_by 128 refl) c.loop-i.invariant c.loop-i-test.true size

pub loop-i-preserved : goal.loop-i-preserved
loop-i-preserved c =
    let chunks : Chunked 128 c.args.text.now c.as_chunks.result.0.now c.as_chunks.result.1.now =
    record { front = c.as_chunks.ensures.front; count = c.as_chunks.ensures.front_len; back = c.as_chunks.ensures.back } in
    let i = c.loop-i.i in
    let block = get_or c.as_chunks.result.0.now i [] in
    let size : 96 * i + 96 - 96 * i ≡ length (decoded block) = omega (arith, decoded_length_lem block, chunk_length chunks i c.loop-i-test.true) in
    part_filled chunks (decoded_by 128 refl) c.loop-i.invariant c.loop-i-test.true size (omega arith) c.decode_block.ensures

pub decode_groups-requires-clause-out_len : goal.decode_groups-requires-clause-out_len
decode_groups-requires-clause-out_len c =
    let chunks : Chunked 128 c.args.text.now c.as_chunks.result.0.now c.as_chunks.result.1.now =
    record { front = c.as_chunks.ensures.front; count = c.as_chunks.ensures.front_len; back = c.as_chunks.ensures.back } in
    rest_size chunks (decoded_by 128 refl) c.loop-i.invariant c.requires.out_len (omega arith) (omega arith)

pub returns : goal.returns
returns c =
    let chunks : Chunked 128 c.args.text.now c.as_chunks.result.0.now c.as_chunks.result.1.now =
    record { front = c.as_chunks.ensures.front; count = c.as_chunks.ensures.front_len; back = c.as_chunks.ensures.back } in
    rest_filled chunks (decoded_by 128 refl) c.loop-i.invariant c.requires.out_len (omega arith) (omega arith) c.decode_groups.ensures
