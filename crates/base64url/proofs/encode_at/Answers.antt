-- `encode_at` writes octets' text: block by block, and then what is left.
use Prim.Native.Nat.{◌+◌, ◌-◌}
use mathlib.Core.Path.{◌≡◌, refl, ◌∙◌}
use mathlib.Core.List.{[]}
use native.Mathlib.Omega.{arith}
use lib.ListN.{length, get_or, length-drop}
use lib.Seq.{length-take-le}
use Rattle.prelude.proofs.Writing.{begin}
use Rattle.base64url.specs.Base64url.{encoded}
use Rattle.base64url.proofs.Chunks.{Chunked, chunk_length, block_room, part_size, part_filled, rest_room, rest_done}
use Rattle.base64url.proofs.Covering.{copied}
use Rattle.base64url.proofs.Groups.{encoded_by}
use Rattle.base64url.proofs.Laws.{encoded_length_lem}
use Rattle.base64url.proofs.encode_at.Goals as goal

pub loop-block-init : goal.loop-block-init
loop-block-init c = begin c.args.at (encoded c.args.octets.now) c.args.out.now c.requires

pub slice_bounds-encode_block-end : goal.slice_bounds-encode_block-end
slice_bounds-encode_block-end c =
    let chunks : Chunked 48 c.args.octets.now c.as_chunks.result.0.now c.as_chunks.result.1.now =
    record { front = c.as_chunks.ensures.front; count = c.as_chunks.ensures.front_len; back = c.as_chunks.ensures.back } in
    let i = c.loop-block.block-index in
    let j = c.loop-block.j in
    let block = get_or c.as_chunks.result.0.now i [] in
    let size : j + 64 - j ≡ length (encoded block) =
    omega (arith, encoded_length_lem block, chunk_length chunks i c.loop-block-test.true) in
    omega (arith, block_room chunks (encoded_by 48 refl) c.loop-block.invariant c.loop-block-test.true)

pub encode_block-requires : goal.encode_block-requires
encode_block-requires c =
    let chunks : Chunked 48 c.args.octets.now c.as_chunks.result.0.now c.as_chunks.result.1.now =
    record { front = c.as_chunks.ensures.front; count = c.as_chunks.ensures.front_len; back = c.as_chunks.ensures.back } in
    let i = c.loop-block.block-index in
    let j = c.loop-block.j in
    let block = get_or c.as_chunks.result.0.now i [] in
    let size : j + 64 - j ≡ length (encoded block) =
    omega (arith, encoded_length_lem block, chunk_length chunks i c.loop-block-test.true) in
    part_size chunks (encoded_by 48 refl) c.loop-block.invariant c.loop-block-test.true size

pub loop-block-preserved : goal.loop-block-preserved
loop-block-preserved c =
    let chunks : Chunked 48 c.args.octets.now c.as_chunks.result.0.now c.as_chunks.result.1.now =
    record { front = c.as_chunks.ensures.front; count = c.as_chunks.ensures.front_len; back = c.as_chunks.ensures.back } in
    let i = c.loop-block.block-index in
    let j = c.loop-block.j in
    let block = get_or c.as_chunks.result.0.now i [] in
    let size : j + 64 - j ≡ length (encoded block) =
    omega (arith, encoded_length_lem block, chunk_length chunks i c.loop-block-test.true) in
    part_filled chunks (encoded_by 48 refl) c.loop-block.invariant c.loop-block-test.true size (omega arith) c.encode_block.ensures

pub slice_bounds-encode_few-end : goal.slice_bounds-encode_few-end
slice_bounds-encode_few-end c =
    let chunks : Chunked 48 c.args.octets.now c.as_chunks.result.0.now c.as_chunks.result.1.now =
    record { front = c.as_chunks.ensures.front; count = c.as_chunks.ensures.front_len; back = c.as_chunks.ensures.back } in
    let room = rest_room chunks (encoded_by 48 refl) c.loop-block.invariant (omega arith) in
    omega (arith, room, encoded_length_lem c.as_chunks.result.1.now)

pub encode_few-requires : goal.encode_few-requires
encode_few-requires c =
    let chunks : Chunked 48 c.args.octets.now c.as_chunks.result.0.now c.as_chunks.result.1.now =
    record { front = c.as_chunks.ensures.front; count = c.as_chunks.ensures.front_len; back = c.as_chunks.ensures.back } in
    let room = rest_room chunks (encoded_by 48 refl) c.loop-block.invariant (omega arith) in
    let j = c.loop-block.j in
    let rest = c.as_chunks.result.1.now in
    let small = c.as_chunks.ensures.back_len in
    let size : j + c.encoded_length.result - j ≡ length (encoded rest) = omega (arith, encoded_length_lem rest, small) in
    record {
      octets_len_bound = omega (arith, small);
      out_len = length-take-le (j + c.encoded_length.result - j) _ (omega (arith, length-drop j c.loop-block.out, room, size)) ∙ size;
    }

pub returns : goal.returns
returns c =
    let chunks : Chunked 48 c.args.octets.now c.as_chunks.result.0.now c.as_chunks.result.1.now =
    record { front = c.as_chunks.ensures.front; count = c.as_chunks.ensures.front_len; back = c.as_chunks.ensures.back } in
    let j = c.loop-block.j in
    let rest = c.as_chunks.result.1.now in
    let small = c.as_chunks.ensures.back_len in
    let size : j + c.encoded_length.result - j ≡ length (encoded rest) = omega (arith, encoded_length_lem rest, small) in
    let both = rest_done chunks (encoded_by 48 refl) c.loop-block.invariant {k = j + c.encoded_length.result} (omega arith) (omega (arith, size))
    (copied j (j + c.encoded_length.result - j) c.loop-block.out _ (encoded rest) c.encode_few.ensures size) in
    record { value = both.0; out_after = both.1 }
