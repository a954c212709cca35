-- `encode` answers by the definition: the room, then the text.
use mathlib.Core.Path.{◌∙◌}
use Prim.Native.Nat.{◌+◌, ◌<◌}
use native.Mathlib.Omega.{arith}
use lib.ListN.{length}
use Rattle.std.specs.Prelude.{Some, None}
use Rattle.base64url.specs.Base64url.{encoded}
use Rattle.base64url.proofs.Answers.{encode_full, encode_end, encode_leaves}
use Rattle.base64url.proofs.Laws.{encoded_length_lem}
use Rattle.base64url.proofs.encode.Goals as goal
use Rattle.base64url.proofs.encode.Goals.{then-out-at-via-then-out-at, then-out-at-via-else-out-at+then-out-at-2}

pub returns-then-out-at : goal.returns-then-out-at
returns-then-out-at c =
    let octets = c.args.octets.now in
    let out = c.args.out.now in
    let too_long : length out < c.args.at + length (encoded octets) = elim c.then-out-at.branch [
      | then-out-at-via-then-out-at w ↦ omega arith
      | then-out-at-via-else-out-at+then-out-at-2 w ↦ omega (arith, encoded_length_lem octets, w.encoded_length.ensures)
    ] in
    let answer = encode_full octets c.args.at (length out) too_long in
    record { value = answer; out_after = encode_leaves octets c.args.at out None answer }

pub encode_at-requires : goal.encode_at-requires
encode_at-requires c = omega (arith, encoded_length_lem c.args.octets.now, c.encoded_length.ensures)

pub returns : goal.returns
returns c =
    let octets = c.args.octets.now in
    let at = c.args.at in
    let out = c.args.out.now in
    let next = c.encode_at.result in
    let answer = encode_end octets at (length out) next c.encode_at.ensures.value
    (omega (arith, encoded_length_lem octets, c.encoded_length.ensures)) in
    record {
      value = answer;
      out_after = c.encode_at.ensures.out_after ∙ encode_leaves octets at out (Some next) answer;
    }
