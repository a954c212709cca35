-- `decode` answers by the definition: the check, then the room, then the octets.
use mathlib.Core.Path.{◌≡◌, ap, sym, subst, ◌∙◌}
use Prim.Native.Nat.{ℕ}
use native.Mathlib.Omega.{arith}
use lib.ListN.{length}
use lib.Seq.{length-take-le}
use Rattle.std.specs.Prelude.{Result, Ok, Err, IsErrAnd}
use Rattle.base64url.specs.declared.DecodeError.{DecodeError}
use Rattle.base64url.specs.Answers.{Decodes}
use Rattle.base64url.specs.Base64url.{decoded}
use Rattle.base64url.proofs.Acceptance.{sound as accepted-values}
use Rattle.base64url.proofs.Answers.{decode_refused, decode_short, decode_octets, faultless}
use Rattle.base64url.proofs.Covering.{copied_front}
use Rattle.base64url.proofs.Laws.{decoded_length_lem}
use Rattle.base64url.proofs.decode.Goals as goal

-- `?` hands the error on as it is
handed_on : (r : Result ℕ DecodeError) (e : DecodeError) → IsErrAnd r (λ x. x ≡ e) → Err e ≡ r
handed_on (Ok n) e given = absurd given
handed_on (Err x) e given = ap Err (sym given)

pub returns-in_err-check : goal.returns-in_err-check
returns-in_err-check c =
    let text = c.args.text.now in
    let out = c.args.out.now in
    subst (λ (r : Result ℕ DecodeError). Decodes text out r out)
    (handed_on c.from_residual.result _ c.from_residual.ensures.1)
    (decode_refused text out _ c.in_err-check.ensures)

pub returns-then-out-n : goal.returns-then-out-n
returns-then-out-n c =
    let text = c.args.text.now in
    decode_short text c.args.out.now c.in_ok-check.ensures (omega (arith, decoded_length_lem text))

pub decode-requires : goal.decode-requires
decode-requires c =
    let text = c.args.text.now in
    let n = c.decoded_length-n.result in
    let size : n ≡ length (decoded text) = omega (arith, decoded_length_lem text) in
    record {
      all_below = (accepted-values text (faultless text c.args.out.now c.in_ok-check.ensures)).0;
      out_len = length-take-le n c.args.out.now (omega arith) ∙ size;
    }

pub returns : goal.returns
returns c =
    let text = c.args.text.now in
    let n = c.decoded_length-n.result in
    let size : n ≡ length (decoded text) = omega (arith, decoded_length_lem text) in
    decode_octets text c.args.out.now c.in_ok-check.ensures n _ (omega (arith, decoded_length_lem text))
    (omega arith) (copied_front n c.args.out.now _ (decoded text) c.decode.ensures size)
