-- `measure` answers the length by the law of lengths, cut at the limit.
use native.Mathlib.Omega.{arith}
use Rattle.base64url.proofs.Laws.{encoded_length_lem}
use Rattle.jwe_write.proofs.measure.Goals as goal

pub returns-then-n-gt-OVER : goal.returns-then-n-gt-OVER
returns-then-n-gt-OVER c =
    let octets = c.args.octets.now in
    omega (arith, encoded_length_lem octets, c.encoded_length-n.ensures)

pub returns : goal.returns
returns c =
    let octets = c.args.octets.now in
    omega (arith, encoded_length_lem octets, c.encoded_length-n.ensures)
