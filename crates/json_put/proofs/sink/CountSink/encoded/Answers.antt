-- `encoded` adds how long the text is, by the law of lengths.
use Rattle.std.proofs.Common.{arith}
use Rattle.base64url.proofs.Laws.{encoded_length_lem}
use Rattle.json_put.proofs.sink.CountSink.encoded.Goals as goal

pub returns : goal.returns
returns c = omega (arith, encoded_length_lem c.args.octets.now, c.encoded_length.ensures, c.saturating_add-self.ensures)
