-- `encode_block` writes a block's text: words, values, characters, and the law that the values are the octets' sextets.
use mathlib.Core.Path.{ap, ◌∙◌}
use native.Mathlib.Omega.{arith}
use lib.ListN.{length}
use Rattle.prelude.proofs.Lists.{all_below}
use Rattle.base64url.specs.Base64url.{encoded}
use Rattle.base64url.specs.Inner.Words.{spread_all}
use Rattle.base64url.proofs.Groups.{sextets_length, sextets_below}
use Rattle.base64url.proofs.Laws.{encoded_length_lem}
use Rattle.base64url.proofs.Spreading.{block_sextets}
use Rattle.base64url.proofs.encoding.encode_block.Goals as goal

pub characters-requires : goal.characters-requires
characters-requires c =
    let octets = c.args.octets.now in
    let octet = all_below 256 octets (λ k h. c.fits-octets k) in
    let whole = c.block_sextets.ensures ∙ ap spread_all c.block_sixes.ensures ∙ block_sextets octets octet (omega arith) in
    record {
      all_below = rw whole (sextets_below octets octet);
      out_len = omega (arith, encoded_length_lem octets, ap length whole, sextets_length octets);
    }

pub returns : goal.returns
unfolding encoded
returns c =
    let octets = c.args.octets.now in
    let octet = all_below 256 octets (λ k h. c.fits-octets k) in
    let whole = c.block_sextets.ensures ∙ ap spread_all c.block_sixes.ensures ∙ block_sextets octets octet (omega arith) in
    rw whole at c.characters.ensures
