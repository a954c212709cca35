-- `decode_block` writes a block's octets: values, words, octets, and the laws that these are what the text decodes to.
use mathlib.Core.Path.{ap, ◌∙◌}
use native.Mathlib.Omega.{arith}
use Rattle.prelude.proofs.Lists.{all_below}
use Rattle.base64url.specs.Inner.Words.{words_of, octets_of}
use Rattle.base64url.proofs.Laws.{decoded_length_lem}
use Rattle.base64url.proofs.Joining.{block_octets}
use Rattle.base64url.proofs.decoding.decode_block.Goals as goal

pub put_words-requires : goal.put_words-requires
put_words-requires c = omega (arith, decoded_length_lem c.args.text.now)

pub returns : goal.returns
returns c =
    let text = c.args.text.now in
    let octet = all_below 256 text (λ k h. c.fits-text k) in
    c.put_words.ensures ∙ ap octets_of (c.block_words.ensures ∙ ap words_of c.block_values.ensures)
    ∙ block_octets text octet c.requires.all_below (omega arith)
