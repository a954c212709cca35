-- `decoded` leaves the buffer as it is where there is no protected header, whose text is then empty.
use mathlib.Core.Path.{◌∙◌}
use Rattle.headers.specs.Headers.{header_text}
use Rattle.headers.specs.Answers.{place_of}
use Rattle.jwe.proofs.JsonHeaders.{no_header_passes, no_header_left, text_there}
use Rattle.jwe.proofs.general.decoded.Goals as goal

pub returns-then-not-there : goal.returns-then-not-there
returns-then-not-there c =
    let args = c.args in
    let gone = c.if-not-there.true in
    let none = c.requires.place_value_2 in
    record {
      value = no_header_passes args.message.now args.there (place_of args.place) none gone;
      text_after = no_header_left args.message.now args.there (place_of args.place) none gone args.text.now;
    }

pub header-requires : goal.header-requires
header-requires c = record {
  place_value = c.requires.place_value;
  buffer_len = c.requires.text_len;
}

pub returns : goal.returns
returns c =
    let args = c.args in
    let header = header_text args.message.now (place_of args.place) in
    let there = c.if-not-there.false in
    record {
      value = c.header.ensures.value ∙ text_there args.there header there;
      text_after = c.header.ensures.buffer_after;
    }
