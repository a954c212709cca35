-- `judge` hands up what the path answers that the message opens.
use mathlib.Core.Path.{ap, sym, ◌∙◌}
use mathlib.Core.Bool.{true, false}
use native.Mathlib.Omega.{arith}
use Rattle.names.specs.Names.{names}
use Rattle.jwe.specs.Inner.Stages.{table_room}
use Rattle.jwe.proofs.Handing.{judges_as}
use Rattle.jwe.specs.Answers.{as_result}
use Rattle.jwe.proofs.judge.Goals as goal

pub judge-requires : goal.judge-requires
judge-requires c =
    let opens = sym c.opens_object.ensures ∙ c.if-opens_object.true in
    record {
      message_len_bound = c.requires.message_len_bound;
      known_value = c.requires.known_value;
      text_len = c.requires.text_len;
      table_len = c.requires.table_len ∙ ap table_room opens;
    }

pub returns-then-opens_object : goal.returns-then-opens_object
returns-then-opens_object c =
    let given = c.args in
    judges_as given.message.now (names given.known.now) given.recipient true
    (sym c.opens_object.ensures ∙ c.if-opens_object.true) (as_result c.judge.result) given.text.now
    c.judge.new.text given.table.now c.judge.new.table c.judge.ensures

pub judge-requires-2 : goal.judge-requires-2
judge-requires-2 c =
    let opens = sym c.opens_object.ensures ∙ c.if-opens_object.false in
    record {
      message_len_bound = c.requires.message_len_bound;
      known_value = c.requires.known_value;
      text_len = c.requires.text_len;
      header_table_in_bounds = omega (arith, c.requires.table_len ∙ ap table_room opens);
    }

pub returns : goal.returns
returns c =
    let given = c.args in
    judges_as given.message.now (names given.known.now) given.recipient false
    (sym c.opens_object.ensures ∙ c.if-opens_object.false) (as_result c.judge-2.result) given.text.now
    c.judge-2.new.text given.table.now c.judge-2.new.table c.judge-2.ensures
