-- `read` asks 1 to 3 and hands over the rest, with as large a table as the form needs.
use mathlib.Core.Path.{ap, sym, ◌∙◌}
use native.Mathlib.Omega.{arith}
use lib.ListN.{length}
use Rattle.jwe.specs.Judge.{call}
use Rattle.jwe.specs.Inner.Stages.{table_room}
use Rattle.jwe.proofs.Handing.{answers_refused}
use Rattle.jwe.proofs.Handing.{refusal_header, refusal_list, refusal_long, refusal_names}
use Rattle.prelude.specs.declared.refusal.Refusal.TheVariants.{ShortOutput, LongMessage, KnownNames}
use Rattle.jwe.proofs.Exits.{refused_as}
use Rattle.jwe.proofs.read.Goals as goal

pub returns-then-header-lt-HEADER_ROOM : goal.returns-then-header-lt-HEADER_ROOM
returns-then-header-lt-HEADER_ROOM c =
    let both = answers_refused ((let given = c.args in
    call given.message.now given.known.now given.recipient (length given.header.now) (length given.list.now))) c.args.header.now c.args.list.now 1
    (refusal_header ((let given = c.args in
    call given.message.now given.known.now given.recipient (length given.header.now) (length given.list.now))) c.if-header-lt-HEADER_ROOM.true) (omega arith)
    _ (refused_as ShortOutput) in
    record { r_value = both.0; header_after = both.1.0; list_after = both.1.1 }

pub returns-then-list-lt-LIST_ROOM : goal.returns-then-list-lt-LIST_ROOM
returns-then-list-lt-LIST_ROOM c =
    let both = answers_refused ((let given = c.args in
    call given.message.now given.known.now given.recipient (length given.header.now) (length given.list.now))) c.args.header.now c.args.list.now 1
    (refusal_list ((let given = c.args in
    call given.message.now given.known.now given.recipient (length given.header.now) (length given.list.now)))
    c.if-header-lt-HEADER_ROOM.false c.if-list-lt-LIST_ROOM.true) (omega arith)
    _ (refused_as ShortOutput) in
    record { r_value = both.0; header_after = both.1.0; list_after = both.1.1 }

pub returns-then-message-gt-LONGEST : goal.returns-then-message-gt-LONGEST
returns-then-message-gt-LONGEST c =
    let both = answers_refused ((let given = c.args in
    call given.message.now given.known.now given.recipient (length given.header.now) (length given.list.now))) c.args.header.now c.args.list.now 2
    (refusal_long ((let given = c.args in
    call given.message.now given.known.now given.recipient (length given.header.now) (length given.list.now)))
    c.if-header-lt-HEADER_ROOM.false c.if-list-lt-LIST_ROOM.false c.if-message-gt-LONGEST.true) (omega arith)
    _ (refused_as LongMessage) in
    record { r_value = both.0; header_after = both.1.0; list_after = both.1.1 }

pub returns-then-not-sound : goal.returns-then-not-sound
returns-then-not-sound c =
    let both = answers_refused ((let given = c.args in
    call given.message.now given.known.now given.recipient (length given.header.now) (length given.list.now))) c.args.header.now c.args.list.now 3
    (refusal_names ((let given = c.args in
    call given.message.now given.known.now given.recipient (length given.header.now) (length given.list.now)))
    c.if-header-lt-HEADER_ROOM.false c.if-list-lt-LIST_ROOM.false c.if-message-gt-LONGEST.false
    (sym c.sound.ensures ∙ c.if-not-sound.true)) (omega arith)
    _ (refused_as KnownNames) in
    record { r_value = both.0; header_after = both.1.0; list_after = both.1.1 }

pub hand_over-requires : goal.hand_over-requires
hand_over-requires c =
    let opens = sym c.opens_object.ensures ∙ c.if-opens_object.true in
    record {
      message_len_bound = c.if-message-gt-LONGEST.false;
      known_value = sym c.sound.ensures ∙ c.if-not-sound.false;
      table_len = ap table_room (sym opens);
      header_room_in_bounds = c.if-header-lt-HEADER_ROOM.false;
      list_room_in_bounds = c.if-list-lt-LIST_ROOM.false;
    }

pub returns-then-opens_object : goal.returns-then-opens_object
returns-then-opens_object c =
    record {
      r_value = c.hand_over.ensures.r_value;
      header_after = c.hand_over.ensures.header_after;
      list_after = c.hand_over.ensures.list_after;
    }

pub hand_over-requires-2 : goal.hand_over-requires-2
hand_over-requires-2 c =
    let opens = sym c.opens_object.ensures ∙ c.if-opens_object.false in
    record {
      message_len_bound = c.if-message-gt-LONGEST.false;
      known_value = sym c.sound.ensures ∙ c.if-not-sound.false;
      table_len = ap table_room (sym opens);
      header_room_in_bounds = c.if-header-lt-HEADER_ROOM.false;
      list_room_in_bounds = c.if-list-lt-LIST_ROOM.false;
    }

pub returns : goal.returns
returns c =
    record {
      r_value = c.hand_over-2.ensures.r_value;
      header_after = c.hand_over-2.ensures.header_after;
      list_after = c.hand_over-2.ensures.list_after;
    }
