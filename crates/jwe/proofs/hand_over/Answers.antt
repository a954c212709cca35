-- `hand_over` hands out what judging answers; what judging wrote to its own memory is copied out.
use mathlib.Core.Path.{◌≡◌, refl, ap, sym, ◌∙◌}
use mathlib.Core.List.{List}
use Prim.Native.Nat.{ℕ, ◌<◌}
use native.Mathlib.Omega.{arith}
use lib.ListN.{length}
use Rattle.prelude.specs.Buffer.{written}
use Rattle.names.specs.Names.{names}
use Rattle.names.proofs.Laws.{sound_filled}
use Rattle.grammar.specs.Reader.{opens_object}
use Rattle.rows.specs.Rows.{Entry}
use Rattle.rows.specs.Tables.{listed}
use Rattle.prelude.specs.Refusals.{first}
use Rattle.jwe.specs.Judge.{call, refusal, outcome, accepted}
use Rattle.jwe.specs.Answers.{numbers, as_result, reading_of}
use Rattle.jwe.proofs.Answering.{number_is, answered_refused, answered_accepted}
use Rattle.jwe.proofs.Handing.{judging, Stands, stands, room_most}
use Rattle.jwe.proofs.Handing.{answers_refused, answers_accepted, refusal_judged}
use borrow.Author.Rules.{rules}
use Rattle.jwe.proofs.Exits.{refused_above, judges_reading, same_refusal}
use Rattle.jwe.proofs.hand_over.Goals as goal

pub judge-requires : goal.judge-requires
judge-requires c =
    record {
      message_len_bound = c.requires.message_len_bound;
      known_value = sound_filled _ c.requires.known_value;
      text_len = search rules;
      table_len = c.requires.table_len;
    }

pub returns-in_err-reading : goal.returns-in_err-reading
returns-in_err-reading c =
    let number-first : (let given = c.args in
    (as_result c.judge.result).number ≡ first (judging given.message.now (names given.known.now) given.recipient)) = (let given = c.args in
    number_is given.message.now (outcome given.message.now given.recipient) _ (as_result c.judge.result)
    c.judge.ensures.answers) in
    let judged-first : (let given = c.args in
    refusal ((let given = c.args in
    call given.message.now given.known.now given.recipient (length given.header.now) (length given.list.now))) ≡ first (judging given.message.now (names given.known.now) given.recipient)) = (refusal_judged ((let given = c.args in
    call given.message.now given.known.now given.recipient (length given.header.now) (length given.list.now))) c.requires.header_room_in_bounds c.requires.list_room_in_bounds c.requires.message_len_bound c.requires.known_value) in
    let given = c.args in
    let message = given.message.now in
    let n = first (judging message (names given.known.now) given.recipient) in
    let some : 0 < n = omega (arith, number-first, refused_above c.in_err-reading.was) in
    let both = answers_refused ((let given = c.args in
    call given.message.now given.known.now given.recipient (length given.header.now) (length given.list.now))) given.header.now given.list.now n (judged-first) some
    (as_result c.judge.result)
    (c.judge.ensures.answers
    ∙ sym (answered_refused message (outcome message given.recipient) refl some)) in
    record { r_value = ap numbers (same_refusal _ _ _ c.from_residual.ensures.1 c.in_err-reading.was) ∙ both.0; header_after = both.1.0; list_after = both.1.1 }

pub slice_bounds-text-end : goal.slice_bounds-text-end
slice_bounds-text-end c =
    let number-first : (let given = c.args in
    (reading_of c.in_ok-reading.reading).number ≡ first (judging given.message.now (names given.known.now) given.recipient)) = (let given = c.args in
    number_is given.message.now (outcome given.message.now given.recipient) _ (reading_of c.in_ok-reading.reading)
    (judges_reading c.in_ok-reading.was c.judge.ensures).answers) in
    let passes : (let given = c.args in
    first (judging given.message.now (names given.known.now) given.recipient) ≡ 0) = sym (number-first) in
    let accepts : (let given = c.args in
    numbers (reading_of c.in_ok-reading.reading)
    ≡ accepted given.message.now (outcome given.message.now given.recipient)) = (let given = c.args in
    (judges_reading c.in_ok-reading.was c.judge.ensures).answers
    ∙ sym (answered_accepted given.message.now (outcome given.message.now given.recipient) (passes))) in
    let held : (let given = c.args in
    Stands (outcome given.message.now given.recipient) c.judge.new.text
    c.judge.new.table (reading_of c.in_ok-reading.reading).header (reading_of c.in_ok-reading.reading).parameters) = (let given = c.args in
    let k = (judges_reading c.in_ok-reading.was c.judge.ensures) in
    stands given.message.now _ _ _ _ (accepts) (k.header (passes)) (k.entries (passes)).1 (search rules)) in
    omega (arith, (held).size, (held).within)

pub slice_bounds-copy_octets-end : goal.slice_bounds-copy_octets-end
slice_bounds-copy_octets-end c =
    let number-first : (let given = c.args in
    (reading_of c.in_ok-reading.reading).number ≡ first (judging given.message.now (names given.known.now) given.recipient)) = (let given = c.args in
    number_is given.message.now (outcome given.message.now given.recipient) _ (reading_of c.in_ok-reading.reading)
    (judges_reading c.in_ok-reading.was c.judge.ensures).answers) in
    let passes : (let given = c.args in
    first (judging given.message.now (names given.known.now) given.recipient) ≡ 0) = sym (number-first) in
    let accepts : (let given = c.args in
    numbers (reading_of c.in_ok-reading.reading)
    ≡ accepted given.message.now (outcome given.message.now given.recipient)) = (let given = c.args in
    (judges_reading c.in_ok-reading.was c.judge.ensures).answers
    ∙ sym (answered_accepted given.message.now (outcome given.message.now given.recipient) (passes))) in
    let held : (let given = c.args in
    Stands (outcome given.message.now given.recipient) c.judge.new.text
    c.judge.new.table (reading_of c.in_ok-reading.reading).header (reading_of c.in_ok-reading.reading).parameters) = (let given = c.args in
    let k = (judges_reading c.in_ok-reading.was c.judge.ensures) in
    stands given.message.now _ _ _ _ (accepts) (k.header (passes)) (k.entries (passes)).1 (search rules)) in
    let h = held in h.size ∙ sym (ap length h.front)

pub copy_octets-requires : goal.copy_octets-requires
copy_octets-requires c =
    let number-first : (let given = c.args in
    (reading_of c.in_ok-reading.reading).number ≡ first (judging given.message.now (names given.known.now) given.recipient)) = (let given = c.args in
    number_is given.message.now (outcome given.message.now given.recipient) _ (reading_of c.in_ok-reading.reading)
    (judges_reading c.in_ok-reading.was c.judge.ensures).answers) in
    let passes : (let given = c.args in
    first (judging given.message.now (names given.known.now) given.recipient) ≡ 0) = sym (number-first) in
    let accepts : (let given = c.args in
    numbers (reading_of c.in_ok-reading.reading)
    ≡ accepted given.message.now (outcome given.message.now given.recipient)) = (let given = c.args in
    (judges_reading c.in_ok-reading.was c.judge.ensures).answers
    ∙ sym (answered_accepted given.message.now (outcome given.message.now given.recipient) (passes))) in
    let held : (let given = c.args in
    Stands (outcome given.message.now given.recipient) c.judge.new.text
    c.judge.new.table (reading_of c.in_ok-reading.reading).header (reading_of c.in_ok-reading.reading).parameters) = (let given = c.args in
    let k = (judges_reading c.in_ok-reading.was c.judge.ensures) in
    stands given.message.now _ _ _ _ (accepts) (k.header (passes)) (k.entries (passes)).1 (search rules)) in
    let h = held in
    omega (arith, ap length h.front, h.within, c.requires.header_room_in_bounds)

pub invariant_of-entries : goal.invariant_of-entries
invariant_of-entries c =
    let number-first : (let given = c.args in
    (reading_of c.in_ok-reading.reading).number ≡ first (judging given.message.now (names given.known.now) given.recipient)) = (let given = c.args in
    number_is given.message.now (outcome given.message.now given.recipient) _ (reading_of c.in_ok-reading.reading)
    (judges_reading c.in_ok-reading.was c.judge.ensures).answers) in
    let passes : (let given = c.args in
    first (judging given.message.now (names given.known.now) given.recipient) ≡ 0) = sym (number-first) in
    let accepts : (let given = c.args in
    numbers (reading_of c.in_ok-reading.reading)
    ≡ accepted given.message.now (outcome given.message.now given.recipient)) = (let given = c.args in
    (judges_reading c.in_ok-reading.was c.judge.ensures).answers
    ∙ sym (answered_accepted given.message.now (outcome given.message.now given.recipient) (passes))) in
    let held : (let given = c.args in
    Stands (outcome given.message.now given.recipient) c.judge.new.text
    c.judge.new.table (reading_of c.in_ok-reading.reading).header (reading_of c.in_ok-reading.reading).parameters) = (let given = c.args in
    let k = (judges_reading c.in_ok-reading.was c.judge.ensures) in
    stands given.message.now _ _ _ _ (accepts) (k.header (passes)) (k.entries (passes)).1 (search rules)) in
    let h = held in
    record { fits = h.few }

pub lay-requires : goal.lay-requires
lay-requires c =
    let number-first : (let given = c.args in
    (reading_of c.in_ok-reading.reading).number ≡ first (judging given.message.now (names given.known.now) given.recipient)) = (let given = c.args in
    number_is given.message.now (outcome given.message.now given.recipient) _ (reading_of c.in_ok-reading.reading)
    (judges_reading c.in_ok-reading.was c.judge.ensures).answers) in
    let passes : (let given = c.args in
    first (judging given.message.now (names given.known.now) given.recipient) ≡ 0) = sym (number-first) in
    let accepts : (let given = c.args in
    numbers (reading_of c.in_ok-reading.reading)
    ≡ accepted given.message.now (outcome given.message.now given.recipient)) = (let given = c.args in
    (judges_reading c.in_ok-reading.was c.judge.ensures).answers
    ∙ sym (answered_accepted given.message.now (outcome given.message.now given.recipient) (passes))) in
    let held : (let given = c.args in
    Stands (outcome given.message.now given.recipient) c.judge.new.text
    c.judge.new.table (reading_of c.in_ok-reading.reading).header (reading_of c.in_ok-reading.reading).parameters) = (let given = c.args in
    let k = (judges_reading c.in_ok-reading.was c.judge.ensures) in
    stands given.message.now _ _ _ _ (accepts) (k.header (passes)) (k.entries (passes)).1 (search rules)) in
    let h = held in
    let most = room_most (opens_object c.args.message.now) in
    let size = (judges_reading c.in_ok-reading.was c.judge.ensures).same_table in
    omega (arith, h.few, size, c.requires.table_len, most, c.requires.list_room_in_bounds)

pub returns : goal.returns
returns c =
    let number-first : (let given = c.args in
    (reading_of c.in_ok-reading.reading).number ≡ first (judging given.message.now (names given.known.now) given.recipient)) = (let given = c.args in
    number_is given.message.now (outcome given.message.now given.recipient) _ (reading_of c.in_ok-reading.reading)
    (judges_reading c.in_ok-reading.was c.judge.ensures).answers) in
    let passes : (let given = c.args in
    first (judging given.message.now (names given.known.now) given.recipient) ≡ 0) = sym (number-first) in
    let accepts : (let given = c.args in
    numbers (reading_of c.in_ok-reading.reading)
    ≡ accepted given.message.now (outcome given.message.now given.recipient)) = (let given = c.args in
    (judges_reading c.in_ok-reading.was c.judge.ensures).answers
    ∙ sym (answered_accepted given.message.now (outcome given.message.now given.recipient) (passes))) in
    let held : (let given = c.args in
    Stands (outcome given.message.now given.recipient) c.judge.new.text
    c.judge.new.table (reading_of c.in_ok-reading.reading).header (reading_of c.in_ok-reading.reading).parameters) = (let given = c.args in
    let k = (judges_reading c.in_ok-reading.was c.judge.ensures) in
    stands given.message.now _ _ _ _ (accepts) (k.header (passes)) (k.entries (passes)).1 (search rules)) in
    let judged-first : (let given = c.args in
    refusal ((let given = c.args in
    call given.message.now given.known.now given.recipient (length given.header.now) (length given.list.now))) ≡ first (judging given.message.now (names given.known.now) given.recipient)) = (refusal_judged ((let given = c.args in
    call given.message.now given.known.now given.recipient (length given.header.now) (length given.list.now))) c.requires.header_room_in_bounds c.requires.list_room_in_bounds c.requires.message_len_bound c.requires.known_value) in
    let given = c.args in
    let h = held in
    let both = answers_accepted ((let given = c.args in
    call given.message.now given.known.now given.recipient (length given.header.now) (length given.list.now))) given.header.now given.list.now
    (judged-first ∙ passes) (reading_of c.in_ok-reading.reading) (accepts) _ _
    (c.copy_octets.ensures ∙ ap (λ (x : List ℕ). written 0 x given.header.now) h.front)
    (c.lay.ensures ∙ ap (λ (es : List Entry). written 0 (listed es) given.list.now) h.entries) in
    record { r_value = both.0; header_after = both.1.0; list_after = both.1.1 }
