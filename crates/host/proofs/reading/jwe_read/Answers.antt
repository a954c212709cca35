-- `jwe_read` hands out what `read` promises: accepted, the numbers of its result; refused, the number alone.
use lib.ListN.{length}
use native.Mathlib.Omega.{arith}
use mathlib.Core.Path.{refl, ap, sym, ◌∙◌}
use Rattle.jwe.specs.Judge.{call}
use Rattle.jwe.specs.Answers.{numbers, as_result, reading_of}
use Rattle.jwe.proofs.Exits.{refused_above}
use Rattle.host.proofs.HandedOut.{too_little, numbers_small, reads_accepted, reads_refused}
use Rattle.host.proofs.reading.jwe_read.Goals as goal

pub returns-then-res-lt-ROOM : goal.returns-then-res-lt-ROOM
returns-then-res-lt-ROOM c =
    let both = too_little ((let given = c.args in
    call given.message.now given.known.now given.recipient (length given.header.now) (length given.list.now))) c.args.header.now c.args.list.now c.args.res.now c.if-res-lt-ROOM.true in
    record { answered = c.number.ensures ∙ both.0; decoded = both.1.0; listed = both.1.1.0; numbered = both.1.1.1 }

pub put_result-requires : goal.put_result-requires
put_result-requires c =
    let given = c.args in
    let answered = sym (ap (λ a. numbers (as_result a)) c.in-Ok.is) ∙ c.read.ensures.answered in
    record {
      all_below = numbers_small (call given.message.now given.known.now given.recipient (length given.header.now) (length given.list.now))
          given.header.now given.list.now given.res.now (reading_of c.in-Ok.reading) answered;
      result_room_in_bounds = c.if-res-lt-ROOM.false;
    }

pub returns-in-Ok : goal.returns-in-Ok
returns-in-Ok c =
    let given = c.args in
    let answered = sym (ap (λ a. numbers (as_result a)) c.in-Ok.is) ∙ c.read.ensures.answered in
    let both = reads_accepted (call given.message.now given.known.now given.recipient (length given.header.now) (length given.list.now))
    given.header.now given.list.now given.res.now (reading_of c.in-Ok.reading) answered
    c.if-res-lt-ROOM.false _ _ c.read.ensures.decoded c.read.ensures.listed refl _ c.put_result.ensures in
    record { answered = both.0; decoded = both.1.0; listed = both.1.1.0; numbered = both.1.1.1 }

pub returns-in-Err : goal.returns-in-Err
returns-in-Err c =
    let given = c.args in
    let told = c.number-in-Err.ensures ∙ sym (ap (λ r. (as_result r).number) c.in-Err.is) in
    let both = reads_refused (call given.message.now given.known.now given.recipient (length given.header.now) (length given.list.now))
    given.header.now given.list.now given.res.now (as_result c.read.result) c.read.ensures.answered
    c.if-res-lt-ROOM.false _ _ c.read.ensures.decoded c.read.ensures.listed (λ z. omega (arith, z, refused_above c.in-Err.is)) in
    record { answered = told ∙ both.0; decoded = both.1.0; listed = both.1.1.0; numbered = both.1.1.1 }
