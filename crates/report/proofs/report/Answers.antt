-- `report` asks the reader with as much lent as it wants, and writes the text that its answer asks for.
use mathlib.Core.Path.{◌≡◌, refl, ap, sym, subst, ◌∙◌}
use native.Mathlib.Omega.{arith}
use lib.ListN.{replicate}
use Rattle.prelude.specs.Buffer.{AllBelow}
use Rattle.jwe.specs.Judge.{result_of}
use Rattle.jwe.specs.Answers.{numbers, as_result, reading_of}
use Rattle.jwe.proofs.Exits.{refused_above}
use Rattle.jwe.proofs.Small.{limit, result_small}
use Rattle.report.specs.Report.{reading}
use Rattle.report.proofs.Reporting.{number_is, parameters_few, report_accepted, too_short, reports_long}
use Rattle.report.proofs.Reporting.{reports_accepted, reports_refused}
use Rattle.report.proofs.report.Goals as goal

pub returns-then-out-lt8192 : goal.returns-then-out-lt8192
returns-then-out-lt8192 c =
    let given = c.args in too_short given.message.now given.out.now c.if-out-lt8192.true

pub put_too_long-requires : goal.put_too_long-requires
put_too_long-requires c = c.if-out-lt8192.false

pub returns-then-message-gt61440 : goal.returns-then-message-gt61440
returns-then-message-gt61440 c =
    let given = c.args in
    reports_long given.message.now given.out.now c.if-out-lt8192.false c.if-message-gt61440.true _ _
    (c.put_too_long.ensures.value, (c.put_too_long.ensures.out_after, c.put_too_long.ensures.upper_bound))

pub put_accepted-requires : goal.put_accepted-requires
put_accepted-requires c =
    let message = c.args.message.now in
    let told = sym (ap (λ a. numbers (as_result a)) c.in-Ok.is) ∙ c.read.ensures.answered in
    let few = parameters_few message (reading_of c.in-Ok.reading) told refl in
    record {
      report_room_in_bounds = c.if-out-lt8192.false;
      all_below = subst (AllBelow limit) (sym told) (result_small (reading message));
      parameters_bound = few;
      list_width_in_bounds = omega (arith, few);
    }

pub returns-in-Ok : goal.returns-in-Ok
returns-in-Ok c =
    let given = c.args in
    let told = sym (ap (λ a. numbers (as_result a)) c.in-Ok.is) ∙ c.read.ensures.answered in
    reports_accepted given.message.now given.out.now c.if-out-lt8192.false c.if-message-gt61440.false
    (sym (number_is given.message.now (reading_of c.in-Ok.reading) told)) _
    (report_accepted given.message.now (reading_of c.in-Ok.reading) told refl (replicate 576 0) _
    c.read.ensures.listed) _ _ (c.put_accepted.ensures.value, (c.put_accepted.ensures.out_after, c.put_accepted.ensures.upper_bound))

pub put_refused-requires : goal.put_refused-requires
put_refused-requires c =
    c.if-out-lt8192.false

pub returns-in-Err : goal.returns-in-Err
returns-in-Err c =
    let given = c.args in
    let numbered = c.number.ensures ∙ sym (ap (λ r. (as_result r).number) c.in-Err.is) in
    reports_refused given.message.now given.out.now c.if-out-lt8192.false c.if-message-gt61440.false
    c.number.result (numbered ∙ number_is given.message.now (as_result c.read.result) c.read.ensures.answered)
    (λ z. omega (arith, z, numbered, refused_above c.in-Err.is)) _ _
    (c.put_refused.ensures.value, (c.put_refused.ensures.out_after, c.put_refused.ensures.upper_bound))
