-- `judge` asks 4 and 5, and hands the components on.
use mathlib.Core.Path.{refl, sym, ◌∙◌}
use native.Mathlib.Omega.{arith}
use Rattle.names.specs.Names.{names}
use Rattle.jwe.proofs.Splitting.{four_told, other_told, asked_are}
use Rattle.jwe.proofs.CompactOrder.{first_4, first_5}
use Rattle.jwe.proofs.Answering.{refuses}
use Rattle.jwe.proofs.Exits.{refused_as, exits_with}
use mathlib.Core.Path.{◌≡◌}
use Rattle.std.specs.Prelude.{Some, None}
use Rattle.prelude.specs.declared.refusal.Refusal.TheVariants.{FullStops, Misspelled}
use Rattle.jwe.proofs.compact.judge.Goals as goal

pub returns-in_err-q : goal.returns-in_err-q
returns-in_err-q c =
    let given = c.args in
    let message = given.message.now in
    let none : c.split.result ≡ None = grind arith in
    let other = other_told message (sym none ∙ c.split.ensures) in
    refuses message _ _ _ (exits_with _ _ FullStops c.from_residual.ensures.1 (let it : c.in_err-q.field-0.0 ≡ FullStops = grind arith in it))
    (first_4 message (names given.known.now) given.recipient other)
    (omega arith) given.text.now given.text.now given.table.now given.table.now refl refl

pub returns-then-misspelled : goal.returns-then-misspelled
returns-then-misspelled c =
    let given = c.args in
    let message = given.message.now in
    let four = four_told message c.in_ok-q.q (sym (let some : c.split.result ≡ Some c.in_ok-q.q = grind arith in some) ∙ c.split.ensures) in
    let some =
    sym (asked_are message c.in_ok-q.q four.1) ∙ sym c.misspelled.ensures ∙ c.if-misspelled.true in
    refuses message _ _ _ (refused_as Misspelled)
    (first_5 message (names given.known.now) given.recipient four.0 some)
    (omega arith) given.text.now given.text.now given.table.now given.table.now refl refl

pub judge_header-requires : goal.judge_header-requires
judge_header-requires c =
    let message = c.args.message.now in
    let four = four_told message c.in_ok-q.q (sym (let some : c.split.result ≡ Some c.in_ok-q.q = grind arith in some) ∙ c.split.ensures) in
    record {
      message_value = four.0;
      q_value = four.1;
      q_value_2 = sym c.misspelled.ensures ∙ c.if-misspelled.false;
      known_value = c.requires.known_value;
      text_len = c.requires.text_len;
      header_table_in_bounds = c.requires.header_table_in_bounds;
    }
