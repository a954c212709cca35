-- `judge` hands up the refusal of the message; where there is none, 19 is asked of the recipient.
use mathlib.Core.Path.{◌≡◌, refl, sym, ◌∙◌}
use Prim.Native.Nat.{◌<◌}
use native.Mathlib.Omega.{arith}
use Rattle.names.specs.Names.{names}
use Rattle.prelude.specs.Refusals.{first}
use Rattle.jwe.specs.General.{json_order}
use Rattle.jwe.specs.Judge.{json_held}
use Rattle.jwe.proofs.Answering.{refuses}
use Rattle.jwe.proofs.Outcomes.{json_is}
use Rattle.jwe.proofs.JsonAsked.{refused_for_all, no_recipient, a_recipient}
use Rattle.jwe.proofs.HeldTables.{judges_held}
use Rattle.jwe.specs.Answers.{reading_of, holding_of, as_holding}
use Rattle.prelude.specs.declared.refusal.Refusal.TheVariants.{NoSuchRecipient}
use Rattle.jwe.proofs.Exits.{refused_as, held_above, holds_holding, hands_holding}
use Rattle.jwe.proofs.general.judge.Goals as goal

pub hold-requires : goal.hold-requires
hold-requires c =
    record {
      message_len_bound = c.requires.message_len_bound;
      known_value = c.requires.known_value;
      text_len = c.requires.text_len;
      table_len = c.requires.table_len;
      of_len = refl;
      own_len = refl;
      counts_len = refl;
    }

pub shape_of-text-in_err-has : goal.shape_of-text-in_err-has
shape_of-text-in_err-has c = c.hold.auto.text

pub shape_of-table-in_err-has : goal.shape_of-table-in_err-has
shape_of-table-in_err-has c = c.hold.auto.table

pub returns-in_err-has : goal.returns-in_err-has
returns-in_err-has c =
    let args = c.args in
    let m = args.message.now in
    let some : 0 < (as_holding c.hold.result).number = held_above c.in_err-has.was in
    refuses m _ _ _ (hands_holding _ _ _ c.from_residual.ensures.1 c.in_err-has.was)
    (refused_for_all m (names args.known.now) args.recipient (sym c.hold.ensures.number) some) some
    args.text.now _ args.table.now _ c.hold.auto.text c.hold.auto.table

pub shape_of-text-then-has-i : goal.shape_of-text-then-has-i
shape_of-text-then-has-i c = c.hold.auto.text

pub shape_of-table-then-has-i : goal.shape_of-table-then-has-i
shape_of-table-then-has-i c = c.hold.auto.table

pub returns-then-has-i : goal.returns-then-has-i
returns-then-has-i c =
    let none : (holding_of c.in_ok-has.has).number ≡ 0 →
    let args = c.args in first (json_order args.message.now (names args.known.now) 0) ≡ 0 = (λ e. sym (holds_holding c.in_ok-has.was c.hold.ensures).number ∙ e) in
    let args = c.args in
    let m = args.message.now in
    let passes = none refl in
    let count = ((holds_holding c.in_ok-has.was c.hold.ensures).holds passes).recipients in
    refuses m _ _ _ (refused_as NoSuchRecipient)
    (no_recipient m (names args.known.now) args.recipient passes (omega (arith, count, c.if-has-i.true))) (omega arith)
    args.text.now _ args.table.now _ c.hold.auto.text c.hold.auto.table

pub hand_out-requires : goal.hand_out-requires
hand_out-requires c =
    let none : (holding_of c.in_ok-has.has).number ≡ 0 →
    let args = c.args in first (json_order args.message.now (names args.known.now) 0) ≡ 0 = (λ e. sym (holds_holding c.in_ok-has.was c.hold.ensures).number ∙ e) in
    record {
      text_len = c.hold.auto.text ∙ c.requires.text_len;
      table_len = c.hold.auto.table ∙ c.requires.table_len;
      of_len = c.hold.auto.of;
      own_len = c.hold.auto.own;
      counts_len = c.hold.auto.counts;
      i_lt_recipients = c.if-has-i.false;
      holds = (holds_holding c.in_ok-has.was c.hold.ensures).holds (none refl);
    }

pub shape_of-text : goal.shape_of-text
shape_of-text c = c.hold.auto.text

pub shape_of-table : goal.shape_of-table
shape_of-table c = c.hand_out.auto.table ∙ c.hold.auto.table

pub returns : goal.returns
returns c =
    let none : (holding_of c.in_ok-has.has).number ≡ 0 →
    let args = c.args in first (json_order args.message.now (names args.known.now) 0) ≡ 0 = (λ e. sym (holds_holding c.in_ok-has.was c.hold.ensures).number ∙ e) in
    let args = c.args in
    let m = args.message.now in
    let passes = none refl in
    let holds = (holds_holding c.in_ok-has.was c.hold.ensures).holds passes in
    judges_held m _ (json_held m) args.recipient _ (json_is m args.recipient)
    (a_recipient m (names args.known.now) args.recipient passes (omega (arith, holds.recipients, c.if-has-i.false)))
    (holding_of c.in_ok-has.has) (reading_of c.hand_out.result) c.hand_out.ensures.result_value args.text.now _ args.table.now _ _ _ _ _
    (c.hold.auto.text ∙ c.requires.text_len) c.hold.auto.text (c.hand_out.auto.table ∙ c.hold.auto.table) holds _ c.hand_out.ensures.gathers
