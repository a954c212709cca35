-- `turn` goes past a string by `skip_string`, past a bracket with the brackets counted, and past what is no mark.
use mathlib.Core.Path.{sym, ◌∙◌}
use native.Mathlib.Omega.{arith}
use Rattle.skip.proofs.Steps.{some_open, past_quote, past_opening, past_closing, past_other}
use Rattle.skip.proofs.turn.Goals as goal

pub returns-then-c-eq34 : goal.returns-then-c-eq34
returns-then-c-eq34 c =
    let s = c.args.s.now in
    record {
      at_value_2 = c.skip_string.ensures.by_index c.args.depth
          ∙ sym (past_quote s c.args.at c.requires.at_in_bounds c.args.depth c.if-c-eq34.true);
      at_lt_at = (omega (arith, c.skip_string.ensures.lower_bound), omega (arith, c.skip_string.ensures.lower_bound));
    }

pub returns-then-is_opening : goal.returns-then-is_opening
returns-then-is_opening c =
    let s = c.args.s.now in
    let opens = sym c.is_opening.ensures ∙ c.if-is_opening.true in
    record {
      at_value_2 = sym (past_opening s c.args.at c.requires.at_in_bounds c.if-c-eq34.false _ _ (omega arith) opens);
      at_lt_at = (omega arith, omega arith);
    }

pub overflow_sub-result : goal.overflow_sub-result
overflow_sub-result c =
    let closes = sym c.is_closing.ensures ∙ c.if-is_closing.true in
    omega (arith, some_open c.args.depth _ c.requires.at_value closes)

pub returns-then-is_closing : goal.returns-then-is_closing
returns-then-is_closing c =
    let s = c.args.s.now in
    let closes = sym c.is_closing.ensures ∙ c.if-is_closing.true in
    let some = some_open c.args.depth _ c.requires.at_value closes in
    record {
      at_value_2 = sym (past_closing s c.args.at c.requires.at_in_bounds _ _ (omega arith) closes);
      at_lt_at = (omega arith, omega arith);
    }

pub returns : goal.returns
returns c =
    let s = c.args.s.now in
    let no_opening = sym c.is_opening.ensures
    ∙ c.if-is_opening.false in
    let no_closing = sym c.is_closing.ensures ∙ c.if-is_closing.false in
    let rest = c.skip_unmarked.ensures in
    record {
      at_value_2 = rest.0.out c.args.depth
          ∙ sym (past_other s c.args.at c.requires.at_in_bounds c.if-c-eq34.false _
          no_opening no_closing);
      at_lt_at = (omega (arith, rest.1), omega (arith, rest.1));
    }
