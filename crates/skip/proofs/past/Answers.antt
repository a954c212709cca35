-- `past` keeps the search's end, with the brackets that are open, until the one that is sought or the text's end.
use mathlib.Core.Path.{refl, sym, ap, ◌∙◌}
use native.Mathlib.Omega.{arith}
use Rattle.skip.specs.Inner.Past.{outside, past_from}
use Rattle.skip.proofs.Steps.{past_end, past_closed}
use Rattle.skip.proofs.past.Goals as goal
use Rattle.skip.proofs.past.Goals.{then-depth-eq0+else-is_closing, else-depth-eq0}

pub loop-at-init : goal.loop-at-init
loop-at-init c = (refl, omega arith)

pub returns-then-is_closing : goal.returns-then-is_closing
returns-then-is_closing c =
    let s = c.args.s.now in
    let closes = sym c.is_closing.ensures ∙ c.if-is_closing.true in
    sym (past_closed s c.loop-at.at c.loop-at-test.true closes)
    ∙ ap (λ d. past_from (outside d) s c.loop-at.at) (sym c.if-depth-eq0.true) ∙ c.loop-at.invariant.0

pub turn-next-requires : goal.turn-next-requires
turn-next-requires c =
    record {
      at_in_bounds = c.loop-at-test.true;
      depth_le_at = c.loop-at.invariant.1;
      at_value = elim c.if-depth-eq0.branch [
        | then-depth-eq0+else-is_closing w ↦ λ z. sym w.is_closing.ensures ∙ w.if-is_closing.false
        | else-depth-eq0 w ↦ λ z. absurd (w.if-depth-eq0.false z)
      ];
    }

pub loop-at-smaller : goal.loop-at-smaller
loop-at-smaller c = omega (arith, c.turn-next.ensures.at_lt_at.0)

pub loop-at-preserved : goal.loop-at-preserved
loop-at-preserved c = (c.turn-next.ensures.at_value_2 ∙ c.loop-at.invariant.0, c.turn-next.ensures.at_lt_at.1)

pub returns : goal.returns
returns c =
    let s = c.args.s.now in
    sym (past_end s c.loop-at.at (outside c.loop-at.depth) c.loop-at-test.false) ∙ c.loop-at.invariant.0
