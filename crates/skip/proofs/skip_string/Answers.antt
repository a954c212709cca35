-- `skip_string` stays in the string until its quotation mark, or until the text ends.
use mathlib.Core.Path.{refl, sym, ◌∙◌}
use native.Mathlib.Omega.{arith}
use Rattle.skip.specs.Inner.Past.{outside, inside}
use Rattle.skip.proofs.Steps.{past_end, past_unquote}
use Rattle.skip.proofs.skip_string.Goals as goal

pub loop-at-init : goal.loop-at-init
loop-at-init c = ((λ d. refl), omega arith)

pub returns-then-s-at-eq34 : goal.returns-then-s-at-eq34
returns-then-s-at-eq34 c =
    let s = c.args.s.now in
    record {
      by_index = λ d. sym (past_unquote s c.loop-at.at c.loop-at-test.true d c.if-s-at-eq34.true) ∙ c.loop-at.invariant.0 d;
      lower_bound = omega arith;
    }

pub skip_char-at-requires : goal.skip_char-at-requires
skip_char-at-requires c =
    record {
      at_in_bounds = c.loop-at-test.true;
      fact = c.if-s-at-eq34.false;
    }

pub loop-at-smaller : goal.loop-at-smaller
loop-at-smaller c = omega (arith, c.skip_char-at.ensures.lower_bound)

pub loop-at-preserved : goal.loop-at-preserved
loop-at-preserved c =
    (λ d. c.skip_char-at.ensures.by_index d ∙ c.loop-at.invariant.0 d, omega (arith, c.skip_char-at.ensures.lower_bound))

pub returns : goal.returns
returns c =
    let s = c.args.s.now in
    record {
      by_index = λ d. past_end s c.loop-at.at (outside d) c.loop-at-test.false
          ∙ sym (past_end s c.loop-at.at (inside d) c.loop-at-test.false) ∙ c.loop-at.invariant.0 d;
      lower_bound = omega arith;
    }
