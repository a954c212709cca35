-- `skip_char` goes two octets on behind a backslash, one at the text's end, where there is nothing to take along; past
-- any other octet it goes on while nothing is a mark.
use Prim.Native.Nat.{◌+◌}
use mathlib.Core.Path.{sym, ◌∙◌}
use native.Mathlib.Omega.{arith}
use Rattle.skip.specs.Inner.Past.{inside, escaped}
use Rattle.skip.proofs.Steps.{past_end, past_backslash, past_escaped, past_char}
use Rattle.skip.proofs.skip_char.Goals as goal

pub returns-then-next-s : goal.returns-then-next-s
returns-then-next-s c =
    let s = c.args.s.now in
    let at = c.args.at in
    record {
      by_index = λ d.
          sym (past_backslash s at c.requires.at_in_bounds d c.if-s-at-eq92.true
          ∙ past_escaped s (at + 1) c.if-next-s.true d);
      lower_bound = omega arith;
    }

pub returns-then-s-at-eq92 : goal.returns-then-s-at-eq92
returns-then-s-at-eq92 c =
    let s = c.args.s.now in
    let at = c.args.at in
    record {
      by_index = λ d. past_end s (at + 1) (inside d) c.if-next-s.false ∙ sym (past_end s (at + 1) (escaped d) c.if-next-s.false)
          ∙ sym (past_backslash s at c.requires.at_in_bounds d c.if-s-at-eq92.true);
      lower_bound = omega arith;
    }

pub returns : goal.returns
returns c =
    let rest = c.skip_unmarked.ensures in
    record {
      by_index = λ d. rest.0.within d
          ∙ sym (past_char c.args.s.now c.args.at c.requires.at_in_bounds d c.requires.fact
          c.if-s-at-eq92.false);
      lower_bound = omega (arith, rest.1);
    }
