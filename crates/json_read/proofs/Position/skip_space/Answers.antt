-- `skip_space` ends where the space ends: what is left to skip stays the same, octet by octet.
use mathlib.Core.Path.{refl, sym, ◌∙◌}
use Rattle.grammar.specs.Grammar.{is_space}
use Rattle.grammar.proofs.Here.{skip_next, skip_stop, skip_end}
use Rattle.json_read.proofs.Position.skip_space.Goals as goal

pub loop-at-init : goal.loop-at-init
loop-at-init c = refl

pub returns-then-not-is_space : goal.returns-then-not-is_space
returns-then-not-is_space c =
    let s = c.args.s.now in
    let at = c.loop-at.at in
    let tested = sym c.is_space.ensures in
    sym (c.loop-at.invariant ∙ skip_stop is_space s at c.loop-at-test.true (tested ∙ c.if-not-is_space.true))

pub loop-at-preserved : goal.loop-at-preserved
loop-at-preserved c =
    let s = c.args.s.now in
    let at = c.loop-at.at in
    let tested = sym c.is_space.ensures in
    c.loop-at.invariant ∙ skip_next is_space s at c.loop-at-test.true (tested ∙ c.if-not-is_space.false)

pub returns : goal.returns
returns c = sym (c.loop-at.invariant ∙ skip_end is_space c.args.s.now c.loop-at.at c.loop-at-test.false)
