-- What is left of the word, read from here, is the whole word, read from the start.
use mathlib.Core.Path.{refl, ap, sym, ◌∙◌}
use Rattle.json_read.specs.Inner.Ends.{ends_of}
use Rattle.json_read.proofs.ValueParts.{word_end, word_next, word_not}
use Rattle.json_read.proofs.Position.word.Goals as goal

pub loop-k-init : goal.loop-k-init
loop-k-init c = refl

pub returns-then-peek-w : goal.returns-then-peek-w
returns-then-peek-w c =
    let s = c.args.s.now in
    let w = c.args.w.now in
    ap ends_of (sym (word_not s w c.loop-k.k c.loop-k.p.at c.loop-k-test.true (λ e. c.if-peek-w.true (c.peek.ensures ∙ e))) ∙ c.loop-k.invariant)

pub loop-k-preserved : goal.loop-k-preserved
loop-k-preserved c =
    let s = c.args.s.now in
    let w = c.args.w.now in
    word_next s w c.loop-k.k c.loop-k.p.at c.loop-k-test.true c.step-p.result.at (sym c.peek.ensures ∙ c.if-peek-w.false) c.step-p.ensures ∙ c.loop-k.invariant

pub returns : goal.returns
returns c =
    let s = c.args.s.now in
    let w = c.args.w.now in
    ap ends_of (sym (word_end s w c.loop-k.k c.loop-k.p.at c.loop-k-test.false) ∙ c.loop-k.invariant)
