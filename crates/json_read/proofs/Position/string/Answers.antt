-- `string` reads a string: what is left of the scan stays the same from escape to escape.
use mathlib.Core.Path.{refl, ap, sym, ◌∙◌}
use native.Mathlib.Omega.{arith}
use lib.Dec.{eqb}
use borrow.Author.Tests.{eq-eqb}
use Rattle.grammar.specs.Grammar.{backslash}
use Rattle.grammar.specs.Reader.{between}
use Rattle.json_read.specs.Inner.Ends.{ends_of}
use Rattle.json_read.proofs.StringParts.{class_steps, scan_end, string_not, string_opens, quote_closes, quote_breaks, backslash_escapes, other_breaks}
use Rattle.json_read.proofs.Position.string.Goals as goal

pub returns-then-peek-ne34 : goal.returns-then-peek-ne34
returns-then-peek-ne34 c =
    ap ends_of (string_not c.args.s.now c.args.self.at (λ e. c.if-peek-ne34.true (c.peek.ensures ∙ e)))

pub loop-at-init : goal.loop-at-init
loop-at-init c = refl

pub returns-then-half : goal.returns-then-half
returns-then-half c =
    let s = c.args.s.now in
    let whole = c.loop-at.invariant ∙ string_opens s c.args.self.at c.step-at.result.at (sym c.peek.ensures ∙ c.if-peek-ne34.false) c.step-at.ensures in
    let at = c.skip_unless-p.result.at in
    let here = sym c.peek-c.ensures in
    ap ends_of (sym (quote_breaks s at c.loop-at.half (here ∙ c.if-c-eq34.true) c.if-half.true) ∙ c.skip_unless-p.ensures.at_value ∙ whole)

pub returns-then-c-eq34 : goal.returns-then-c-eq34
returns-then-c-eq34 c =
    let s = c.args.s.now in
    let whole = c.loop-at.invariant ∙ string_opens s c.args.self.at c.step-at.result.at (sym c.peek.ensures ∙ c.if-peek-ne34.false) c.step-at.ensures in
    let at = c.skip_unless-p.result.at in
    let here = sym c.peek-c.ensures in
    ap ends_of (sym (quote_closes s at c.loop-at.half c.step.result.at (here ∙ c.if-c-eq34.true) c.if-half.false c.step.ensures) ∙ c.skip_unless-p.ensures.at_value ∙ whole)

pub returns-then-c-ne92 : goal.returns-then-c-ne92
returns-then-c-ne92 c =
    let s = c.args.s.now in
    let whole = c.loop-at.invariant ∙ string_opens s c.args.self.at c.step-at.result.at (sym c.peek.ensures ∙ c.if-peek-ne34.false) c.step-at.ensures in
    let at = c.skip_unless-p.result.at in
    let here = sym c.peek-c.ensures in
    ap ends_of (sym (other_breaks s at c.loop-at.half (λ e. c.if-c-eq34.false (sym here ∙ e)) (λ e. c.if-c-ne92.true (sym here ∙ e)) c.skip_unless-p.ensures.at_le_at.1) ∙ c.skip_unless-p.ensures.at_value ∙ whole)

pub returns-in_err-escape : goal.returns-in_err-escape
returns-in_err-escape c =
    let s = c.args.s.now in
    let whole = c.loop-at.invariant ∙ string_opens s c.args.self.at c.step-at.result.at (sym c.peek.ensures ∙ c.if-peek-ne34.false) c.step-at.ensures in
    let at = c.skip_unless-p.result.at in
    let here = sym c.peek-c.ensures in
    c.from_residual.ensures ∙ ap ends_of (c.in_err-escape.ensures.result_value ∙ sym (backslash_escapes s at c.loop-at.half c.step-in-loop-at.result.at (here ∙ c.if-c-ne92.false) c.step-in-loop-at.ensures) ∙ c.skip_unless-p.ensures.at_value ∙ whole)

pub loop-at-smaller : goal.loop-at-smaller
loop-at-smaller c =
    let s = c.args.s.now in
    let at = c.skip_unless-p.result.at in
    let here = sym c.peek-c.ensures ∙ c.if-c-ne92.false in
    let far = c.in_ok-escape.ensures.beyond in
    omega (arith, far, c.step-in-loop-at.ensures, class_steps (λ n. eqb n backslash) s at refl (eq-eqb _ _ here), c.skip_unless-p.ensures.at_le_at.0)

pub loop-at-preserved : goal.loop-at-preserved
loop-at-preserved c =
    let s = c.args.s.now in
    let at = c.skip_unless-p.result.at in
    let here = sym c.peek-c.ensures ∙ c.if-c-ne92.false in
    c.in_ok-escape.ensures.result_value
    ∙ sym (backslash_escapes s at c.loop-at.half c.step-in-loop-at.result.at here c.step-in-loop-at.ensures) ∙ c.skip_unless-p.ensures.at_value ∙ c.loop-at.invariant

pub returns : goal.returns
returns c =
    let s = c.args.s.now in
    let whole = c.loop-at.invariant ∙ string_opens s c.args.self.at c.step-at.result.at (sym c.peek.ensures ∙ c.if-peek-ne34.false) c.step-at.ensures in
    ap ends_of (sym (scan_end s c.loop-at.at (between c.loop-at.half) c.loop-at-test.false) ∙ whole)
