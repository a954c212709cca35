-- `escape` reads what follows a backslash, as the scan of the string does.
use mathlib.Core.Path.{refl, ap, sym, ◌∙◌}
use native.Mathlib.Omega.{arith}
use lib.Dec.{eqb}
use borrow.Author.Tests.{eq-eqb, ne_eqb}
use Rattle.grammar.specs.Grammar.{letter_u, is_escape}
use Rattle.json_read.proofs.StringParts.{class_steps, escape_unit, escape_wrong, escape_half, escape_done, farther}
use Rattle.json_read.proofs.Position.escape.Goals as goal

pub returns-then-c-eq117 : goal.returns-then-c-eq117
returns-then-c-eq117 c =
    let s = c.args.s.now in
    let half = c.args.half in
    let at = c.args.self.at in
    let here = (eq-eqb _ _ (sym c.peek-c.ensures ∙ c.if-c-eq117.true)) in
    record {
      result_value = c.unit.ensures.result_value ∙ escape_unit s half at c.step.result.at here c.step.ensures;
      beyond = farther at c.step.result.at c.unit.result (omega (arith, c.step.ensures, class_steps (λ n. eqb n letter_u) s at refl here)) c.unit.ensures.beyond;
    }

pub returns-then-not-is_escape : goal.returns-then-not-is_escape
returns-then-not-is_escape c =
    let s = c.args.s.now in
    let half = c.args.half in
    let at = c.args.self.at in
    record {
      result_value = escape_wrong s half at (ne_eqb _ _ (λ e. c.if-c-eq117.false (c.peek-c.ensures ∙ e))) (sym (c.is_escape.ensures ∙ ap is_escape c.peek-c.ensures) ∙ c.if-not-is_escape.true);
      beyond = tt;
    }

pub returns-then-half : goal.returns-then-half
returns-then-half c =
    let s = c.args.s.now in
    let half = c.args.half in
    let at = c.args.self.at in
    record {
      result_value = escape_half s half at (ne_eqb _ _ (λ e. c.if-c-eq117.false (c.peek-c.ensures ∙ e))) (sym (c.is_escape.ensures ∙ ap is_escape c.peek-c.ensures) ∙ c.if-not-is_escape.false) c.if-half.true;
      beyond = tt;
    }

pub returns : goal.returns
returns c =
    let s = c.args.s.now in
    let half = c.args.half in
    let at = c.args.self.at in
    let here = (sym (c.is_escape.ensures ∙ ap is_escape c.peek-c.ensures) ∙ c.if-not-is_escape.false) in
    record {
      result_value = escape_done s half at (ne_eqb _ _ (λ e. c.if-c-eq117.false (c.peek-c.ensures ∙ e))) c.step-next.result.at here c.if-half.false c.step-next.ensures;
      beyond = omega (arith, c.step-next.ensures, class_steps is_escape s at refl here);
    }
