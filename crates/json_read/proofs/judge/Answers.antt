-- The tests of a text in the order of the definition, then what stands behind its value.
use mathlib.Core.Path.{ap, sym, ◌∙◌}
use Rattle.grammar.specs.Reader.{value_at}
use Rattle.json_read.specs.Inner.Ends.{found_of}
use Rattle.json_read.proofs.ValueParts.{is_found, is_nothing_lem, text_no_brace, text_not_utf8, text_wholly, wholly_nothing, wholly_not, wholly_found}
use Rattle.json_read.proofs.judge.Goals as goal

pub returns-then-peek-ne123 : goal.returns-then-peek-ne123
returns-then-peek-ne123 c =
    let a = c.args in
    let s = a.s.now in
    ap found_of (text_no_brace s a.levels c.skip_space-first.result.at c.peek.result c.skip_space-first.ensures c.peek.ensures c.if-peek-ne123.true)

pub returns-then-not-utf8 : goal.returns-then-not-utf8
returns-then-not-utf8 c =
    let a = c.args in
    let s = a.s.now in
    ap found_of (text_not_utf8 s a.levels c.skip_space-first.result.at c.peek.result c.skip_space-first.ensures c.peek.ensures c.if-peek-ne123.false (sym c.utf8-2.ensures ∙ c.if-not-utf8.true))

pub returns-in_err-outer : goal.returns-in_err-outer
returns-in_err-outer c =
    let a = c.args in
    let s = a.s.now in
    let whole = text_wholly s a.levels c.skip_space-first.result.at c.peek.result c.skip_space-first.ensures c.peek.ensures c.if-peek-ne123.false (sym c.utf8-2.ensures ∙ c.if-not-utf8.false) in
    let told = c.from_residual.ensures in
    told ∙ ap found_of (wholly_nothing s (value_at a.levels s c.skip_space-first.result.at) (is_nothing_lem _ c.in_err-outer.ensures) ∙ whole)

pub returns-then-skip_space-s : goal.returns-then-skip_space-s
returns-then-skip_space-s c =
    let a = c.args in
    let s = a.s.now in
    let whole = text_wholly s a.levels c.skip_space-first.result.at c.peek.result c.skip_space-first.ensures c.peek.ensures c.if-peek-ne123.false (sym c.utf8-2.ensures ∙ c.if-not-utf8.false) in
    let here = is_found _ c.in_ok-outer.outer.end c.in_ok-outer.outer.kind c.in_ok-outer.ensures in
    ap found_of (wholly_not s (value_at a.levels s c.skip_space-first.result.at) c.in_ok-outer.outer.end.at c.in_ok-outer.outer.kind here c.skip_space.result.at c.skip_space.ensures c.if-skip_space-s.true ∙ whole)

pub returns : goal.returns
returns c =
    let a = c.args in
    let s = a.s.now in
    let whole = text_wholly s a.levels c.skip_space-first.result.at c.peek.result c.skip_space-first.ensures c.peek.ensures c.if-peek-ne123.false (sym c.utf8-2.ensures ∙ c.if-not-utf8.false) in
    let here = is_found _ c.in_ok-outer.outer.end c.in_ok-outer.outer.kind c.in_ok-outer.ensures in
    ap found_of (wholly_found s (value_at a.levels s c.skip_space-first.result.at) c.in_ok-outer.outer.end.at c.in_ok-outer.outer.kind here c.skip_space.result.at c.skip_space.ensures c.if-skip_space-s.false ∙ whole)
