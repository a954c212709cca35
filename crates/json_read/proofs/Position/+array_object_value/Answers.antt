-- Values, objects and arrays: at each turn what remains is what the whole reads, and the sign behind an entry's value
-- decides it.
use mathlib.Core.Path.{ap, ◌∙◌}
use Rattle.grammar.specs.Grammar.{curly, square}
use Rattle.grammar.specs.Reader.{skip_space, entries_at, value_at}
use Rattle.json_read.specs.Inner.Ends.{found_of}
use Rattle.grammar.proofs.Turns.{nested_deep, nested_empty, nested_open, close_end, close_bad, close_more, value_object, value_array}
use Rattle.json_read.proofs.NumberParts.{is_ended, is_refused}
use Rattle.json_read.proofs.ValueParts.{is_found, is_nothing_lem, turn_no_name, turn_nothing, turn_found, turn_none, element_here, value_scalar}
use Prim.Native.Nat.{◌-◌}
use Rattle.json_read.proofs.Position.+array_object_value.Goals as goal

pub array-returns-then-levels-eq0 : goal.array-returns-then-levels-eq0
array-returns-then-levels-eq0 t c =
    let a = c.args in
    ap found_of (nested_deep a.s.now a.levels square a.self.at c.if-levels-eq0.true)

pub array-returns-then-peek-eq93 : goal.array-returns-then-peek-eq93
array-returns-then-peek-eq93 t c =
    let a = c.args in
    let s = a.s.now in
    ap found_of (nested_empty s a.levels square a.self.at c.if-levels-eq0.false c.skip_space-first.result.at c.peek.result c.skip_space-first.ensures c.peek.ensures c.step-end.result.at c.if-peek-eq93.true c.step-end.ensures)

pub array-returns-in_err-inner : goal.array-returns-in_err-inner
array-returns-in_err-inner t c =
    let a = c.args in
    let s = a.s.now in
    let whole = c.loop-left.invariant ∙ nested_open s a.levels square a.self.at c.if-levels-eq0.false c.skip_space-first.result.at c.peek.result c.skip_space-first.ensures c.peek.ensures c.if-peek-eq93.false in
    c.from_residual.ensures
    ∙ ap found_of (turn_nothing (value_at (a.levels - 1) s) square s c.loop-left.left c.loop-left.p.at c.loop-left-test.true c.loop-left.p.at (element_here s c.loop-left.p.at) (is_nothing_lem _ c.in_err-inner.ensures) ∙ whole)

pub array-returns-then-c-eq93 : goal.array-returns-then-c-eq93
array-returns-then-c-eq93 t c =
    let a = c.args in
    let s = a.s.now in
    let whole = c.loop-left.invariant ∙ nested_open s a.levels square a.self.at c.if-levels-eq0.false c.skip_space-first.result.at c.peek.result c.skip_space-first.ensures c.peek.ensures c.if-peek-eq93.false in
    let read = is_found _ c.in_ok-inner.inner.end c.in_ok-inner.inner.kind c.in_ok-inner.ensures in
    let next = turn_found (value_at (a.levels - 1) s) square s c.loop-left.left c.loop-left.p.at c.loop-left-test.true c.loop-left.p.at (element_here s c.loop-left.p.at) c.in_ok-inner.inner.end.at c.in_ok-inner.inner.kind c.skip_space-after.result.at read c.skip_space-after.ensures in
    let others = entries_at (value_at (a.levels - 1) s) square s (c.loop-left.left - 1) in
    ap found_of (close_end s square others c.skip_space-after.result.at c.peek-c.result c.peek-c.ensures c.step-end-then-c-eq93.result.at c.if-c-eq93.true c.step-end-then-c-eq93.ensures ∙ next ∙ whole)

pub array-returns-then-c-ne44 : goal.array-returns-then-c-ne44
array-returns-then-c-ne44 t c =
    let a = c.args in
    let s = a.s.now in
    let whole = c.loop-left.invariant ∙ nested_open s a.levels square a.self.at c.if-levels-eq0.false c.skip_space-first.result.at c.peek.result c.skip_space-first.ensures c.peek.ensures c.if-peek-eq93.false in
    let read = is_found _ c.in_ok-inner.inner.end c.in_ok-inner.inner.kind c.in_ok-inner.ensures in
    let next = turn_found (value_at (a.levels - 1) s) square s c.loop-left.left c.loop-left.p.at c.loop-left-test.true c.loop-left.p.at (element_here s c.loop-left.p.at) c.in_ok-inner.inner.end.at c.in_ok-inner.inner.kind c.skip_space-after.result.at read c.skip_space-after.ensures in
    let others = entries_at (value_at (a.levels - 1) s) square s (c.loop-left.left - 1) in
    ap found_of (close_bad s square others c.skip_space-after.result.at c.peek-c.result c.peek-c.ensures c.if-c-eq93.false c.if-c-ne44.true ∙ next ∙ whole)

pub array-loop-left-preserved : goal.array-loop-left-preserved
array-loop-left-preserved t c =
    let a = c.args in
    let s = a.s.now in
    let read = is_found _ c.in_ok-inner.inner.end c.in_ok-inner.inner.kind c.in_ok-inner.ensures in
    let next = turn_found (value_at (a.levels - 1) s) square s c.loop-left.left c.loop-left.p.at c.loop-left-test.true c.loop-left.p.at (element_here s c.loop-left.p.at) c.in_ok-inner.inner.end.at c.in_ok-inner.inner.kind c.skip_space-after.result.at read c.skip_space-after.ensures in
    let others = entries_at (value_at (a.levels - 1) s) square s (c.loop-left.left - 1) in
    let behind = c.skip_space-p.ensures ∙ ap (skip_space s) c.step.ensures in
    close_more s square others c.skip_space-after.result.at c.peek-c.result c.peek-c.ensures c.skip_space-p.result.at c.if-c-eq93.false c.if-c-ne44.false behind ∙ next ∙ c.loop-left.invariant

pub array-returns : goal.array-returns
array-returns t c =
    let a = c.args in
    let s = a.s.now in
    let whole = c.loop-left.invariant ∙ nested_open s a.levels square a.self.at c.if-levels-eq0.false c.skip_space-first.result.at c.peek.result c.skip_space-first.ensures c.peek.ensures c.if-peek-eq93.false in
    ap found_of (turn_none (value_at (a.levels - 1) s) square s c.loop-left.left c.loop-left.p.at c.loop-left-test.false ∙ whole)

pub object-returns-then-levels-eq0 : goal.object-returns-then-levels-eq0
object-returns-then-levels-eq0 t c =
    let a = c.args in
    ap found_of (nested_deep a.s.now a.levels curly a.self.at c.if-levels-eq0.true)

pub object-returns-then-peek-eq125 : goal.object-returns-then-peek-eq125
object-returns-then-peek-eq125 t c =
    let a = c.args in
    let s = a.s.now in
    ap found_of (nested_empty s a.levels curly a.self.at c.if-levels-eq0.false c.skip_space-first.result.at c.peek.result c.skip_space-first.ensures c.peek.ensures c.step-end.result.at c.if-peek-eq125.true c.step-end.ensures)

pub object-returns-in_err-begin : goal.object-returns-in_err-begin
object-returns-in_err-begin t c =
    let a = c.args in
    let s = a.s.now in
    let whole = c.loop-left.invariant ∙ nested_open s a.levels curly a.self.at c.if-levels-eq0.false c.skip_space-first.result.at c.peek.result c.skip_space-first.ensures c.peek.ensures c.if-peek-eq125.false in
    c.from_residual.ensures
    ∙ ap found_of (turn_no_name (value_at (a.levels - 1) s) curly s c.loop-left.left c.loop-left.p.at c.loop-left-test.true (is_refused _ c.in_err-begin.ensures) ∙ whole)

pub object-returns-in_err-inner : goal.object-returns-in_err-inner
object-returns-in_err-inner t c =
    let a = c.args in
    let s = a.s.now in
    let whole = c.loop-left.invariant ∙ nested_open s a.levels curly a.self.at c.if-levels-eq0.false c.skip_space-first.result.at c.peek.result c.skip_space-first.ensures c.peek.ensures c.if-peek-eq125.false in
    let begin = is_ended _ c.in_ok-begin.begin c.in_ok-begin.ensures in
    c.from_residual-in_err-inner.ensures
    ∙ ap found_of (turn_nothing (value_at (a.levels - 1) s) curly s c.loop-left.left c.loop-left.p.at c.loop-left-test.true c.in_ok-begin.begin.at begin (is_nothing_lem _ c.in_err-inner.ensures) ∙ whole)

pub object-returns-then-c-eq125 : goal.object-returns-then-c-eq125
object-returns-then-c-eq125 t c =
    let a = c.args in
    let s = a.s.now in
    let whole = c.loop-left.invariant ∙ nested_open s a.levels curly a.self.at c.if-levels-eq0.false c.skip_space-first.result.at c.peek.result c.skip_space-first.ensures c.peek.ensures c.if-peek-eq125.false in
    let begin = is_ended _ c.in_ok-begin.begin c.in_ok-begin.ensures in
    let read = is_found _ c.in_ok-inner.inner.end c.in_ok-inner.inner.kind c.in_ok-inner.ensures in
    let next = turn_found (value_at (a.levels - 1) s) curly s c.loop-left.left c.loop-left.p.at c.loop-left-test.true c.in_ok-begin.begin.at begin c.in_ok-inner.inner.end.at c.in_ok-inner.inner.kind c.skip_space-after.result.at read c.skip_space-after.ensures in
    let others = entries_at (value_at (a.levels - 1) s) curly s (c.loop-left.left - 1) in
    ap found_of (close_end s curly others c.skip_space-after.result.at c.peek-c.result c.peek-c.ensures c.step-end-then-c-eq125.result.at c.if-c-eq125.true c.step-end-then-c-eq125.ensures ∙ next ∙ whole)

pub object-returns-then-c-ne44 : goal.object-returns-then-c-ne44
object-returns-then-c-ne44 t c =
    let a = c.args in
    let s = a.s.now in
    let whole = c.loop-left.invariant ∙ nested_open s a.levels curly a.self.at c.if-levels-eq0.false c.skip_space-first.result.at c.peek.result c.skip_space-first.ensures c.peek.ensures c.if-peek-eq125.false in
    let begin = is_ended _ c.in_ok-begin.begin c.in_ok-begin.ensures in
    let read = is_found _ c.in_ok-inner.inner.end c.in_ok-inner.inner.kind c.in_ok-inner.ensures in
    let next = turn_found (value_at (a.levels - 1) s) curly s c.loop-left.left c.loop-left.p.at c.loop-left-test.true c.in_ok-begin.begin.at begin c.in_ok-inner.inner.end.at c.in_ok-inner.inner.kind c.skip_space-after.result.at read c.skip_space-after.ensures in
    let others = entries_at (value_at (a.levels - 1) s) curly s (c.loop-left.left - 1) in
    ap found_of (close_bad s curly others c.skip_space-after.result.at c.peek-c.result c.peek-c.ensures c.if-c-eq125.false c.if-c-ne44.true ∙ next ∙ whole)

pub object-loop-left-preserved : goal.object-loop-left-preserved
object-loop-left-preserved t c =
    let a = c.args in
    let s = a.s.now in
    let begin = is_ended _ c.in_ok-begin.begin c.in_ok-begin.ensures in
    let read = is_found _ c.in_ok-inner.inner.end c.in_ok-inner.inner.kind c.in_ok-inner.ensures in
    let next = turn_found (value_at (a.levels - 1) s) curly s c.loop-left.left c.loop-left.p.at c.loop-left-test.true c.in_ok-begin.begin.at begin c.in_ok-inner.inner.end.at c.in_ok-inner.inner.kind c.skip_space-after.result.at read c.skip_space-after.ensures in
    let others = entries_at (value_at (a.levels - 1) s) curly s (c.loop-left.left - 1) in
    let behind = c.skip_space-p.ensures ∙ ap (skip_space s) c.step.ensures in
    close_more s curly others c.skip_space-after.result.at c.peek-c.result c.peek-c.ensures c.skip_space-p.result.at c.if-c-eq125.false c.if-c-ne44.false behind ∙ next ∙ c.loop-left.invariant

pub object-returns : goal.object-returns
object-returns t c =
    let a = c.args in
    let s = a.s.now in
    let whole = c.loop-left.invariant ∙ nested_open s a.levels curly a.self.at c.if-levels-eq0.false c.skip_space-first.result.at c.peek.result c.skip_space-first.ensures c.peek.ensures c.if-peek-eq125.false in
    ap found_of (turn_none (value_at (a.levels - 1) s) curly s c.loop-left.left c.loop-left.p.at c.loop-left-test.false ∙ whole)

pub value-returns-then-c-eq123 : goal.value-returns-then-c-eq123
value-returns-then-c-eq123 t c =
    let a = c.args in
    c.object.ensures ∙ ap found_of (value_object a.s.now a.levels a.self.at c.peek-c.result c.peek-c.ensures c.step.result.at c.if-c-eq123.true c.step.ensures)

pub value-returns-then-c-eq91 : goal.value-returns-then-c-eq91
value-returns-then-c-eq91 t c =
    let a = c.args in
    c.array.ensures ∙ ap found_of (value_array a.s.now a.levels a.self.at c.peek-c.result c.peek-c.ensures c.if-c-eq123.false c.step-then-c-eq91.result.at c.if-c-eq91.true c.step-then-c-eq91.ensures)

pub value-returns : goal.value-returns
value-returns t c =
    let a = c.args in
    c.scalar.ensures ∙ ap found_of (value_scalar a.s.now a.self.at c.peek-c.result c.peek-c.ensures a.levels c.if-c-eq123.false c.if-c-eq91.false)
