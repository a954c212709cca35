-- Each octet that begins a value, in the order of the definition.
use mathlib.Core.Path.{ap, sym, ◌∙◌}
use Rattle.json_read.specs.Inner.Ends.{found_of}
use Rattle.json_read.proofs.ValueParts.{scalar_string, scalar_true, scalar_false, scalar_null, scalar_number, scalar_none}
use Rattle.json_read.proofs.Position.scalar.Goals as goal

pub returns-then-c-eq34 : goal.returns-then-c-eq34
returns-then-c-eq34 c =
    let start = c.args in
    c.of_kind.ensures ∙ scalar_string start.s.now start.self.at c.peek-c.result c.peek-c.ensures c.string.result c.if-c-eq34.true c.string.ensures

pub returns-then-c-eq116 : goal.returns-then-c-eq116
returns-then-c-eq116 c =
    let start = c.args in
    c.of_kind-then-c-eq116.ensures ∙ scalar_true start.s.now start.self.at c.peek-c.result c.peek-c.ensures c.word.result c.if-c-eq116.true c.word.ensures

pub returns-then-c-eq102 : goal.returns-then-c-eq102
returns-then-c-eq102 c =
    let start = c.args in
    c.of_kind-then-c-eq102.ensures ∙ scalar_false start.s.now start.self.at c.peek-c.result c.peek-c.ensures c.word-then-c-eq102.result c.if-c-eq102.true c.word-then-c-eq102.ensures

pub returns-then-c-eq110 : goal.returns-then-c-eq110
returns-then-c-eq110 c =
    let start = c.args in
    c.of_kind-then-c-eq110.ensures ∙ scalar_null start.s.now start.self.at c.peek-c.result c.peek-c.ensures c.word-then-c-eq110.result c.if-c-eq110.true c.word-then-c-eq110.ensures

pub returns-then-is_number_start : goal.returns-then-is_number_start
returns-then-is_number_start c =
    let start = c.args in
    c.of_kind-then-is_number_start.ensures ∙ scalar_number start.s.now start.self.at c.peek-c.result c.peek-c.ensures c.number.result (sym c.is_number_start.ensures ∙ c.if-is_number_start.true) c.number.ensures

pub returns : goal.returns
returns c =
    let start = c.args in
    ap found_of (sym (scalar_none start.s.now start.self.at c.peek-c.result c.peek-c.ensures c.if-c-eq34.false c.if-c-eq116.false c.if-c-eq102.false c.if-c-eq110.false (sym c.is_number_start.ensures ∙ c.if-is_number_start.false)))
