-- A name, space and a colon, by what each call answers.
use mathlib.Core.Path.{ap, sym, ◌∙◌}
use Rattle.json_read.specs.Inner.Ends.{ends_of}
use Rattle.json_read.proofs.NumberParts.{is_ended, is_refused}
use Rattle.json_read.proofs.ValueParts.{name_refused, name_no_colon, name_value}
use Rattle.json_read.proofs.Position.name.Goals as goal

pub returns-in_err-name : goal.returns-in_err-name
returns-in_err-name c =
    let told = c.from_residual.ensures in
    told ∙ ap ends_of (sym (name_refused c.args.s.now c.args.self.at (is_refused _ c.in_err-name.ensures)))

pub returns-then-peek-ne58 : goal.returns-then-peek-ne58
returns-then-peek-ne58 c =
    let s = c.args.s.now in
    let named = is_ended _ c.in_ok-name.name c.in_ok-name.ensures in
    ap ends_of (sym (name_no_colon s c.args.self.at c.in_ok-name.name.at named c.skip_space-colon.result.at c.peek.result c.skip_space-colon.ensures c.peek.ensures c.if-peek-ne58.true))

pub returns : goal.returns
returns c =
    let s = c.args.s.now in
    let named = is_ended _ c.in_ok-name.name c.in_ok-name.ensures in
    ap ends_of (sym (name_value s c.args.self.at c.in_ok-name.name.at named c.skip_space-colon.result.at c.peek.result c.skip_space-colon.ensures c.peek.ensures c.if-peek-ne58.false
    c.step.result.at c.skip_space.result.at c.step.ensures c.skip_space.ensures))
