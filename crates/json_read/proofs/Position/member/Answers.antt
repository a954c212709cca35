-- `member` answers the entry that the reader finds here, by what each of its steps found.
use Prim.Native.Nat.{◌+◌, ◌-◌}
use mathlib.Core.Path.{ap, sym, ◌∙◌}
use native.Mathlib.Omega.{arith}
use Rattle.grammar.specs.Reader.{nothing, found, skip_space, string_at, value_at}
use Rattle.json_read.specs.Members.{member_of}
use Rattle.json_read.proofs.NumberParts.{is_ended, is_refused}
use Rattle.json_read.proofs.ValueParts.{is_found, is_nothing_lem, name_value}
use Rattle.grammar.proofs.Turns.{member_no_name, member_no_colon, member_entry}
use Rattle.json_read.proofs.MemberParts.{entry_here, string_inside}
use Rattle.json_read.proofs.Knowing.{given_map}
use Rattle.json_read.proofs.Position.member.Goals as goal

pub returns-in_err-end : goal.returns-in_err-end
returns-in_err-end c =
    let s = c.args.s.now in
    let at = c.args.self.at in
    let inner = value_at c.args.levels s in
    let none = is_refused _ c.in_err-end.ensures in
    c.from_residual.ensures ∙ ap (member_of s) (member_no_name inner s at (sym none))

pub returns-then-peek-ne58 : goal.returns-then-peek-ne58
returns-then-peek-ne58 c =
    let s = c.args.s.now in
    let at = c.args.self.at in
    let inner = value_at c.args.levels s in
    let e = c.in_ok-end.end.at in
    let name = is_ended (string_at s c.args.self.at) c.in_ok-end.end c.in_ok-end.ensures in
    ap (member_of s)
    (member_no_colon inner s at e (sym name) c.skip_space-colon.result.at c.peek.result c.skip_space-colon.ensures c.peek.ensures c.if-peek-ne58.true)

pub value_in-requires : goal.value_in-requires
value_in-requires c =
    let s = c.args.s.now in
    let at = c.args.self.at in
    let name = is_ended (string_at s c.args.self.at) c.in_ok-end.end c.in_ok-end.ensures in
    let here = name_value s at c.in_ok-end.end.at name c.skip_space-colon.result.at c.peek.result c.skip_space-colon.ensures c.peek.ensures c.if-peek-ne58.false c.step.result.at c.skip_space-begin.result.at c.step.ensures c.skip_space-begin.ensures in
    given_map c.args.judged (λ known. known c.skip_space-begin.result.at here) c.requires

pub returns-in_err-found : goal.returns-in_err-found
returns-in_err-found c =
    let s = c.args.s.now in
    let at = c.args.self.at in
    let inner = value_at c.args.levels s in
    let e = c.in_ok-end.end.at in
    let name = is_ended (string_at s c.args.self.at) c.in_ok-end.end c.in_ok-end.ensures in
    let v = c.skip_space-begin.result.at in
    let from = c.skip_space-begin.ensures ∙ ap (skip_space s) c.step.ensures in
    let none = is_nothing_lem _ c.in_err-found.ensures in
    c.from_residual-in_err-found.ensures
    ∙ ap (member_of s)
    (member_entry inner s at e (sym name) c.skip_space-colon.result.at c.peek.result c.skip_space-colon.ensures c.peek.ensures c.if-peek-ne58.false v from nothing (sym none))

pub overflow_add-name : goal.overflow_add-name
overflow_add-name c =
    let s = c.args.s.now in
    let name = is_ended (string_at s c.args.self.at) c.in_ok-end.end c.in_ok-end.ensures in
    omega (arith, string_inside s c.args.self.at c.in_ok-end.end.at name)

pub overflow_add-at : goal.overflow_add-at
overflow_add-at c =
    let s = c.args.s.now in
    let name = is_ended (string_at s c.args.self.at) c.in_ok-end.end c.in_ok-end.ensures in
    omega (arith, string_inside s c.args.self.at c.in_ok-end.end.at name)

pub returns : goal.returns
returns c =
    let s = c.args.s.now in
    let at = c.args.self.at in
    let inner = value_at c.args.levels s in
    let e = c.in_ok-end.end.at in
    let name = is_ended (string_at s c.args.self.at) c.in_ok-end.end c.in_ok-end.ensures in
    let v = c.skip_space-begin.result.at in
    let from = c.skip_space-begin.ensures ∙ ap (skip_space s) c.step.ensures in
    let a = c.in_ok-found.found.end.at in
    let k = c.in_ok-found.found.kind in
    let is = is_found _ c.in_ok-found.found.end k c.in_ok-found.ensures in
    entry_here s (at + 1) (e - (at + 2)) v a k c.minus.result c.minus-2.result c.next_entry-next.result c.minus.ensures c.minus-2.ensures c.next_entry-next.ensures
    ∙ ap (member_of s)
    (member_entry inner s at e (sym name) c.skip_space-colon.result.at c.peek.result c.skip_space-colon.ensures c.peek.ensures c.if-peek-ne58.false v from (found a k) (sym is))
