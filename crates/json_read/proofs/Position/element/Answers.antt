-- `element` answers the entry that the reader finds here: its value.
use mathlib.Core.Path.{refl, ap, sym, ◌∙◌}
use Rattle.grammar.specs.Reader.{nothing, found, value_at}
use Rattle.json_read.specs.Members.{member_of}
use Rattle.json_read.proofs.ValueParts.{is_found, is_nothing_lem}
use Rattle.grammar.proofs.Turns.{element_entry}
use Rattle.json_read.proofs.MemberParts.{entry_here}
use Rattle.json_read.proofs.Position.element.Goals as goal

pub value_in-requires : goal.value_in-requires
value_in-requires c = c.requires

pub returns-in_err-found : goal.returns-in_err-found
returns-in_err-found c =
    let s = c.args.s.now in
    let at = c.args.self.at in
    let inner = value_at c.args.levels s in
    let none = is_nothing_lem _ c.in_err-found.ensures in
    c.from_residual.ensures ∙ ap (member_of s) (element_entry inner s at nothing (sym none))

pub returns : goal.returns
returns c =
    let s = c.args.s.now in
    let at = c.args.self.at in
    let inner = value_at c.args.levels s in
    let a = c.in_ok-found.found.end.at in
    let k = c.in_ok-found.found.kind in
    let is = is_found _ c.in_ok-found.found.end k c.in_ok-found.ensures in
    entry_here s 0 0 at a k 0 c.minus.result c.next_entry-next.result refl c.minus.ensures c.next_entry-next.ensures
    ∙ ap (member_of s) (element_entry inner s at (found a k) (sym is))
