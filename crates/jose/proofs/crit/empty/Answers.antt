-- `empty` asks for the first element: there is none where there are none.
use mathlib.Core.Path.{◌≡◌, ap, sym, ◌∙◌}
use mathlib.Core.Bool.{Bool, true, false, not}
use Rattle.std.specs.Prelude as std
use Rattle.std.specs.Prelude.{Some, None}
use Rattle.std.specs.Iterator.{YieldsFirstBy}
use Rattle.json_read.specs.Members.{row_member}
use Rattle.json_read.specs.Inner.Rows.{rows_left, elements_left}
use Rattle.json_read.specs.declared.member.Rows.{Rows}
use Rattle.json_read.specs.declared.member.Row.{Row}
use Rattle.json_read.proofs.RowsLeft.{element_more, element_none}
use Rattle.jose.specs.HeaderRules.{is_empty}
use Rattle.jose.proofs.crit.empty.Goals as goal

first : (e u : Rows) (o : std.Option Row) (b : Bool) → std.is_some o ≡ not b →
    YieldsFirstBy row_member rows_left e o u → b ≡ is_empty (elements_left e)
first e u None true n h = sym (ap is_empty (element_none e h.0))
first e u (Some row) false n h = sym (ap is_empty (element_more e u h))
first e u None false n h = cc
first e u (Some row) true n h = cc

pub returns : goal.returns
returns c =
    first c.elements.result c.next.new.self c.next.result c.is_none.result c.is_none.ensures c.next.ensures.steps
    ∙ ap is_empty c.elements.ensures.elements
