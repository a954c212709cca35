-- `lay` lays out each entry in turn.
use mathlib.Core.Path.{ap, ◌∙◌}
use mathlib.Core.List.{List}
use Prim.Native.Nat.{ℕ, ◌*◌}
use Rattle.prelude.specs.Buffer.{written}
use Rattle.rows.specs.Tables.{list_row, list_width, first_of}
use Rattle.rows.proofs.Laying.{lay_begins, lay_turn, laid}
use Rattle.rows.proofs.table.Entries.lay.Goals as goal

pub loop-i-init : goal.loop-i-init
loop-i-init c = lay_begins c.args.self.table.now c.args.self.count c.args.list.now c.requires

pub loop-i-preserved : goal.loop-i-preserved
loop-i-preserved c =
    let args = c.args in
    let i = c.loop-i.i in
    let e = c.lay.ensures ∙ ap (λ (t : List ℕ). written (i * list_width) (list_row (first_of t)) c.loop-i.list) c.at.ensures in
    lay_turn args.self.table.now args.self.count args.list.now i c.loop-i.list c.lay.new.list c.loop-i-test.true c.loop-i.invariant e

pub returns : goal.returns
returns c =
    let args = c.args in
    laid args.self.table.now args.self.count args.list.now c.loop-i.i c.loop-i.list c.loop-i-test.false c.loop-i.invariant
