-- `fill` has the entries of the rows so far in its table, and those of the rows from the next one on to come.
use Prim.Native.Nat.{ℕ, ◌+◌, ◌-◌, ◌*◌}
use mathlib.Core.Path.{subst, ◌∙◌}
use mathlib.Core.List.{List}
use native.Mathlib.Omega.{arith}
use lib.ListN.{take, drop, length-take, length-drop}
use Rattle.names.specs.Names.{names}
use Rattle.prelude.proofs.Writing.{Writing, put_part, done}
use Rattle.prelude.specs.Limits.{number_limit}
use Rattle.rows.specs.Rows.{entry_of, entries_in}
use Rattle.rows.specs.Tables.{width}
use Rattle.rows.specs.Inner.Members.{first_member, members_of}
use Rattle.rows.specs.Inner.Prints.{table_row, flat}
use Rattle.rows.proofs.Collecting.{below_inside, entries_next, entries_none, entries_begin}
use Rattle.json_read.specs.Members.{member_width}
use Rattle.rows.proofs.collect.fill.Goals as goal

pub loop-i-init : goal.loop-i-init
loop-i-init c =
    let args = c.args in
    let list = names args.list.now in
    let table = args.table.now in
    entries_begin list args.text.now args.origin args.count args.rows.now args.from table c.requires.width_in_bounds

pub put-requires : goal.put-requires
put-requires c =
    let rows = c.args.rows.now in
    let at = c.loop-i.i * member_width in
    record {
      list_value = c.requires.list_value;
      row_len = length-take (at + member_width - at) (drop at rows) ∙ omega (arith, length-drop at rows, c.requires.member_width_in_bounds);
      all_below = below_inside number_limit (at + member_width - at) at (c.args.count * member_width) rows c.requires.all_below (omega arith)
          c.requires.member_width_in_bounds;
      width_in_bounds = omega (arith, c.loop-i.invariant.same, c.requires.width_in_bounds);
    }

pub loop-i-preserved : goal.loop-i-preserved
loop-i-preserved c =
    let list = names c.args.list.now in
    let text = c.args.text.now in
    let origin = c.args.origin in
    let count = c.args.count in
    let rows = c.args.rows.now in
    let at = c.loop-i.i * member_width in
    let row = take (at + member_width - at) (drop at rows) in
    let more = c.loop-i-test.true in
    let next = entries_next list text origin count c.loop-i.i rows (at + member_width - at) (omega arith) more in
    let behind = members_of (count - (c.loop-i.i + 1)) (drop ((c.loop-i.i + 1) * member_width) rows) in
    let later = flat text (entries_in list text origin behind) in
    put_part (table_row text (entry_of list text origin (first_member row))) later next c.loop-i.invariant (omega arith) c.put.ensures

pub shape_of-table : goal.shape_of-table
shape_of-table c = c.loop-i.invariant.same

pub returns : goal.returns
returns c =
    let args = c.args in
    let list = names args.list.now in
    let text = args.text.now in
    let rows = args.rows.now in
    let all = flat text (entries_in list text args.origin (members_of args.count rows)) in
    let none = entries_none list text args.origin args.count c.loop-i.i rows c.loop-i-test.false in
    done (subst
    (λ (l : List ℕ). Writing (args.from * width) all args.table.now l ((args.from + c.loop-i.i) * width) c.loop-i.table)
    none c.loop-i.invariant)
