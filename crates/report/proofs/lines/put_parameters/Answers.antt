-- `put_parameters` writes one line behind the other; what is still to come is the lines from the next parameter on.
use mathlib.Core.Path.{subst, ◌∙◌}
use mathlib.Core.List.{List}
use Prim.Native.Nat.{ℕ, ◌+◌, ◌-◌, ◌*◌}
use native.Mathlib.Omega.{arith}
use lib.ListN.{take, drop, length-take, length-drop}
use Rattle.prelude.proofs.Writing.{Writing, begin_as, put_part, room_part, ended}
use Rattle.rows.specs.Tables.{first_of, list_width}
use Rattle.report.specs.Report.{parameter_line}
use Rattle.report.specs.Answers.{list_lines}
use Rattle.report.proofs.Listing.{lines_all, lines_next, lines_none}
use Rattle.report.proofs.lines.put_parameters.Goals as goal

pub loop-i-init : goal.loop-i-init
loop-i-init c =
    let list = c.args.list.now in
    begin_as c.args.at _ _ c.args.out.now (lines_all c.args.count list) c.requires.list_in_bounds

pub put_parameter-next-requires : goal.put_parameter-next-requires
put_parameter-next-requires c =
    let list = c.args.list.now in
    let from = drop (c.loop-i.i * list_width) list in
    record {
      row_len = length-take (c.loop-i.i * list_width + list_width - c.loop-i.i * list_width) from ∙ omega (arith, length-drop (c.loop-i.i * list_width) list);
      row_in_bounds = room_part (parameter_line (first_of (take (c.loop-i.i * list_width + list_width - c.loop-i.i * list_width) from))) _
          (lines_next c.args.count list c.loop-i.i c.loop-i-test.true) c.loop-i.invariant;
    }

pub loop-i-preserved : goal.loop-i-preserved
loop-i-preserved c =
    let list = c.args.list.now in
    put_part (parameter_line (first_of (take (c.loop-i.i * list_width + list_width - c.loop-i.i * list_width) (drop (c.loop-i.i * list_width) list)))) _
    (lines_next c.args.count list c.loop-i.i c.loop-i-test.true) c.loop-i.invariant c.put_parameter-next.ensures.value
    c.put_parameter-next.ensures.out_after

pub shape_of-out : goal.shape_of-out
shape_of-out c = c.loop-i.invariant.same

pub returns : goal.returns
returns c =
    let all = list_lines c.args.count c.args.list.now in
    let both = ended (subst (λ (rest : List ℕ). Writing c.args.at all c.args.out.now rest c.loop-i.next c.loop-i.out)
    (lines_none c.args.count c.args.list.now c.loop-i.i c.loop-i-test.false) c.loop-i.invariant) in
    record { value = both.0; out_after = both.1 }
