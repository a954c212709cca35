-- `put_accepted` writes the lines one behind the other. There is room, since 32 bits hold each number of the list.
use mathlib.Core.List.{List, [], ◌∷◌}
use Prim.Native.Nat.{ℕ, ◌+◌, ◌≤◌}
use native.Mathlib.Omega.{arith}
use lib.ListN.{length}
use Rattle.prelude.specs.Buffer.{AllBelow}
use Rattle.headers.specs.Answers.{components_of}
use Rattle.jwe.specs.Answers.{Result, numbers, reading_of}
use Rattle.jwe.proofs.Small.{limit}
use Rattle.report.specs.Report.{first_line, component_lines}
use Rattle.report.specs.Answers.{report_room, list_lines}
use Rattle.report.proofs.Sizes.{Below, result_short}
use Rattle.report.proofs.Parts.{joined, start, fits, step, done}
use Rattle.report.proofs.put_accepted.Goals as goal

abbrev parts : Result → List ℕ → List (List ℕ)
parts r list =
    first_line r.form r.recipients r.mode ∷ component_lines (components_of r.components) ∷ list_lines r.parameters list ∷ []

room : (r : Result) (list out : List ℕ) → Below list → AllBelow limit (numbers r) → r.parameters ≤ 96 → report_room ≤ length out →
    0 + length (joined (parts r list)) ≤ length out
room r list out below small few h = omega (arith, h, result_short r small list below few)

pub put_first-a-requires : goal.put_first-a-requires
put_first-a-requires c =
    let there = room (reading_of c.args.r) c.args.list.now c.args.out.now (λ k. omega (arith, c.type_inv.list k)) c.requires.all_below
    c.requires.parameters_bound c.requires.report_room_in_bounds in
    fits (start 0 (parts (reading_of c.args.r) c.args.list.now) c.args.out.now there) (omega arith)

pub put_components-b-requires : goal.put_components-b-requires
put_components-b-requires c =
    let there = room (reading_of c.args.r) c.args.list.now c.args.out.now (λ k. omega (arith, c.type_inv.list k)) c.requires.all_below
    c.requires.parameters_bound c.requires.report_room_in_bounds in
    fits (step (start 0 (parts (reading_of c.args.r) c.args.list.now) c.args.out.now there) (omega arith)
    c.put_first-a.ensures.value c.put_first-a.ensures.out_after) (omega arith)

pub put_parameters-requires : goal.put_parameters-requires
put_parameters-requires c =
    let there = room (reading_of c.args.r) c.args.list.now c.args.out.now (λ k. omega (arith, c.type_inv.list k)) c.requires.all_below
    c.requires.parameters_bound c.requires.report_room_in_bounds in
    record {
      list_width_in_bounds = c.requires.list_width_in_bounds;
      list_in_bounds = fits (step (step (start 0 (parts (reading_of c.args.r) c.args.list.now) c.args.out.now there) (omega arith)
          c.put_first-a.ensures.value c.put_first-a.ensures.out_after) (omega arith)
          c.put_components-b.ensures.value c.put_components-b.ensures.out_after) (omega arith);
    }

pub returns : goal.returns
returns c =
    let there = room (reading_of c.args.r) c.args.list.now c.args.out.now (λ k. omega (arith, c.type_inv.list k)) c.requires.all_below
    c.requires.parameters_bound c.requires.report_room_in_bounds in
    let all = done (step (step (step (start 0 (parts (reading_of c.args.r) c.args.list.now) c.args.out.now there) (omega arith)
    c.put_first-a.ensures.value c.put_first-a.ensures.out_after) (omega arith)
    c.put_components-b.ensures.value c.put_components-b.ensures.out_after) (omega arith)
    c.put_parameters.ensures.value c.put_parameters.ensures.out_after) (omega arith) in
    record { value = omega (arith, all.0); out_after = all.1; upper_bound = omega (arith, all.0, there) }
