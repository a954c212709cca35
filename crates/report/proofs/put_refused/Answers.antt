-- `put_refused` writes the word and the number.
use mathlib.Core.List.{List, [], ◌∷◌}
use Prim.Native.Nat.{ℕ, ◌+◌, ◌≤◌, ◌<◌}
use native.Mathlib.Omega.{arith}
use lib.ListN.{length, length-append}
use Rattle.prelude.specs.Ascii.{ascii}
use Rattle.report.specs.Text.{decimal, space, line_feed, ended}
use Rattle.report.specs.Report.{refused_report}
use Rattle.report.specs.Answers.{report_room}
use Rattle.report.proofs.Decimal.{decimal_short}
use Rattle.report.proofs.Parts.{joined, start, fits, step, done}
use Rattle.report.proofs.put_refused.Goals as goal

abbrev parts : ℕ → List (List ℕ)
parts n = ended (ascii "refused") space ∷ ended (decimal n) line_feed ∷ []

room : (n : ℕ) (out : List ℕ) → n < 4294967296 → report_room ≤ length out → 0 + length (joined (parts n)) ≤ length out
unfolding ascii
room n out small h = simp length-append (omega (arith, h, decimal_short n small))

pub put_word-a-requires : goal.put_word-a-requires
unfolding ascii
put_word-a-requires c =
    fits (start 0 (parts c.args.n) c.args.out.now (room c.args.n c.args.out.now (omega (arith, c.ranges.n)) c.requires)) (omega arith)

pub put_number-requires : goal.put_number-requires
unfolding ascii
put_number-requires c =
    fits (step (start 0 (parts c.args.n) c.args.out.now (room c.args.n c.args.out.now (omega (arith, c.ranges.n)) c.requires)) (omega arith)
    c.put_word-a.ensures.value c.put_word-a.ensures.out_after) (omega arith)

pub returns : goal.returns
unfolding refused_report ascii
returns c =
    let there = room c.args.n c.args.out.now (omega (arith, c.ranges.n)) c.requires in
    let all = done (step (step (start 0 (parts c.args.n) c.args.out.now there) (omega arith)
    c.put_word-a.ensures.value c.put_word-a.ensures.out_after) (omega arith)
    c.put_number.ensures.value c.put_number.ensures.out_after) (omega arith) in
    record { value = omega (arith, all.0); out_after = all.1; upper_bound = omega (arith, all.0, there) }
