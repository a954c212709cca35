-- `put_parameter` writes one word behind the other.
use mathlib.Core.List.{List, [], ◌∷◌}
use Prim.Native.Nat.{ℕ, ◌+◌}
use native.Mathlib.Omega.{arith}
use lib.ListN.{get_or}
use Rattle.prelude.specs.Ascii.{ascii}
use Rattle.report.specs.Text as Text
use Rattle.report.specs.Text.{decimal, space, line_feed}
use Rattle.report.specs.Report.{origins, kinds}
use Rattle.report.proofs.Parts.{start, fits, step, done}
use Rattle.report.proofs.lines.put_parameter.Goals as goal

abbrev parts : List ℕ → List (List ℕ)
parts row =
    Text.ended (Text.word (get_or row 0 0 + 1) origins) space
    ∷ Text.ended (decimal (get_or row 1 0)) space
    ∷ Text.ended (decimal (get_or row 2 0)) space
    ∷ Text.ended (decimal (get_or row 3 0)) space
    ∷ Text.ended (decimal (get_or row 4 0)) space
    ∷ Text.ended (Text.word (get_or row 5 0 + 1) kinds) line_feed
    ∷ []

pub put_named-a-requires : goal.put_named-a-requires
unfolding ascii origins kinds
put_named-a-requires c =
    record {
      bound = omega arith;
      end_in_bounds = fits (start c.args.at (parts c.args.row.now) c.args.out.now c.requires.row_in_bounds) (omega arith);
    }

pub put_number-b-requires : goal.put_number-b-requires
unfolding ascii origins kinds
put_number-b-requires c =
    fits (step (start c.args.at (parts c.args.row.now) c.args.out.now c.requires.row_in_bounds) (omega arith)
    c.put_named-a.ensures.value c.put_named-a.ensures.out_after) (omega arith)

pub put_number-c-requires : goal.put_number-c-requires
unfolding ascii origins kinds
put_number-c-requires c =
    fits (step (step (start c.args.at (parts c.args.row.now) c.args.out.now c.requires.row_in_bounds) (omega arith)
    c.put_named-a.ensures.value c.put_named-a.ensures.out_after) (omega arith)
    c.put_number-b.ensures.value c.put_number-b.ensures.out_after) (omega arith)

pub put_number-d-requires : goal.put_number-d-requires
unfolding ascii origins kinds
put_number-d-requires c =
    fits (step (step (step (start c.args.at (parts c.args.row.now) c.args.out.now c.requires.row_in_bounds) (omega arith)
    c.put_named-a.ensures.value c.put_named-a.ensures.out_after) (omega arith)
    c.put_number-b.ensures.value c.put_number-b.ensures.out_after) (omega arith)
    c.put_number-c.ensures.value c.put_number-c.ensures.out_after) (omega arith)

pub put_number-e-requires : goal.put_number-e-requires
unfolding ascii origins kinds
put_number-e-requires c =
    fits (step (step (step (step (start c.args.at (parts c.args.row.now) c.args.out.now c.requires.row_in_bounds) (omega arith)
    c.put_named-a.ensures.value c.put_named-a.ensures.out_after) (omega arith)
    c.put_number-b.ensures.value c.put_number-b.ensures.out_after) (omega arith)
    c.put_number-c.ensures.value c.put_number-c.ensures.out_after) (omega arith)
    c.put_number-d.ensures.value c.put_number-d.ensures.out_after) (omega arith)

pub put_named-requires : goal.put_named-requires
unfolding ascii origins kinds
put_named-requires c =
    record {
      bound = omega arith;
      end_in_bounds = fits (step (step (step (step (step (start c.args.at (parts c.args.row.now) c.args.out.now c.requires.row_in_bounds) (omega arith)
          c.put_named-a.ensures.value c.put_named-a.ensures.out_after) (omega arith)
          c.put_number-b.ensures.value c.put_number-b.ensures.out_after) (omega arith)
          c.put_number-c.ensures.value c.put_number-c.ensures.out_after) (omega arith)
          c.put_number-d.ensures.value c.put_number-d.ensures.out_after) (omega arith)
          c.put_number-e.ensures.value c.put_number-e.ensures.out_after) (omega arith);
    }

pub returns : goal.returns
unfolding ascii origins kinds
returns c =
    let all = done (step (step (step (step (step (step (start c.args.at (parts c.args.row.now) c.args.out.now c.requires.row_in_bounds) (omega arith)
    c.put_named-a.ensures.value c.put_named-a.ensures.out_after) (omega arith)
    c.put_number-b.ensures.value c.put_number-b.ensures.out_after) (omega arith)
    c.put_number-c.ensures.value c.put_number-c.ensures.out_after) (omega arith)
    c.put_number-d.ensures.value c.put_number-d.ensures.out_after) (omega arith)
    c.put_number-e.ensures.value c.put_number-e.ensures.out_after) (omega arith)
    c.put_named.ensures.value c.put_named.ensures.out_after) (omega arith) in
    record { value = all.0; out_after = all.1 }
