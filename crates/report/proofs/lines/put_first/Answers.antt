-- `put_first` writes one word behind the other.
use mathlib.Core.List.{List, [], ◌∷◌}
use Prim.Native.Nat.{ℕ, ◌+◌}
use native.Mathlib.Omega.{arith}
use Rattle.prelude.specs.Ascii.{ascii}
use Rattle.report.specs.Text as Text
use Rattle.report.specs.Text.{decimal, space, line_feed}
use Rattle.report.specs.Report.{forms, modes}
use Rattle.report.proofs.Parts.{start, fits, step, done}
use Rattle.report.proofs.lines.put_first.Goals as goal

abbrev parts : ℕ → ℕ → ℕ → List (List ℕ)
parts form count mode =
    Text.ended (ascii "accepted") space
    ∷ Text.ended (Text.word (form + 1) forms) space
    ∷ Text.ended (decimal count) space
    ∷ Text.ended (Text.word mode modes) line_feed
    ∷ []

pub put_word-a-requires : goal.put_word-a-requires
unfolding ascii forms modes
put_word-a-requires c =
    fits (start c.args.at (parts c.args.form c.args.count c.args.mode) c.args.out.now c.requires) (omega arith)

pub put_named-b-requires : goal.put_named-b-requires
unfolding ascii forms modes
put_named-b-requires c =
    record {
      bound = omega arith;
      end_in_bounds = fits (step (start c.args.at (parts c.args.form c.args.count c.args.mode) c.args.out.now c.requires) (omega arith)
          c.put_word-a.ensures.value c.put_word-a.ensures.out_after) (omega arith);
    }

pub put_number-c-requires : goal.put_number-c-requires
unfolding ascii forms modes
put_number-c-requires c =
    fits (step (step (start c.args.at (parts c.args.form c.args.count c.args.mode) c.args.out.now c.requires) (omega arith)
    c.put_word-a.ensures.value c.put_word-a.ensures.out_after) (omega arith)
    c.put_named-b.ensures.value c.put_named-b.ensures.out_after) (omega arith)

pub put_named-requires : goal.put_named-requires
unfolding ascii forms modes
put_named-requires c =
    record {
      bound = omega arith;
      end_in_bounds = fits (step (step (step (start c.args.at (parts c.args.form c.args.count c.args.mode) c.args.out.now c.requires) (omega arith)
          c.put_word-a.ensures.value c.put_word-a.ensures.out_after) (omega arith)
          c.put_named-b.ensures.value c.put_named-b.ensures.out_after) (omega arith)
          c.put_number-c.ensures.value c.put_number-c.ensures.out_after) (omega arith);
    }

pub returns : goal.returns
unfolding ascii forms modes
returns c =
    let all = done (step (step (step (step (start c.args.at (parts c.args.form c.args.count c.args.mode) c.args.out.now c.requires) (omega arith)
    c.put_word-a.ensures.value c.put_word-a.ensures.out_after) (omega arith)
    c.put_named-b.ensures.value c.put_named-b.ensures.out_after) (omega arith)
    c.put_number-c.ensures.value c.put_number-c.ensures.out_after) (omega arith)
    c.put_named.ensures.value c.put_named.ensures.out_after) (omega arith) in
    record { value = all.0; out_after = all.1 }
