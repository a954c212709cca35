-- `put_component` writes the name and the two numbers one behind the other.
use mathlib.Core.List.{List, [], ◌∷◌}
use Prim.Native.Nat.{ℕ}
use native.Mathlib.Omega.{arith}
use Rattle.prelude.specs.declared.Place.{Place}
use Rattle.report.specs.Text as Text
use Rattle.report.specs.Text.{decimal, space, line_feed}
use Rattle.report.proofs.Parts.{start, fits, step, done}
use Rattle.report.proofs.lines.put_component.Goals as goal

abbrev parts : List ℕ → Place → List (List ℕ)
parts name place =
    Text.ended name space ∷ Text.ended (decimal place.start) space ∷ Text.ended (decimal place.len) line_feed ∷ []

pub put_word-a-requires : goal.put_word-a-requires
put_word-a-requires c =
    fits (start c.args.at (parts c.args.name.now c.args.place) c.args.out.now c.requires) (omega arith)

pub put_number-b-requires : goal.put_number-b-requires
put_number-b-requires c =
    fits (step (start c.args.at (parts c.args.name.now c.args.place) c.args.out.now c.requires) (omega arith)
    c.put_word-a.ensures.value c.put_word-a.ensures.out_after) (omega arith)

pub put_number-requires : goal.put_number-requires
put_number-requires c =
    fits (step (step (start c.args.at (parts c.args.name.now c.args.place) c.args.out.now c.requires) (omega arith)
    c.put_word-a.ensures.value c.put_word-a.ensures.out_after) (omega arith)
    c.put_number-b.ensures.value c.put_number-b.ensures.out_after) (omega arith)

pub returns : goal.returns
returns c =
    let all = done (step (step (step (start c.args.at (parts c.args.name.now c.args.place) c.args.out.now c.requires) (omega arith)
    c.put_word-a.ensures.value c.put_word-a.ensures.out_after) (omega arith)
    c.put_number-b.ensures.value c.put_number-b.ensures.out_after) (omega arith)
    c.put_number.ensures.value c.put_number.ensures.out_after) (omega arith) in
    record { value = all.0; out_after = all.1 }
