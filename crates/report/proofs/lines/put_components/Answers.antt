-- `put_components` writes one line behind the other.
use mathlib.Core.List.{List, [], ◌∷◌}
use Prim.Native.Nat.{ℕ}
use native.Mathlib.Omega.{arith}
use Rattle.prelude.specs.Ascii.{ascii}
use Rattle.headers.specs.declared.Components.{Components}
use Rattle.headers.specs.Answers.{place_of}
use Rattle.report.specs.Report.{component_line}
use Rattle.report.proofs.Parts.{start, fits, step, done}
use Rattle.report.proofs.lines.put_components.Goals as goal

abbrev parts : Components → List (List ℕ)
parts q =
    component_line (ascii "protected") (place_of q.protected)
    ∷ component_line (ascii "key") (place_of q.key)
    ∷ component_line (ascii "iv") (place_of q.iv)
    ∷ component_line (ascii "aad") (place_of q.aad)
    ∷ component_line (ascii "ciphertext") (place_of q.ciphertext)
    ∷ component_line (ascii "tag") (place_of q.tag)
    ∷ []

pub put_component-a-requires : goal.put_component-a-requires
unfolding ascii
put_component-a-requires c =
    fits (start c.args.at (parts c.args.places) c.args.out.now c.requires) (omega arith)

pub put_component-b-requires : goal.put_component-b-requires
unfolding ascii
put_component-b-requires c =
    fits (step (start c.args.at (parts c.args.places) c.args.out.now c.requires) (omega arith)
    c.put_component-a.ensures.value c.put_component-a.ensures.out_after) (omega arith)

pub put_component-c-requires : goal.put_component-c-requires
unfolding ascii
put_component-c-requires c =
    fits (step (step (start c.args.at (parts c.args.places) c.args.out.now c.requires) (omega arith)
    c.put_component-a.ensures.value c.put_component-a.ensures.out_after) (omega arith)
    c.put_component-b.ensures.value c.put_component-b.ensures.out_after) (omega arith)

pub put_component-d-requires : goal.put_component-d-requires
unfolding ascii
put_component-d-requires c =
    fits (step (step (step (start c.args.at (parts c.args.places) c.args.out.now c.requires) (omega arith)
    c.put_component-a.ensures.value c.put_component-a.ensures.out_after) (omega arith)
    c.put_component-b.ensures.value c.put_component-b.ensures.out_after) (omega arith)
    c.put_component-c.ensures.value c.put_component-c.ensures.out_after) (omega arith)

pub put_component-e-requires : goal.put_component-e-requires
unfolding ascii
put_component-e-requires c =
    fits (step (step (step (step (start c.args.at (parts c.args.places) c.args.out.now c.requires) (omega arith)
    c.put_component-a.ensures.value c.put_component-a.ensures.out_after) (omega arith)
    c.put_component-b.ensures.value c.put_component-b.ensures.out_after) (omega arith)
    c.put_component-c.ensures.value c.put_component-c.ensures.out_after) (omega arith)
    c.put_component-d.ensures.value c.put_component-d.ensures.out_after) (omega arith)

pub put_component-requires : goal.put_component-requires
unfolding ascii
put_component-requires c =
    fits (step (step (step (step (step (start c.args.at (parts c.args.places) c.args.out.now c.requires) (omega arith)
    c.put_component-a.ensures.value c.put_component-a.ensures.out_after) (omega arith)
    c.put_component-b.ensures.value c.put_component-b.ensures.out_after) (omega arith)
    c.put_component-c.ensures.value c.put_component-c.ensures.out_after) (omega arith)
    c.put_component-d.ensures.value c.put_component-d.ensures.out_after) (omega arith)
    c.put_component-e.ensures.value c.put_component-e.ensures.out_after) (omega arith)

pub returns : goal.returns
unfolding ascii
returns c =
    let all = done (step (step (step (step (step (step (start c.args.at (parts c.args.places) c.args.out.now c.requires) (omega arith)
    c.put_component-a.ensures.value c.put_component-a.ensures.out_after) (omega arith)
    c.put_component-b.ensures.value c.put_component-b.ensures.out_after) (omega arith)
    c.put_component-c.ensures.value c.put_component-c.ensures.out_after) (omega arith)
    c.put_component-d.ensures.value c.put_component-d.ensures.out_after) (omega arith)
    c.put_component-e.ensures.value c.put_component-e.ensures.out_after) (omega arith)
    c.put_component.ensures.value c.put_component.ensures.out_after) (omega arith) in
    record { value = all.0; out_after = all.1 }
