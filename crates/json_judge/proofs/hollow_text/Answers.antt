-- Of a text that reads, the octet where the first member would stand tells.
use mathlib.Core.Path.{ap, ◌∙◌}
use Prim.Native.Nat.{ℕ}
use lib.Dec.{eqb}
use Rattle.grammar.specs.Grammar.{curly}
use Rattle.grammar.specs.Reader.{octet_at}
use Rattle.grammar.proofs.Here.{octet_here, octet_end}
use Rattle.shape.specs.Shape.{hollow}
use Rattle.json_judge.proofs.Texts.{hollow_absent, hollow_present}
use Rattle.json_judge.proofs.hollow_text.Goals as goal

pub returns-then-text-eq0 : goal.returns-then-text-eq0
returns-then-text-eq0 c = hollow_absent c.args.text.now c.if-text-eq0.true

pub returns-then-first-text : goal.returns-then-first-text
returns-then-first-text c =
    let s = c.args.text.now in
    ap (λ (n : ℕ). eqb n 125)
    (octet_here s c.inside-first.result.at c.if-first-text.true ∙ ap (λ (at : ℕ). octet_at s at) c.inside-first.ensures)
    ∙ ap (hollow curly s) c.skip_space.ensures
    ∙ hollow_present s c.if-text-eq0.false c.requires.reads

pub returns : goal.returns
returns c =
    let s = c.args.text.now in
    ap (λ (n : ℕ). eqb n 125)
    (octet_end s c.inside-first.result.at c.if-first-text.false ∙ ap (λ (at : ℕ). octet_at s at) c.inside-first.ensures)
    ∙ ap (hollow curly s) c.skip_space.ensures
    ∙ hollow_present s c.if-text-eq0.false c.requires.reads
