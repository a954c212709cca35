-- `hollow` looks at the octet where the first member would stand; the end of the text is no bracket.
use mathlib.Core.Path.{ap, ◌∙◌}
use Prim.Native.Nat.{ℕ}
use lib.Dec.{eqb}
use Rattle.grammar.specs.Reader.{octet_at}
use Rattle.grammar.proofs.Here.{octet_here, octet_end}
use Rattle.shape.proofs.member.hollow.Goals as goal

pub returns-then-first-message : goal.returns-then-first-message
returns-then-first-message c =
    let args = c.args in
    let s = args.message.now in
    ap (λ (n : ℕ). eqb n 125)
    (octet_here s c.inside-first.result.at c.if-first-message.true ∙ ap (λ (at : ℕ). octet_at s at) c.inside-first.ensures)

pub returns : goal.returns
returns c =
    let args = c.args in
    let s = args.message.now in
    ap (λ (n : ℕ). eqb n 125)
    (octet_end s c.inside-first.result.at c.if-first-message.false ∙ ap (λ (at : ℕ). octet_at s at) c.inside-first.ensures)
