-- `opens_object` looks at the octet behind the space, as the definition does.
use Prim.Native.Nat.{ℕ}
use mathlib.Core.Path.{ap, ◌∙◌}
use lib.Dec.{eqb}
use Rattle.grammar.specs.Reader.{octet_at, opens_object}
use Rattle.json_read.proofs.opens_object.Goals as goal

pub returns : goal.returns
unfolding opens_object
returns c =
    let s = c.args.s.now in
    ap (λ (n : ℕ). eqb n 123) (c.peek.ensures ∙ ap (octet_at s) c.skip_space-first.ensures)
