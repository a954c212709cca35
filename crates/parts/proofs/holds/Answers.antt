-- `holds` tells whether the octet stands in the text: whether it is found before the end.
use Prim.Native.Nat.{ℕ}
use mathlib.Core.Path.{ap, ◌∙◌}
use lib.ListN.{length}
use lib.Dec.{ltb}
use Rattle.parts.proofs.Laws.{holds_seek}
use Rattle.parts.proofs.holds.Goals as goal

pub returns : goal.returns
returns c =
    let given = c.args in
    ap (λ (e : ℕ). ltb e (length given.s.now)) c.seek.ensures.value ∙ holds_seek given.c given.s.now
