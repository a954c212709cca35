-- `value_in` seeks where it may, and reads else.
use mathlib.Core.Path.{subst}
use Rattle.json_read.specs.Inner.Known.{Given, Known}
use Rattle.json_read.proofs.Position.value_in.Goals as goal

pub known-requires : goal.known-requires
known-requires c =
    subst (λ b. Given b (Known c.args.levels c.args.s.now c.args.self.at)) c.if-judged.true
    c.requires
