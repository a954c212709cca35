-- `spelled` gives what stands between the quotation marks; a value that begins past the text has no part in it.
use mathlib.Core.Path.{sym, ap, ◌∙◌}
use Prim.Native.Nat.{◌+◌, ◌-◌}
use native.Mathlib.Omega.{arith}
use Rattle.parts.specs.Parts.{part}
use Rattle.parts.proofs.Laws.{part_empty}
use Rattle.same.proofs.spelled.Goals as goal

pub returns-then-s-start : goal.returns-then-s-start
returns-then-s-start c =
    let given = c.args in
    sym (part_empty given.s.now (given.v.start + 1) (given.v.len - 2) (omega arith))

pub returns : goal.returns
returns c =
    let given = c.args in
    c.part.ensures.octets ∙ ap (part given.s.now (given.v.start + 1)) c.minus.ensures
