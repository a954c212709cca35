-- `own_content` seeks in the part of the table where the recipient's own header was collected.
use mathlib.Core.Path.{ap, ◌∙◌}
use mathlib.Core.List.{List}
use Prim.Native.Nat.{ℕ, ◌-◌, ◌*◌}
use native.Mathlib.Omega.{arith}
use lib.ListN.{length, drop, get_or, length-drop}
use lib.Seq.{take_all}
use Rattle.rows.specs.Tables.{entries_of, header_table}
use Rattle.jose.specs.Inner.Content.{named_in}
use Rattle.jwe.proofs.general.own_content.Goals as goal

pub returns : goal.returns
returns c =
    let args = c.args in
    let own = args.own.now in
    let start = args.i * header_table in
    c.sole.ensures
    ∙ ap (λ (l : List ℕ). named_in (entries_of (get_or args.counts.now args.i 0) l))
    (take_all (length own - start) (drop start own) (omega (arith, length-drop start own)))
