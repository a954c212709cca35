-- `gather` copies the numbers of the recipient's own entries.
use mathlib.Core.Path.{refl, ap, ◌∙◌}
use mathlib.Core.List.{List}
use Prim.Native.Nat.{ℕ, ◌*◌}
use lib.ListN.{get_or}
use Rattle.prelude.specs.Buffer.{written}
use Rattle.jwe.proofs.OwnHeaders.{own_part}
use Rattle.rows.specs.Tables.{width, header_table}
use Rattle.jwe.proofs.held.gather.Goals as goal

pub returns : goal.returns
returns c =
    let args = c.args in
    let count = get_or args.counts.now args.i 0 in
    record {
      value = refl;
      table_after = c.copy.ensures
          ∙ ap (λ (l : List ℕ). written (args.front * width) l args.table.now)
          (own_part args.own.now (args.i * header_table) count);
    }
