-- `protected_entries` collects the members of the object behind the leading space: the list in the source is that of the
-- registered names, by computing.
use mathlib.Core.Path.{ap, ◌∙◌}
use mathlib.Core.List.{List, flatten}
use native.Mathlib.Omega.{arith}
use Rattle.prelude.specs.Ascii.{ascii}
use Rattle.names.specs.Names.{list_of}
use Rattle.names.proofs.Laws.{names_of_lem}
use Rattle.names.proofs.Contents.{filled_list}
use Rattle.rows.specs.Rows.{Entry}
use Rattle.rows.specs.Inner.Prints.{collected_table}
use Rattle.jose.specs.Registered.{registered}
use Rattle.headers.proofs.Collected.{entries_are, stage_is}
use Rattle.headers.proofs.protected_entries.Goals as goal

pub object-requires : goal.object-requires
unfolding list_of registered ascii flatten
object-requires c =
    record {
      s_len_bound = c.requires.header_len_bound;
      list_value = filled_list registered;
      header_table_in_bounds = omega (arith, c.requires.header_table_in_bounds);
      given = tt;
    }

pub returns : goal.returns
unfolding list_of registered ascii flatten
returns c =
    let s = c.args.header.now in
    record {
      value = c.object.ensures.value ∙ stage_is s (list_of registered) _ (names_of_lem registered) c.skip_space-start.ensures;
      table_after = c.object.ensures.table_after
          ∙ ap (λ (es : List Entry). collected_table 0 s es c.args.table.now)
          (entries_are s (list_of registered) _ (names_of_lem registered) c.skip_space-start.ensures);
    }
