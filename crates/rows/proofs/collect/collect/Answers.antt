-- `collect` lays the members' rows flat and then writes their entries; the rows' numbers are within the text, so that
-- they fit the table.
use Prim.Native.Nat.{◌<◌}
use mathlib.Core.Path.{sym, subst, ◌∙◌}
use native.Mathlib.Omega.{arith}
use lib.ListN.{length}
use Rattle.prelude.specs.Buffer.{AllBelow}
use Rattle.prelude.specs.Limits.{number_limit}
use Rattle.names.specs.Names.{names}
use Rattle.grammar.specs.Reader.{members_at}
use Rattle.json_read.proofs.Within.{members_below}
use Rattle.rows.proofs.Collecting.{few, rows_laid, entries_collected, none_collected}
use Rattle.rows.proofs.collect.collect.Goals as goal

pub returns-in_err-count : goal.returns-in_err-count
returns-in_err-count c =
    let args = c.args in
    let ms = members_at 12 args.text.now args.at in
    let told = c.in_err-count.ensures.value in
    record {
      value = c.from_residual.ensures ∙ told;
      table_after = none_collected ms told (names args.list.now) args.text.now args.origin args.from args.table.now;
    }

pub fill-requires : goal.fill-requires
fill-requires c =
    let args = c.args in
    let ms = members_at 12 args.text.now args.at in
    let told = c.in_ok-count.ensures.value in
    let short : length args.text.now < number_limit = omega (arith, c.requires.text_len_bound) in
    let below = members_below 12 args.text.now args.at number_limit short (omega arith) in
    record {
      list_value = c.requires.list_value;
      member_width_in_bounds = omega (arith, few ms c.in_ok-count.count told);
      all_below = subst (AllBelow number_limit) (sym (rows_laid ms c.in_ok-count.count told _ _ c.collect.ensures.table_after)) below;
      width_in_bounds = omega (arith, few ms c.in_ok-count.count told, c.requires.header_table_in_bounds);
    }

pub returns : goal.returns
returns c =
    let args = c.args in
    let text = args.text.now in
    let ms = members_at 12 text args.at in
    let list = names args.list.now in
    let told = c.in_ok-count.ensures.value in
    record {
      value = told;
      table_after = entries_collected ms c.in_ok-count.count told _ _ c.collect.ensures.table_after list text args.origin args.from
          args.table.now _ c.fill.ensures;
    }
