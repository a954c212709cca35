-- `unprotected` collects the object where one stands; the list in the source is the list of the registered names, by
-- computing.
use mathlib.Core.List.{flatten}
use Rattle.prelude.specs.Ascii.{ascii}
use Rattle.names.specs.Names.{list_of}
use Rattle.names.proofs.Laws.{names_of_lem}
use Rattle.names.proofs.Contents.{filled_list}
use Rattle.jose.specs.Registered.{registered}
use Rattle.jwe.proofs.JsonHeaders.{absent_passes, absent_left, stands_stage, stands_table}
use Rattle.jwe.proofs.general.unprotected.Goals as goal

pub returns-then-start-eq0 : goal.returns-then-start-eq0
returns-then-start-eq0 c =
    let args = c.args in
    let message = args.message.now in
    record {
      value = absent_passes message args.origin args.start c.if-start-eq0.true;
      table_after = absent_left message args.origin args.start c.if-start-eq0.true args.from args.table.now;
    }

pub object-requires : goal.object-requires
unfolding list_of registered ascii flatten
object-requires c =
    record {
      s_len_bound = c.requires.message_len_bound;
      list_value = filled_list registered;
      header_table_in_bounds = c.requires.header_table_in_bounds;
      given = c.requires.header_known c.if-start-eq0.false;
    }

pub returns : goal.returns
unfolding list_of registered ascii flatten
returns c =
    let args = c.args in
    let message = args.message.now in
    let there = c.if-start-eq0.false in
    record {
      value = stands_stage message args.origin args.start (names_of_lem registered) there c.object.ensures.value;
      table_after = stands_table message args.origin args.start (names_of_lem registered) there args.from _ args.table.now c.object.ensures.table_after;
    }
