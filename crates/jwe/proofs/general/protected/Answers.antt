-- `protected` collects the object that the header is; 10 after 8 and 9 is the same as before them.
use mathlib.Core.Path.{sym, ◌∙◌, ap}
use mathlib.Core.List.{flatten}
use Rattle.prelude.specs.Ascii.{ascii}
use Rattle.names.specs.Names.{list_of}
use Rattle.names.proofs.Laws.{names_of_lem}
use Rattle.names.proofs.Contents.{filled_list}
use Rattle.jose.specs.Registered.{registered}
use Rattle.jwe.proofs.JsonHeaders.{protected_stage, protected_table_lem}
use Rattle.jwe.proofs.JsonHeaders.{protected_refused, protected_hollow, protected_passed, protected_absent}
use Rattle.prelude.specs.Refusals.{as_stage}
use Rattle.prelude.proofs.Exits.{handed_up}
use Rattle.jwe.proofs.general.protected.Goals as goal

pub object-requires : goal.object-requires
unfolding list_of registered ascii flatten
object-requires c =
    record {
      s_len_bound = c.requires.header_len_bound;
      list_value = filled_list registered;
      header_table_in_bounds = c.requires.header_table_in_bounds;
      given = tt;
    }

pub returns-in_err-count : goal.returns-in_err-count
unfolding list_of registered ascii flatten
returns-in_err-count c =
    let args = c.args in
    let header = args.header.now in
    let at = c.skip_space-at.ensures in
    record {
      value = handed_up _ _ c.from_residual.ensures.1 _ c.in_err-count.was
          ∙ protected_refused header args.there _
          (protected_stage header (names_of_lem registered) at c.object.ensures.value) (ap as_stage c.in_err-count.was);
      table_after = protected_table_lem header (names_of_lem registered) at _ args.table.now c.object.ensures.table_after;
    }

pub returns-then-count-eq0 : goal.returns-then-count-eq0
unfolding list_of registered ascii flatten
returns-then-count-eq0 c =
    let args = c.args in
    let header = args.header.now in
    let at = c.skip_space-at.ensures in
    let stage = protected_stage header (names_of_lem registered) at c.object.ensures.value in
    record {
      value = protected_hollow header args.there _ (sym (ap as_stage c.in_ok-count.was) ∙ stage) c.if-there.true c.if-count-eq0.true;
      table_after = protected_table_lem header (names_of_lem registered) at _ args.table.now c.object.ensures.table_after;
    }

pub returns-else-count-eq0 : goal.returns-else-count-eq0
unfolding list_of registered ascii flatten
returns-else-count-eq0 c =
    let args = c.args in
    let header = args.header.now in
    let at = c.skip_space-at.ensures in
    let stage = protected_stage header (names_of_lem registered) at c.object.ensures.value in
    record {
      value = protected_passed header args.there _ (sym (ap as_stage c.in_ok-count.was) ∙ stage) c.if-count-eq0.false;
      table_after = protected_table_lem header (names_of_lem registered) at _ args.table.now c.object.ensures.table_after;
    }

pub returns-else-there : goal.returns-else-there
unfolding list_of registered ascii flatten
returns-else-there c =
    let args = c.args in
    let header = args.header.now in
    let at = c.skip_space-at.ensures in
    let stage = protected_stage header (names_of_lem registered) at c.object.ensures.value in
    record {
      value = protected_absent header args.there _ (sym (ap as_stage c.in_ok-count.was) ∙ stage) c.if-there.false;
      table_after = protected_table_lem header (names_of_lem registered) at _ args.table.now c.object.ensures.table_after;
    }
