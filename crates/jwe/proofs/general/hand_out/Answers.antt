-- `hand_out` gathers the recipient's entries, and answers with their number and mode and with the components.
use mathlib.Core.Path.{ap, ap₂, sym, ◌∙◌}
use mathlib.Core.List.{List}
use Prim.Native.Nat.{ℕ}
use native.Mathlib.Omega.{arith}
use lib.ListN.{length}
use lib.Seq.{length-take-le}
use Rattle.rows.specs.Rows.{Entry, read_texts}
use Rattle.rows.proofs.Entries.{entries_length}
use Rattle.jose.specs.HeaderRules.{mode_in}
use Rattle.headers.specs.Components.{with_key}
use Rattle.jwe.specs.Judge.{json_held, outcome_for}
use Rattle.jwe.specs.Inner.Holding.{HoldsShare, Gathers}
use Rattle.jwe.proofs.HeldTables.{gathers_json, header_size_lem}
use Rattle.jwe.proofs.JsonHeads.{result_is}
use Rattle.jwe.specs.Answers.{holding_of}
use Rattle.jwe.proofs.general.hand_out.Goals as goal

pub gather-parameters-requires : goal.gather-parameters-requires
gather-parameters-requires c =
    let share : (let args = c.args in
    HoldsShare args.message.now ((json_held args.message.now).share args.i) args.of.now args.own.now
    args.counts.now args.i) = c.requires.holds.share c.args.i c.requires.i_lt_recipients in
    record {
      i_lt_most_recipients = omega (arith, c.requires.i_lt_recipients, c.requires.holds.few);
      own_len = c.requires.own_len;
      counts_len = c.requires.counts_len;
      i_bound = (share).few;
      header_table_in_bounds = omega (arith, c.requires.holds.common.few, c.requires.table_len);
    }

pub slice_bounds-texts-end : goal.slice_bounds-texts-end
slice_bounds-texts-end c =
    sym (length-take-le _ _ (omega (arith, c.requires.holds.fits, c.requires.text_len)))

pub invariant_of-entries : goal.invariant_of-entries
invariant_of-entries c =
    let share : (let args = c.args in
    HoldsShare args.message.now ((json_held args.message.now).share args.i) args.of.now args.own.now
    args.counts.now args.i) = c.requires.holds.share c.args.i c.requires.i_lt_recipients in
    let gathered : (let args = c.args in
    Gathers args.message.now (json_held args.message.now) args.i args.has.common c.gather-parameters.result
    c.gather-parameters.new.table) = (let args = c.args in
    gathers_json args.message.now (holding_of args.has) args.of.now args.own.now args.counts.now args.i _
    args.table.now _ (share) c.requires.holds.common c.requires.table_len c.gather-parameters.ensures.value c.gather-parameters.ensures.table_after) in
    record { fits = (gathered).few }

pub key-requires : goal.key-requires
key-requires c =
    omega (arith, c.requires.of_len, c.requires.i_lt_recipients, c.requires.holds.few)

pub shape_of-table : goal.shape_of-table
shape_of-table c = c.gather-parameters.auto.table

pub returns : goal.returns
returns c =
    let share : (let args = c.args in
    HoldsShare args.message.now ((json_held args.message.now).share args.i) args.of.now args.own.now
    args.counts.now args.i) = c.requires.holds.share c.args.i c.requires.i_lt_recipients in
    let gathered : (let args = c.args in
    Gathers args.message.now (json_held args.message.now) args.i args.has.common c.gather-parameters.result
    c.gather-parameters.new.table) = (let args = c.args in
    gathers_json args.message.now (holding_of args.has) args.of.now args.own.now args.counts.now args.i _
    args.table.now _ (share) c.requires.holds.common c.requires.table_len c.gather-parameters.ensures.value c.gather-parameters.ensures.table_after) in
    let args = c.args in
    let m = args.message.now in
    let h = json_held m in
    let holds = c.requires.holds in
    let has = gathered in
    let n = c.gather-parameters.result in
    let last = c.gather-parameters.new.table in
    record {
      result_value = result_is m (outcome_for h args.i) _ _ _ _ _ _ holds.form holds.recipients
          (c.mode.ensures ∙ ap₂ (λ (l : List ℕ) (es : List Entry). mode_in (read_texts l m) es) holds.header has.entries)
          (c.with_key.ensures ∙ ap₂ with_key holds.components (c.key.ensures ∙ (share).key))
          (header_size_lem m h (holding_of args.has) args.text.now args.table.now args.of.now args.own.now args.counts.now
          c.requires.text_len holds)
          (sym (entries_length n last) ∙ ap length has.entries);
      gathers = has;
    }
