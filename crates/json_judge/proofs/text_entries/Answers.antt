-- An absent text has no entries; of a present one they are collected. The list in the source is that of the registered
-- names, by computing.
use mathlib.Core.Path.{ap, ap₂, sym, subst, ◌∙◌}
use mathlib.Core.List.{List, flatten}
use Prim.Native.Nat.{ℕ}
use Rattle.prelude.specs.Ascii.{ascii}
use Rattle.prelude.specs.Refusals.{first, stage_of}
use Rattle.grammar.specs.Grammar.{curly}
use Rattle.json_read.specs.Inner.Known.{KnownIn}
use Rattle.names.specs.Names.{list_of}
use Rattle.names.proofs.Laws.{names_of_lem}
use Rattle.names.proofs.Contents.{filled_list}
use Rattle.rows.specs.Rows.{Entry}
use Rattle.rows.specs.Inner.Prints.{collected_table}
use Rattle.jose.specs.Registered.{registered}
use Rattle.headers.specs.Headers.{object_order}
use Rattle.json_judge.proofs.Texts.{absent_passes, absent_left, entries_present, count_present, known_present}
use Rattle.json_judge.proofs.text_entries.Goals as goal

pub returns-then-text-eq0 : goal.returns-then-text-eq0
returns-then-text-eq0 c =
    let args = c.args in
    let text = args.text.now in
    record {
      value = absent_passes args.origin text c.if-text-eq0.true;
      table_after = absent_left args.origin text c.if-text-eq0.true args.from args.table.now;
    }

pub object-requires : goal.object-requires
unfolding list_of registered ascii flatten
object-requires c =
    let text = c.args.text.now in
    let known = known_present text c.if-text-eq0.false c.requires.readable.reads in
    record {
      s_len_bound = c.requires.readable.short;
      list_value = filled_list registered;
      header_table_in_bounds = c.requires.header_table_in_bounds;
      given = subst (KnownIn curly 12 text) (sym c.skip_space-at.ensures) known;
    }

pub returns : goal.returns
unfolding list_of registered ascii flatten
returns c =
    let args = c.args in
    let text = args.text.now in
    let o = args.origin in
    let there = c.if-text-eq0.false in
    let is = entries_present o text there _ (names_of_lem registered) c.skip_space-at.result.at c.skip_space-at.ensures in
    let count = count_present o text there _ (names_of_lem registered) c.skip_space-at.result.at c.skip_space-at.ensures in
    record {
      value = c.object.ensures.value ∙ ap₂ (λ (es : List Entry) (k : ℕ). stage_of (first (object_order text es)) k) is count;
      table_after = c.object.ensures.table_after ∙ ap (λ (es : List Entry). collected_table args.from text es args.table.now) is;
    }
