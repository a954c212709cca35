-- `object` answers by how many members are collected, and by whether the names of two of their entries, read back from
-- the table, say the same.
use mathlib.Core.Path.{◌≡◌, sym, ◌∙◌}
use mathlib.Core.List.{List}
use Prim.Native.Nat.{ℕ, ◌+◌, ◌*◌, ◌≤◌}
use lib.ListN.{length}
use Rattle.grammar.specs.Places.{Member}
use Rattle.json_read.specs.Members.{collected_of}
use Rattle.std.specs.Prelude.{Some}
use Rattle.names.specs.Names.{names}
use Rattle.grammar.specs.Reader.{members_at}
use Rattle.rows.specs.Rows.{entries_in}
use Rattle.rows.specs.Tables.{width}
use Rattle.rows.specs.Inner.Prints.{collected_table}
use Rattle.rows.proofs.Printing.{printed_at}
use Rattle.headers.proofs.Objects.{Collects, collects, collected_is, refused_8, refused_9, passed}
use Rattle.headers.proofs.object.Goals as goal

-- What was collected, where so many rows are.
collects_rows : (list : List (List ℕ)) (s : List ℕ) (origin : ℕ) (ms : List Member) (from count : ℕ) (before after : List ℕ) →
    from * width + 256 ≤ length before → after ≡ collected_table from s (entries_in list s origin ms) before →
    Some count ≡ collected_of ms → Collects s (entries_in list s origin ms) from after count
collects_rows list s origin ms from count before after room left told =
    collects s (entries_in list s origin ms) from count before after room left (told ∙ collected_is list s origin ms)

pub returns-in_default : goal.returns-in_default
returns-in_default c =
    let args = c.args in
    record {
      value = refused_8 (names args.list.now) args.s.now args.origin (members_at 12 args.s.now args.at)
          (c.in_default.ensures.value);
      table_after = c.collect.ensures.table_after;
    }

pub invariant_of-entries : goal.invariant_of-entries
invariant_of-entries c =
    let collected = c.collect.ensures in
    let kept = collects_rows _ _ _ _ _ _ _ _ c.requires.header_table_in_bounds collected.table_after (c.in-Some.ensures.value) in
    record { fits = kept.fits }

pub invariant_of-members : goal.invariant_of-members
invariant_of-members c =
    let collected = c.collect.ensures in
    let kept = collects_rows _ _ _ _ _ _ _ _ c.requires.header_table_in_bounds collected.table_after (c.in-Some.ensures.value) in
    record { printed = λ i below. printed_at _ i _ _ below kept.printed }

pub returns-then-clashes : goal.returns-then-clashes
returns-then-clashes c =
    let args = c.args in
    let collected = c.collect.ensures in
    let kept = collects_rows _ _ _ _ _ _ _ _ c.requires.header_table_in_bounds collected.table_after (c.in-Some.ensures.value) in
    record {
      value = refused_9 (names args.list.now) args.s.now args.origin (members_at 12 args.s.now args.at)
          kept c.clashes.ensures c.if-clashes.true;
      table_after = collected.table_after;
    }

pub returns : goal.returns
returns c =
    let args = c.args in
    let collected = c.collect.ensures in
    let kept = collects_rows _ _ _ _ _ _ _ _ c.requires.header_table_in_bounds collected.table_after (c.in-Some.ensures.value) in
    record {
      value = passed (names args.list.now) args.s.now args.origin (members_at 12 args.s.now args.at)
          kept c.clashes.ensures c.if-clashes.false;
      table_after = collected.table_after;
    }
