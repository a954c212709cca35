-- `collect` has the rows so far in its table, and the others to come.
use Prim.Native.Nat.{ℕ}
use mathlib.Core.Path.{refl, ap, ◌∙◌}
use mathlib.Core.List.{List}
use native.Mathlib.Omega.{arith}
use lib.ListN.{take}
use Rattle.prelude.specs.Buffer.{written}
use Rattle.grammar.specs.Places.{Member}
use Rattle.json_read.specs.Inner.Rows.{rows_left}
use Rattle.json_read.specs.Members.{row_member, five_of, flat, collected_of}
use Rattle.json_read.proofs.MemberTable.{written_none, rows_all, table_all, rows_over, inside, drop_more, table_more}
use Rattle.json_read.proofs.Position.collect.Goals as goal

pub loop-row-init : goal.loop-row-init
unfolding flat
loop-row-init c = record {
  few = omega arith;
  within = omega arith;
  others = refl;
  table = written_none c.args.table.now;
}

pub returns-then-count-eq-MOST_MEMBERS : goal.returns-then-count-eq-MOST_MEMBERS
returns-then-count-eq-MOST_MEMBERS c =
    let so = c.loop-row.invariant in
    let rows = rows_left c.into_iter-row-iterator.result in
    let whole = ap rows_left c.into_iter-row-iterator.ensures.into_iter_gives ∙ c.members-row-items.ensures in
    let here = so.others ∙ c.in-Some.ensures.steps in
    let full = c.if-count-eq-MOST_MEMBERS.true in
    record {
      value = rows_over rows (rows_left c.next.new.self) (row_member c.in-Some.row) c.loop-row.count full here ∙ ap collected_of whole;
      table_after =
          so.table
          ∙ ap (λ (r : List Member). written 0 (flat r) c.args.table.now) (ap (λ (n : ℕ). take n rows) full ∙ ap (take 32) whole);
    }

pub loop-row-preserved : goal.loop-row-preserved
loop-row-preserved c =
    let so = c.loop-row.invariant in
    let rows = rows_left c.into_iter-row-iterator.result in
    let here = so.others ∙ c.in-Some.ensures.steps in
    let rest = rows_left c.next.new.self in
    let row = row_member c.in-Some.row in
    record {
      few = omega arith;
      within = omega (arith, inside rows rest row c.loop-row.count here);
      others = drop_more rows rest row c.loop-row.count here;
      table =
          table_more rows rest row c.loop-row.count here c.args.table.now c.loop-row.table c.put_row.new.table (five_of c.in-Some.row)
          so.table refl c.put_row.ensures;
    }

pub returns : goal.returns
returns c =
    let so = c.loop-row.invariant in
    let rows = rows_left c.into_iter-row-iterator.result in
    let whole = ap rows_left c.into_iter-row-iterator.ensures.into_iter_gives ∙ c.members-row-items.ensures in
    let left = so.others ∙ c.in-None.ensures.steps.0 in
    record {
      value = rows_all rows c.loop-row.count so.few so.within left ∙ ap collected_of whole;
      table_after =
          so.table
          ∙ ap (λ (r : List Member). written 0 (flat r) c.args.table.now)
          (table_all rows c.loop-row.count so.few so.within left ∙ ap (take 32) whole);
    }
