-- `clashes_with` asks one entry after the other behind the i-th.
use mathlib.Core.Path.{ap₂, sym, subst, ◌∙◌}
use mathlib.Core.List.{List}
use Prim.Native.Nat.{ℕ}
use Rattle.rows.specs.Rows.{same}
use Rattle.rows.specs.Tables.{first_of}
use Rattle.rows.specs.Inner.Prints.{HasPrint}
use Rattle.rows.specs.Inner.Views.{the_texts}
use Rattle.rows.proofs.Asking.{any_turn, any_found, any_done}
use Rattle.rows.proofs.Values.{entry}
use Rattle.rows.proofs.table.Headers.clashes_with.Goals as goal

pub clash-requires : goal.clash-requires
clash-requires c =
    let h = c.args.self in
    let ts = the_texts h.texts in
    record {
      has_print = subst (HasPrint ts) (sym c.at-e.ensures) (h.printed c.args.i c.requires);
      has_print_2 = subst (HasPrint ts) (sym c.at.ensures) (h.printed c.loop-j.j c.loop-j-test.true);
    }

pub returns-then-clash : goal.returns-then-clash
returns-then-clash c =
    let args = c.args in
    let test = same args.across (the_texts args.self.texts) (entry args.self.entries.table.now args.i) in
    let says =
    sym (ap₂ (λ (t u : List ℕ). same args.across (the_texts args.self.texts) (first_of t) (first_of u)) c.at-e.ensures c.at.ensures)
    ∙ sym c.clash.ensures ∙ c.if-clash.true in
    any_found test _ args.self.entries.count c.loop-j.j args.self.entries.table.now c.loop-j.invariant c.loop-j-test.true says

pub loop-j-preserved : goal.loop-j-preserved
loop-j-preserved c =
    let args = c.args in
    let test = same args.across (the_texts args.self.texts) (entry args.self.entries.table.now args.i) in
    let says =
    sym (ap₂ (λ (t u : List ℕ). same args.across (the_texts args.self.texts) (first_of t) (first_of u)) c.at-e.ensures c.at.ensures)
    ∙ sym c.clash.ensures ∙ c.if-clash.false in
    any_turn test _ args.self.entries.count c.loop-j.j args.self.entries.table.now c.loop-j.invariant c.loop-j-test.true says

pub returns : goal.returns
returns c =
    let args = c.args in
    let test = same args.across (the_texts args.self.texts) (entry args.self.entries.table.now args.i) in
    any_done test _ args.self.entries.count c.loop-j.j args.self.entries.table.now c.loop-j.invariant c.loop-j-test.false
