-- `clashes` asks one entry after the other whether it says the same as one behind it.
use mathlib.Core.Path.{refl, sym, ◌∙◌}
use Rattle.rows.specs.Rows.{same, repeated}
use Rattle.rows.specs.Inner.Views.{the_texts}
use Rattle.rows.proofs.Asking.{pair_turn, pair_found, pair_done}
use Rattle.rows.proofs.table.Headers.clashes.Goals as goal

pub loop-i-init : goal.loop-i-init
unfolding repeated
loop-i-init c = refl

pub returns-then-clashes_with : goal.returns-then-clashes_with
returns-then-clashes_with c =
    let args = c.args in
    pair_found (same args.across (the_texts args.self.texts)) _ args.self.entries.count c.loop-i.i args.self.entries.table.now c.loop-i.invariant
    c.loop-i-test.true (sym c.clashes_with.ensures ∙ c.if-clashes_with.true)

pub loop-i-preserved : goal.loop-i-preserved
loop-i-preserved c =
    let args = c.args in
    pair_turn (same args.across (the_texts args.self.texts)) _ args.self.entries.count c.loop-i.i args.self.entries.table.now c.loop-i.invariant
    c.loop-i-test.true (sym c.clashes_with.ensures ∙ c.if-clashes_with.false)

pub returns : goal.returns
returns c =
    let args = c.args in
    pair_done (same args.across (the_texts args.self.texts)) _ args.self.entries.count c.loop-i.i args.self.entries.table.now c.loop-i.invariant
    c.loop-i-test.false
