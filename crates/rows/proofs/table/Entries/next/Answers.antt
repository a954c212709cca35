-- `next` passes entries that have another number: those that have it, from the one it is at on, stay the same.
use mathlib.Core.Path.{ap, sym, ◌∙◌}
use mathlib.Core.List.{List}
use Prim.Native.Nat.{ℕ}
use native.Mathlib.Omega.{arith}
use lib.ListN.{get_or}
use Rattle.rows.specs.declared.layout.TheConstants.{NUMBER}
use Rattle.rows.proofs.Asking.{having_turn, having_found, having_done}
use Rattle.rows.proofs.table.Entries.next.Goals as goal

pub returns-then-number-n : goal.returns-then-number-n
returns-then-number-n c =
    let args = c.args in
    let number = c.number.ensures ∙ ap (λ (t : List ℕ). get_or t NUMBER 0) c.at.ensures in
    let found = having_found args.n args.self.count c.loop-i.i args.self.table.now c.loop-i-test.true (sym number ∙ c.if-number-n.true) in
    (omega arith, (c.loop-i-test.true, sym c.loop-i.invariant ∙ found))

pub loop-i-preserved : goal.loop-i-preserved
loop-i-preserved c =
    let args = c.args in
    let number = c.number.ensures ∙ ap (λ (t : List ℕ). get_or t NUMBER 0) c.at.ensures in
    having_turn args.n args.self.count c.loop-i.i args.self.table.now c.loop-i-test.true (λ e. c.if-number-n.false (number ∙ e))
    ∙ c.loop-i.invariant

pub returns : goal.returns
returns c =
    let args = c.args in
    sym c.loop-i.invariant ∙ having_done args.n args.self.count c.loop-i.i args.self.table.now c.loop-i-test.false
