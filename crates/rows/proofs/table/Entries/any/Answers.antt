-- `any` asks one entry after the other.
use mathlib.Core.Path.{ap, sym, ◌∙◌}
use Prim.Native.Nat.{ℕ}
use mathlib.Core.List.{List}
use Rattle.rows.specs.Tables.{first_of}
use Rattle.rows.proofs.Asking.{any_turn, any_found, any_done}
use Rattle.rows.proofs.table.Entries.any.Goals as goal

-- What the test says of the entry that the loop is at.
pub returns-then-test : goal.returns-then-test
returns-then-test g c f says =
    let passes = ap (λ (t : List ℕ). f (first_of t)) (sym c.at.ensures) ∙ sym (says _ _ c.test.ensures) ∙ c.if-test.true in
    any_found f _ c.args.self.count c.loop-i.i c.args.self.table.now (c.loop-i.invariant f says) c.loop-i-test.true passes

pub loop-i-preserved : goal.loop-i-preserved
loop-i-preserved g c f says =
    let fails = ap (λ (t : List ℕ). f (first_of t)) (sym c.at.ensures) ∙ sym (says _ _ c.test.ensures) ∙ c.if-test.false in
    any_turn f _ c.args.self.count c.loop-i.i c.args.self.table.now (c.loop-i.invariant f says) c.loop-i-test.true fails

pub returns : goal.returns
returns g c f says =
    any_done f _ c.args.self.count c.loop-i.i c.args.self.table.now (c.loop-i.invariant f says) c.loop-i-test.false
