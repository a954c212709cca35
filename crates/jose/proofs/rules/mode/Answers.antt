-- `mode` asks one entry after the other for `alg`; the mode that those left say stays the answer.
use mathlib.Core.Path.{ap, sym, ◌∙◌}
use mathlib.Core.List.{List}
use Prim.Native.Nat.{ℕ}
use Rattle.names.specs.Names.{number_in}
use Rattle.rows.specs.Rows.{value_in}
use Rattle.rows.specs.Tables.{first_of}
use Rattle.rows.specs.Inner.Views.{the_texts}
use Rattle.algorithms.specs.Algorithms.{algs, alg_names, nth, mode_of}
use Rattle.jose.proofs.Asked.{mode_turn, mode_found, mode_done}
use Rattle.jose.proofs.rules.mode.Goals as goal

pub returns-then-number-eq-ALG : goal.returns-then-number-eq-ALG
returns-then-number-eq-ALG c =
    let es = c.args.entries in
    let ts = the_texts c.args.texts in
    let number = c.number.ensures ∙ ap (λ (t : List ℕ). (first_of t).number) c.at-e.ensures in
    c.mode_at.ensures
    ∙ ap (λ (t : List ℕ). mode_of (nth algs (number_in alg_names (value_in ts (first_of t))))) c.at-e.ensures
    ∙ mode_found ts _ es.count c.loop-i.i es.table.now c.loop-i.invariant c.loop-i-test.true (sym number ∙ c.if-number-eq-ALG.true)

pub loop-i-preserved : goal.loop-i-preserved
loop-i-preserved c =
    let es = c.args.entries in
    let number = c.number.ensures ∙ ap (λ (t : List ℕ). (first_of t).number) c.at-e.ensures in
    mode_turn (the_texts c.args.texts) _ es.count c.loop-i.i es.table.now c.loop-i.invariant c.loop-i-test.true
    (λ e. c.if-number-eq-ALG.false (number ∙ e))

pub returns : goal.returns
returns c =
    let es = c.args.entries in
    mode_done (the_texts c.args.texts) _ es.count c.loop-i.i es.table.now c.loop-i.invariant c.loop-i-test.false
