-- `value_of` asks one entry after the other.
use mathlib.Core.Path.{ap, sym, ◌∙◌}
use mathlib.Core.List.{List}
use Prim.Native.Nat.{ℕ}
use borrow.Author.Tests.{eq-eqb, ne_eqb}
use Rattle.grammar.specs.Places.{Place}
use Rattle.rows.specs.Tables.{first_of}
use Rattle.rows.proofs.Values.{value_turn, value_found, value_none}
use Rattle.rows.proofs.table.Entries.value_of.Goals as goal

pub returns-then-number-n : goal.returns-then-number-n
returns-then-number-n c =
    let args = c.args in
    let place = c.value_place.ensures in
    let number = c.number.ensures ∙ ap (λ (t : List ℕ). (first_of t).number) c.at-e.ensures in
    let found =
    value_found args.n _ args.self.count c.loop-i.i args.self.table.now c.loop-i.invariant c.loop-i-test.true
    (eq-eqb _ _ (sym number ∙ c.if-number-n.true)) in
    record {
      start_value = place.start_value ∙ ap (λ (t : List ℕ). (first_of t).member.value_start) c.at-e.ensures
          ∙ ap (λ (p : Place). p.start) found;
      len_value = place.len_value ∙ ap (λ (t : List ℕ). (first_of t).member.value_size) c.at-e.ensures
          ∙ ap (λ (p : Place). p.size) found;
      start_lt_number_limit = place.start_lt_number_limit;
    }

pub loop-i-preserved : goal.loop-i-preserved
loop-i-preserved c =
    let args = c.args in
    let number = c.number.ensures ∙ ap (λ (t : List ℕ). (first_of t).number) c.at-e.ensures in
    value_turn args.n _ args.self.count c.loop-i.i args.self.table.now c.loop-i.invariant c.loop-i-test.true
    (ne_eqb _ _ (λ e. c.if-number-n.false (number ∙ e)))

pub returns-clause-start_value : goal.returns-clause-start_value
returns-clause-start_value c =
    let args = c.args in
    ap (λ (p : Place). p.start)
    (value_none args.n _ args.self.count c.loop-i.i args.self.table.now c.loop-i.invariant c.loop-i-test.false)

pub returns-clause-len_value : goal.returns-clause-len_value
returns-clause-len_value c =
    let args = c.args in
    ap (λ (p : Place). p.size)
    (value_none args.n _ args.self.count c.loop-i.i args.self.table.now c.loop-i.invariant c.loop-i-test.false)
