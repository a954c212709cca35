-- `seek` asks one entry after the other.
use Rattle.std.proofs.Common.{List, ℕ, ap, sym, ◌∙◌, drop}
use Rattle.grammar.specs.Spellings.{undo}
use Rattle.spelling.specs.Inner.Fingerprints.{fingerprint}
use Rattle.rows.proofs.Printing.{printed_at}
use Rattle.matching.specs.Matching.{partner}
use Rattle.matching.specs.Inner.Sides.{texts, entries}
use Rattle.matching.proofs.Partners.{partner_turn, partner_found, partner_done}
use Rattle.matching.proofs.Side.seek.Goals as goal

pub named-requires-clause-print_value : goal.named-requires-clause-print_value
named-requires-clause-print_value c =
    c.field-print.ensures.value ∙ c.requires.has_print ∙ ap (λ (x : List ℕ). fingerprint (undo x)) (sym c.name-w.ensures)

pub named-requires-clause-has_print : goal.named-requires-clause-has_print
named-requires-clause-has_print c =
    let self = c.args.self.now in
    printed_at (texts self) c.loop-j.j self.count self.table.now c.loop-j-test.true c.requires.printed

pub returns-then-named-clause-partner : goal.returns-then-named-clause-partner
returns-then-named-clause-partner c =
    let self = c.args.self.now in
    ap (λ (x : List ℕ). partner (texts self) x (drop c.args.from (entries self))) (sym c.name-w.ensures)
    ∙ partner_found (texts self) _ _ self.count c.loop-j.j self.table.now c.loop-j.invariant c.loop-j-test.true (sym c.if-named.ensures)

pub loop-j-preserved : goal.loop-j-preserved
loop-j-preserved c =
    let self = c.args.self.now in
    partner_turn (texts self) _ _ self.count c.loop-j.j self.table.now c.loop-j.invariant c.loop-j-test.true (sym c.if-named.ensures)

pub returns-clause-partner : goal.returns-clause-partner
returns-clause-partner c =
    let self = c.args.self.now in
    ap (λ (x : List ℕ). partner (texts self) x (drop c.args.from (entries self))) (sym c.name-w.ensures)
    ∙ partner_done (texts self) _ _ self.count c.loop-j.j self.table.now c.loop-j.invariant c.loop-j-test.false
