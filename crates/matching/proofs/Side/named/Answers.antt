-- `named` compares the fingerprints, and then the names.
use Rattle.std.proofs.Common.{sym, ◌∙◌}
use Rattle.spelling.proofs.Fingerprints.{alike_not}
use Rattle.rows.specs.Rows.{name_in}
use Rattle.matching.specs.Inner.Sides.{texts, entry_at}
use Rattle.matching.proofs.Side.named.Goals as goal

pub returns-then-field-print : goal.returns-then-field-print
returns-then-field-print c =
    let self = c.args.self.now in
    sym (alike_not (name_in (texts self) (entry_at self c.args.i)) c.args.w.now
    (λ z. c.if-field-print.true (c.field.ensures.value ∙ c.requires.has_print
    ∙ z ∙ sym c.requires.print_value)))
