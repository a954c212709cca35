-- `clash` compares the fingerprints, the origins, and then the names.
use mathlib.Core.Path.{sym, ◌∙◌}
use Rattle.rows.specs.Inner.Views.{the_entry, the_texts}
use Rattle.rows.proofs.Clashing.{same_not}
use Rattle.rows.proofs.table.Texts.clash.Goals as goal

pub returns-then-print : goal.returns-then-print
returns-then-print c =
    let args = c.args in
    sym (same_not args.across (the_texts args.self) (the_entry args.e) (the_entry args.f)
    (c.print.ensures ∙ c.requires.has_print) (c.print-2.ensures ∙ c.requires.has_print_2) c.if-print.true)
