-- `misplaced` asks the registered names for the spelling, and then the entries: the list in the source is the list of
-- those names, by computing.
use mathlib.Core.Path.{ap, sym, ◌∙◌}
use mathlib.Core.List.{List, flatten}
use mathlib.Core.Bool.{Bool, not}
use Prim.Native.Nat.{ℕ}
use borrow.Author.Rules.{rules}
use borrow.Author.Tests.{eq-eqb, ne_eqb}
use Rattle.prelude.specs.Ascii.{ascii}
use Rattle.names.specs.Names.{list_of, number_in}
use Rattle.names.proofs.Laws.{names_of_lem}
use Rattle.names.proofs.Contents.{filled_list}
use Rattle.prelude.specs.Any.{any}
use Rattle.rows.specs.Rows.{name_says}
use Rattle.rows.specs.Inner.Views.{the_entries, the_texts}
use Rattle.jose.specs.Registered.{registered}
use Rattle.jose.proofs.crit.misplaced.Goals as goal

pub find-requires : goal.find-requires
unfolding list_of registered ascii flatten
find-requires c = filled_list registered

pub returns-then-find-ne0 : goal.returns-then-find-ne0
unfolding list_of registered ascii flatten
returns-then-find-ne0 c =
    let number =
    c.find.ensures ∙ ap (λ ns. number_in ns c.spelled-w.result.now) (names_of_lem registered)
    ∙ ap (number_in registered) c.spelled-w.ensures in
    simp (sym number, ne_eqb _ _ c.if-find-ne0.true)

pub returns : goal.returns
unfolding list_of registered ascii flatten
returns c =
    let ts = the_texts c.args.texts in
    let es = the_entries c.args.entries in
    let number =
    c.find.ensures ∙ ap (λ ns. number_in ns c.spelled-w.result.now) (names_of_lem registered)
    ∙ ap (number_in registered) c.spelled-w.ensures in
    let named = c.any.ensures (name_says ts c.spelled-w.result.now) (λ e r h. search rules) in
    let some : List ℕ → Bool = λ w. any (name_says ts w) es in
    simp (sym number, eq-eqb _ _ c.if-find-ne0.false) (ap not (named ∙ ap some c.spelled-w.ensures))
