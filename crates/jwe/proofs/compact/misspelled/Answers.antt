-- `misspelled` asks one component after the other.
use mathlib.Core.Path.{sym, ◌∙◌}
use Rattle.headers.specs.Components.{misspelled}
use Rattle.jwe.proofs.Splitting.{any_here, any_behind, any_last}
use Rattle.jwe.proofs.compact.misspelled.Goals as goal

pub returns-then-misspelled : goal.returns-then-misspelled
returns-then-misspelled c =
    let message = c.args.message.now in
    sym
    (any_here (misspelled message) _ _ (sym c.misspelled.ensures ∙ c.if-misspelled.true))

pub returns-then-misspelled-2 : goal.returns-then-misspelled-2
returns-then-misspelled-2 c =
    let message = c.args.message.now in
    sym
    (any_behind (misspelled message) _ _
    (sym c.misspelled.ensures ∙ c.if-misspelled.false)
    ∙ any_here (misspelled message) _ _ (sym c.misspelled-2.ensures ∙ c.if-misspelled-2.true))

pub returns-then-misspelled-3 : goal.returns-then-misspelled-3
returns-then-misspelled-3 c =
    let message = c.args.message.now in
    sym
    (any_behind (misspelled message) _ _
    (sym c.misspelled.ensures ∙ c.if-misspelled.false)
    ∙ any_behind (misspelled message) _ _
    (sym c.misspelled-2.ensures ∙ c.if-misspelled-2.false)
    ∙ any_here (misspelled message) _ _ (sym c.misspelled-3.ensures ∙ c.if-misspelled-3.true))

pub returns-then-misspelled-4 : goal.returns-then-misspelled-4
returns-then-misspelled-4 c =
    let message = c.args.message.now in
    sym
    (any_behind (misspelled message) _ _
    (sym c.misspelled.ensures ∙ c.if-misspelled.false)
    ∙ any_behind (misspelled message) _ _
    (sym c.misspelled-2.ensures ∙ c.if-misspelled-2.false)
    ∙ any_behind (misspelled message) _ _
    (sym c.misspelled-3.ensures ∙ c.if-misspelled-3.false)
    ∙ any_here (misspelled message) _ _ (sym c.misspelled-4.ensures ∙ c.if-misspelled-4.true))

pub returns-then-misspelled-5 : goal.returns-then-misspelled-5
returns-then-misspelled-5 c =
    let message = c.args.message.now in
    sym
    (any_behind (misspelled message) _ _
    (sym c.misspelled.ensures ∙ c.if-misspelled.false)
    ∙ any_behind (misspelled message) _ _
    (sym c.misspelled-2.ensures ∙ c.if-misspelled-2.false)
    ∙ any_behind (misspelled message) _ _
    (sym c.misspelled-3.ensures ∙ c.if-misspelled-3.false)
    ∙ any_behind (misspelled message) _ _
    (sym c.misspelled-4.ensures ∙ c.if-misspelled-4.false)
    ∙ any_here (misspelled message) _ _ (sym c.misspelled-5.ensures ∙ c.if-misspelled-5.true))

pub returns : goal.returns
returns c =
    let message = c.args.message.now in
    c.misspelled-6.ensures
    ∙ sym (any_behind (misspelled message) _ _
    (sym c.misspelled.ensures ∙ c.if-misspelled.false)
    ∙ any_behind (misspelled message) _ _
    (sym c.misspelled-2.ensures ∙ c.if-misspelled-2.false)
    ∙ any_behind (misspelled message) _ _
    (sym c.misspelled-3.ensures ∙ c.if-misspelled-3.false)
    ∙ any_behind (misspelled message) _ _
    (sym c.misspelled-4.ensures ∙ c.if-misspelled-4.false)
    ∙ any_behind (misspelled message) _ _
    (sym c.misspelled-5.ensures ∙ c.if-misspelled-5.false)
    ∙ any_last (misspelled message) _)
