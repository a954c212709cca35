-- `misspelled` asks the components of the top level, and then the keys.
use mathlib.Core.Path.{sym, ◌∙◌}
use Rattle.prelude.specs.Any.{any}
use Rattle.jwe.specs.General.{all_places}
use Rattle.jwe.proofs.JsonPlaces.{this_one, another}
use Rattle.jwe.proofs.general.misspelled.Goals as goal

pub returns-then-misspelled : goal.returns-then-misspelled
unfolding all_places any
returns-then-misspelled c =
    this_one _ (sym c.misspelled.ensures ∙ c.if-misspelled.true)

pub returns-then-misspelled-2 : goal.returns-then-misspelled-2
unfolding all_places any
returns-then-misspelled-2 c =
    another (sym c.misspelled.ensures ∙ c.if-misspelled.false)
    (this_one _ (sym c.misspelled-2.ensures ∙ c.if-misspelled-2.true))

pub returns-then-misspelled-3 : goal.returns-then-misspelled-3
unfolding all_places any
returns-then-misspelled-3 c =
    another (sym c.misspelled.ensures ∙ c.if-misspelled.false)
    (another (sym c.misspelled-2.ensures ∙ c.if-misspelled-2.false)
    (this_one _ (sym c.misspelled-3.ensures ∙ c.if-misspelled-3.true)))

pub returns-then-misspelled-4 : goal.returns-then-misspelled-4
unfolding all_places any
returns-then-misspelled-4 c =
    another (sym c.misspelled.ensures ∙ c.if-misspelled.false)
    (another (sym c.misspelled-2.ensures ∙ c.if-misspelled-2.false)
    (another (sym c.misspelled-3.ensures ∙ c.if-misspelled-3.false)
    (this_one _ (sym c.misspelled-4.ensures ∙ c.if-misspelled-4.true))))

pub returns-then-misspelled-5 : goal.returns-then-misspelled-5
unfolding all_places any
returns-then-misspelled-5 c =
    another (sym c.misspelled.ensures ∙ c.if-misspelled.false)
    (another (sym c.misspelled-2.ensures ∙ c.if-misspelled-2.false)
    (another (sym c.misspelled-3.ensures ∙ c.if-misspelled-3.false)
    (another (sym c.misspelled-4.ensures ∙ c.if-misspelled-4.false)
    (this_one _ (sym c.misspelled-5.ensures ∙ c.if-misspelled-5.true)))))

pub returns : goal.returns
unfolding all_places any
returns c =
    another (sym c.misspelled.ensures ∙ c.if-misspelled.false)
    (another (sym c.misspelled-2.ensures ∙ c.if-misspelled-2.false)
    (another (sym c.misspelled-3.ensures ∙ c.if-misspelled-3.false)
    (another (sym c.misspelled-4.ensures ∙ c.if-misspelled-4.false)
    (another (sym c.misspelled-5.ensures ∙ c.if-misspelled-5.false)
    c.keys_misspelled.ensures))))
