-- The components of an accepted message are base64url: 5 is asked of all of them.
use mathlib.Core.Path.{◌≡◌, refl}
use mathlib.Core.Bool.{Bool, true, false, cond}
use mathlib.Core.List.{List}
use Prim.Native.Nat.{ℕ}
use Rattle.grammar.specs.Bounds.{Every}
use Rattle.grammar.specs.Places.{Place}
use Rattle.grammar.specs.Reader.{opens_object}
use Rattle.names.specs.Names.{names}
use Rattle.prelude.specs.Any.{any}
use Rattle.prelude.specs.Refusals.{first}
use Rattle.headers.specs.Components.{misspelled, places}
use Rattle.shape.specs.Shape.{Recipient}
use Rattle.shape.specs.Recipients.{top_entries, recipients_in, components_in}
use Rattle.jwe.proofs.Outcomes.{by_form}
use Rattle.jwe.specs.Compact.{compact_components, compact_order, compact_spelled, compact_later}
use Rattle.jwe.specs.General.{json_order}
use Rattle.jwe.specs.Judge.{Call, refusal, outcome, Outcome}
use Rattle.jwe.specs.Inner.Outcomes.{compact_outcome, outcome_of, json_outcome}
use Rattle.meets.proofs.Deciding.{any_every, first_none}
use Rattle.meets.proofs.InOrder.{first_append}
use Rattle.meets.proofs.JsonPassed.{json_passed}
use Rattle.meets.proofs.JsonTests.{components_pass}
use Rattle.meets.proofs.HandedFits.{asked_every, form_tests, form_passed}

module _ (message : List ℕ) where
  abbrev pub Sound : Place → Type 0
  Sound q = misspelled message q ≡ false

  compact_spelled_lem : (known : List (List ℕ)) (recipient : ℕ) → first (compact_order message known recipient) ≡ 0 →
      Every Sound (places (compact_components message))
  unfolding compact_order any
  compact_spelled_lem known recipient e =
      let q = compact_components message in
      let spelling = compact_spelled message in
      let left = compact_later known message q recipient in
      let five = ((first_none spelling refl).0 ((first_append spelling left refl).0 e).0).1.0 in
      (any_every (misspelled message) Sound (λ q. ((λ e. e), (λ e. e))) (places q)).0 five

  json_spelled_lem : (known : List (List ℕ)) (recipient : ℕ) → first (json_order message known recipient) ≡ 0 →
      Every Sound (places (json_outcome message recipient).components)
  unfolding json_outcome outcome_of components_in
  json_spelled_lem known recipient e =
      let es = top_entries message in
      let passed = (json_passed known message recipient e).1 in
      let h = (components_pass message es).0 passed.spelled in
      let key =
      asked_every (λ (r : Recipient). Sound r.key) (recipients_in message es) h.1.1.1.1.1 recipient passed.asked in
      (h.0, (key, (h.1.0, (h.1.1.0, (h.1.1.1.0, (h.1.1.1.1.0, tt))))))

pub components_spelled : (c : Call) → refusal c ≡ 0 →
    Every (Sound c.message) (places (outcome c.message c.recipient).components)
unfolding compact_outcome
components_spelled c e =
    by_form c.message c.recipient (λ (x : Outcome). Every (Sound c.message) (places x.components))
    (cases (opens_object c.message) (form_passed c e).2)
  where
    cases : (b : Bool) → first (form_tests c b) ≡ 0 →
        Every (Sound c.message)
        (places (cond b (json_outcome c.message c.recipient) (compact_outcome c.message)).components)
    cases true f = json_spelled_lem c.message (names c.known) c.recipient f
    cases false f = compact_spelled_lem c.message (names c.known) c.recipient f
