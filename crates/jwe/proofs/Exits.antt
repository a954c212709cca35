-- What the exit of a `?` hands up, as a result or as what is held: the refusal of what was called.
use Rattle.std.specs.Prelude.{ℕ, ◌<◌, List, Result, Ok, Err}
use Rattle.std.specs.Result.{IsErrAnd}
use Rattle.std.proofs.lemmas.Result.{err_from_is_err_and}
use mathlib.Core.Path.{◌≡◌, refl, ap, sym, subst, ◌∙◌}
use Rattle.prelude.specs.declared.refusal.Refusal.{Refusal}
use Rattle.prelude.specs.Refusals.{Test, as_stage, number_of}
use Rattle.jwe.specs.Judge.{refused}
use Rattle.jwe.specs.Judge.{Outcome, Held}
use Rattle.jwe.specs.Inner.Stages.{Judges}
use Rattle.jwe.specs.Inner.Holding.{HoldsBy}
use Rattle.jwe.specs.Answers.{numbers, reading_of, as_result, holding_of, as_holding, refused_by}
use Rattle.prelude.proofs.Exits.{some_number}
use Rattle.jwe.specs.declared.Reading.{Reading}
use Rattle.jwe.specs.declared.Holding.{Holding}

module _ (called : Result ℕ Refusal) (e : Refusal) (was : called ≡ Err e) where
  pub hands_up_holding : (up : Result Holding Refusal) → IsErrAnd up (λ y. y ≡ e) →
      (as_holding up).number ≡ refused_by (as_stage called)
  hands_up_holding up h =
      let p = err_from_is_err_and up h in
      ap (λ r. (as_holding r).number) p.1 ∙ ap number_of p.2 ∙ sym (ap (λ r. refused_by (as_stage r)) was)

  pub hands_up_result : (up : Result Reading Refusal) → IsErrAnd up (λ y. y ≡ e) →
      numbers (as_result up) ≡ refused (refused_by (as_stage called))
  unfolding refused
  hands_up_result up h =
      let p = err_from_is_err_and up h in
      ap (λ r. numbers (as_result r)) p.1 ∙ ap (λ y. refused (number_of y)) p.2
      ∙ sym (ap (λ r. refused (refused_by (as_stage r))) was)

-- A refusal by its name.
pub refused_as : (e : Refusal) → numbers (as_result (Err e)) ≡ refused (number_of e)
unfolding refused
refused_as e = refl

pub exits_with : (up : Result Reading Refusal) (e f : Refusal) → IsErrAnd up (λ y. y ≡ e) → e ≡ f →
    numbers (as_result up) ≡ refused (number_of f)
exits_with up e f h same =
    let p = err_from_is_err_and up h in
    ap (λ r. numbers (as_result r)) (p.1 ∙ ap Err (p.2 ∙ same)) ∙ refused_as f

-- What judging says where it accepts, and what its refusal says where it is handed up.

pub judges_reading : {message : List ℕ} {order : List Test} {x : Outcome} {text₀ text table₀ table : List ℕ}
    {r : Result Reading Refusal} {v : Reading} → r ≡ Ok v → Judges message order x (as_result r) text₀ text table₀ table →
    Judges message order x (reading_of v) text₀ text table₀ table
judges_reading {message} {order} {x} {text₀} {text} {table₀} {table} is h =
    subst (λ a. Judges message order x (as_result a) text₀ text table₀ table) is h

pub refused_above : {r : Result Reading Refusal} {e : Refusal} → r ≡ Err e → 0 < (as_result r).number
refused_above {r} {e} is = subst (λ a. 0 < (as_result a).number) (sym is) (some_number e)

pub held_above : {r : Result Holding Refusal} {e : Refusal} → r ≡ Err e → 0 < (as_holding r).number
held_above {r} {e} is = subst (λ a. 0 < (as_holding a).number) (sym is) (some_number e)

pub same_refusal : (up called : Result Reading Refusal) (e : Refusal) → IsErrAnd up (λ y. y ≡ e) → called ≡ Err e →
    as_result up ≡ as_result called
same_refusal up called e h was =
    let p = err_from_is_err_and up h in
    ap as_result (p.1 ∙ ap Err p.2 ∙ sym was)

pub holds_holding : {message : List ℕ} {order : List Test} {h : Held} {text table of own counts : List ℕ}
    {r : Result Holding Refusal} {v : Holding} → r ≡ Ok v → HoldsBy message order h (as_holding r) text table of own counts →
    HoldsBy message order h (holding_of v) text table of own counts
holds_holding {message} {order} {h} {text} {table} {of} {own} {counts} is k =
    subst (λ a. HoldsBy message order h (as_holding a) text table of own counts) is k

-- What is held of a message that judging refused, and the result of one that holding refused: the number is the same.

pub hands_number : (up : Result Holding Refusal) (called : Result Reading Refusal) (e : Refusal) → IsErrAnd up (λ y. y ≡ e) →
    called ≡ Err e → (as_holding up).number ≡ (as_result called).number
hands_number up called e h was =
    let p = err_from_is_err_and up h in
    ap (λ r. (as_holding r).number) (p.1 ∙ ap Err p.2) ∙ sym (ap (λ r. (as_result r).number) was)

pub hands_holding : (up : Result Reading Refusal) (called : Result Holding Refusal) (e : Refusal) → IsErrAnd up (λ y. y ≡ e) →
    called ≡ Err e → numbers (as_result up) ≡ refused (as_holding called).number
hands_holding up called e h was =
    exits_with up e e h refl ∙ sym (ap (λ r. refused (as_holding r).number) was)
