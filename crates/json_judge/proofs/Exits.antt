-- What the exit of a `?` hands up of a recipient, and the first of two refusals by its number.
use Rattle.std.specs.Prelude.{ℕ, Option, Some, None, Result, Ok, Err, cond, eqb}
use Rattle.std.specs.Option.{option_or}
use Rattle.std.specs.Result.{IsErrAnd, result_err}
use Rattle.std.proofs.lemmas.Result.{err_from_is_err_and}
use mathlib.Core.Bool.{Bool}
use mathlib.Core.Path.{◌≡◌, refl, ap, sym, ◌∙◌}
use native.Mathlib.Omega.{arith}
use borrow.Author.Tests.{ne_eqb}
use Rattle.prelude.specs.declared.refusal.Refusal.{Refusal}
use Rattle.prelude.specs.Refusals.{as_stage, number_of}
use Rattle.prelude.proofs.Exits.{some_number}
use Rattle.jwe.specs.Answers.{refused_by}
use Rattle.json_judge.specs.declared.Faults.{Faults}
use Rattle.json_judge.specs.Inner.Faults.{fault_number, as_judged}

pub exit_judged : (up : Result Faults Refusal) (e : Refusal) → IsErrAnd up (λ y. y ≡ e) → (as_judged up).object ≡ number_of e
exit_judged up e h =
    let p = err_from_is_err_and up h in
    ap (λ r. (as_judged r).object) p.1 ∙ ap number_of p.2

pub exit_stage : (up : Result ℕ Refusal) (e : Refusal) → IsErrAnd up (λ y. y ≡ e) → as_stage up ≡ as_stage (Err e)
exit_stage up e h =
    let p = err_from_is_err_and up h in
    ap as_stage p.1 ∙ ap (λ y. as_stage (Err y)) p.2

-- A stage's refusal, where it is kept for later.
pub err_number : (r : Result ℕ Refusal) → fault_number (result_err r) ≡ refused_by (as_stage r)
err_number (Ok n) = refl
err_number (Err e) = refl

-- The first of two.
pub or_number : (a b : Option Refusal) → fault_number (option_or a b) ≡ cond (eqb (fault_number a) 0) (fault_number b) (fault_number a)
or_number None b = refl
or_number (Some e) b = sym (ap (λ (t : Bool). cond t (fault_number b) (number_of e)) (ne_eqb (number_of e) 0 (λ z. omega (arith, z, some_number e))))
