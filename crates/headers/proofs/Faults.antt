-- Whether a component is misspelled, by what checking and decoding it answer.
use mathlib.Core.Path.{◌≡◌, refl, ap, ◌∙◌}
use mathlib.Core.Bool.{Bool, true, false, cond}
use mathlib.Core.List.{List, []}
use Prim.Native.Nat.{ℕ}
use lib.ListN.{take, drop}
use Rattle.base64url.specs.Fault.{Fault, none, at, first_outside, spare_bits, fault}
use Rattle.base64url.specs.Answers.{of_fault, check_answer}
use Rattle.std.specs.Prelude.{⊤, Result, Ok, Err, is_err}
use Rattle.base64url.specs.declared.DecodeError.{DecodeError}
use Rattle.base64url.specs.declared.DecodeError.TheVariants.{Misspelled}
use Rattle.parts.specs.Parts.{fits, part}
use Rattle.grammar.specs.Places.{Place}
use Rattle.headers.specs.Components.{misspelled}

-- what the check answers, by whether there is a fault
abbrev spelled : Fault → Result ⊤ DecodeError
spelled f = of_fault f (Ok tt) (Err Misspelled)

by_fault : (f : Fault) → is_err (spelled f) ≡ of_fault f false true
by_fault none = refl
by_fault (at place) = refl

-- The answer of a check of the component's text.
pub checked : (message : List ℕ) (q : Place) (text : List ℕ) (answer : Result ⊤ DecodeError) →
    text ≡ part message q.start q.size → answer ≡ check_answer text → is_err answer ≡ misspelled message q
unfolding misspelled check_answer
checked message q text answer e a =
    ap is_err (a ∙ ap (λ (t : List ℕ). spelled (fault t)) e)
    ∙ by_fault (fault (part message q.start q.size))

-- A component without characters is well spelled.
pub empty_spelled : (message : List ℕ) (q : Place) → q.size ≡ 0 → misspelled message q ≡ false
unfolding misspelled part fault first_outside spare_bits
empty_spelled message q e =
    ap (λ (n : ℕ). of_fault (fault (part message q.start n)) false true) e
    ∙ fits_or_not (fits message q.start 0)
  where
    fits_or_not : (b : Bool) → of_fault (fault (cond b (take 0 (drop q.start message)) [])) false true ≡ false
    fits_or_not true = refl
    fits_or_not false = refl
