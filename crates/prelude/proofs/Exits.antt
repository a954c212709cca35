-- What the exit of a `?` hands up: the refusal of what was called.
use Rattle.std.specs.Prelude.{ℕ, ◌<◌, Result, Err}
use Rattle.std.specs.Result.{IsErrAnd}
use Rattle.std.proofs.lemmas.Result.{err_from_is_err_and}
use mathlib.Core.Path.{◌≡◌, ap, sym, ◌∙◌}
use native.Mathlib.Omega.{arith}
use Rattle.prelude.specs.declared.refusal.Refusal.{Refusal}
use Rattle.prelude.specs.declared.refusal.Refusal.TheVariants.{ShortOutput, LongMessage, KnownNames, FullStops, Misspelled, LongHeader, Unread, ManyMembers, NameTwice, Shape, ManyRecipients}
use Rattle.prelude.specs.declared.refusal.Refusal.TheVariants.{NameInTwoHeaders, Incomplete, WrongKind, Unlisted, Unprotected, Critical, WrongKey, NoSuchRecipient, RecipientTable, ContentAlgorithms}
use Rattle.prelude.specs.Refusals.{Refused, as_stage, number_of}

module _ (up : Result ℕ Refusal) (e : Refusal) (h : IsErrAnd up (λ y. y ≡ e)) where
  pub exit_refused : as_stage up ≡ Refused (number_of e)
  exit_refused = let p = err_from_is_err_and up h in ap as_stage p.1 ∙ ap (λ y. Refused (number_of y)) p.2

  pub handed_up : (called : Result ℕ Refusal) → called ≡ Err e → as_stage up ≡ as_stage called
  handed_up called was = exit_refused ∙ sym (ap as_stage was)

-- No refusal has the number 0, which says that there is none.
pub some_number : (e : Refusal) → 0 < number_of e
some_number ShortOutput = omega arith
some_number LongMessage = omega arith
some_number KnownNames = omega arith
some_number FullStops = omega arith
some_number Misspelled = omega arith
some_number LongHeader = omega arith
some_number Unread = omega arith
some_number ManyMembers = omega arith
some_number NameTwice = omega arith
some_number Shape = omega arith
some_number ManyRecipients = omega arith
some_number NameInTwoHeaders = omega arith
some_number Incomplete = omega arith
some_number WrongKind = omega arith
some_number Unlisted = omega arith
some_number Unprotected = omega arith
some_number Critical = omega arith
some_number WrongKey = omega arith
some_number NoSuchRecipient = omega arith
some_number RecipientTable = omega arith
some_number ContentAlgorithms = omega arith
