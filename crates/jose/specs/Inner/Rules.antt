-- The rules on a recipient by their refusals and their numbers.
use Rattle.std.specs.Prelude.{ℕ}
use Rattle.prelude.specs.Refusals.{number_of}
use Rattle.prelude.specs.declared.refusal.Refusal.{Refusal}
use Rattle.prelude.specs.declared.refusal.Refusal.TheVariants as refusal
use Rattle.jose.specs.declared.judge.Rule.{Rule}
use Rattle.jose.specs.declared.judge.Rule.TheVariants.{NameInTwoHeaders, Incomplete, WrongKind, Unlisted, Unprotected, Critical, WrongKey}

abbrev pub refusal_of : Rule → Refusal
refusal_of NameInTwoHeaders = refusal.NameInTwoHeaders
refusal_of Incomplete = refusal.Incomplete
refusal_of WrongKind = refusal.WrongKind
refusal_of Unlisted = refusal.Unlisted
refusal_of Unprotected = refusal.Unprotected
refusal_of Critical = refusal.Critical
refusal_of WrongKey = refusal.WrongKey

abbrev pub rule_number : Rule → ℕ
rule_number r = number_of (refusal_of r)
