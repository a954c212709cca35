-- One content algorithm for all recipients (request 2/12; RFC 7516, section 7.2.1), as a question on the entries of each.
use Rattle.std.specs.Prelude.{List, [], ◌∷◌, Bool, false, not, cond, ℕ, get_or, eqb}
use Rattle.std.proofs.Math.Option.{Option, none, some}
use Rattle.grammar.specs.Spellings.{alike}
use Rattle.prelude.specs.Any.{any}
use Rattle.rows.specs.Rows.{Entry, Texts, value_in, having}
use Rattle.jose.specs.Registered.{enc, string}

-- The string that the only entry of a list has, as it is spelled; nothing where there is none, more than one, or one that is no string.
abbrev pub sole_string : Texts → List Entry → Option (List ℕ)
sole_string ts [] = none
sole_string ts (e ∷ []) = cond (eqb e.member.kind string) (some (value_in ts e)) none
sole_string ts (e ∷ (f ∷ es)) = none

-- The content algorithm of a recipient with these entries: its `enc`, where there is exactly one and that is a string.
unfoldable pub content_algorithm : Texts → List Entry → Option (List ℕ)
content_algorithm ts es = sole_string ts (having enc es)

-- Whether two recipients have one each, and these are different strings after undoing escapes.
abbrev pub differ : Option (List ℕ) → Option (List ℕ) → Bool
differ none w = false
differ (some v) none = false
differ (some v) (some w) = not (alike v w)

-- 21: whether that of one of several recipients differs from that of the n-th, counted from 0.
unfoldable pub differing : ℕ → List (Option (List ℕ)) → Bool
differing n vs = any (differ (get_or vs n none)) vs
