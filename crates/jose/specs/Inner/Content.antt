-- Where the content algorithm of some entries stands, as the code finds it.
use Rattle.std.specs.Prelude.{List, [], ◌∷◌, cond, ℕ, ◌+◌, ◌-◌, eqb, Some, None, Option as Maybe}
use Rattle.std.proofs.Math.Option.{Option, none, some}
use Rattle.parts.specs.Parts.{part}
use Rattle.prelude.specs.declared.Place.{Place}
use Rattle.rows.specs.Rows.{Entry, having}
use Rattle.jose.specs.Registered.{enc, string}

-- The place of the string that a single entry has, without its quotation marks.
abbrev pub place_of : List Entry → Maybe Place
place_of [] = None
place_of (e ∷ []) =
    cond (eqb e.member.kind string) (Some (record { start = e.member.value_start + 1; len = e.member.value_size - 2 })) None
place_of (e ∷ (f ∷ es)) = None

unfoldable pub named_in : List Entry → Maybe Place
named_in es = place_of (having enc es)

-- What stands there in a text.
abbrev pub shown_in : List ℕ → Maybe Place → Option (List ℕ)
shown_in s (Some p) = some (part s p.start p.len)
shown_in s None = none
