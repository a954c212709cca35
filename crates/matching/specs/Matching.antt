-- Parameters of two messages matched by name (document 02, 4/12): names are the same that say the same after undoing escapes.
use Rattle.std.specs.Prelude.{List, [], ◌∷◌, cond, ℕ}
use Rattle.std.proofs.Math.Option.{Option, none, some}
use Rattle.grammar.specs.Places.{Element}
use Rattle.rows.specs.Rows.{Entry, Texts, name_says}

-- The first of some parameters whose name says what a spelling does; a recipient's names are distinct, so it is the only one.
unfoldable pub partner : Texts → List ℕ → List Entry → Option Entry
partner ts w [] = none
partner ts w (f ∷ fs) = let later = partner ts w fs in cond (name_says ts w f) (some f) later

-- The value of a parameter, by its place and kind.
abbrev pub value_of : Entry → Element
value_of e = record { start = e.member.value_start; size = e.member.value_size; kind = e.member.kind }
