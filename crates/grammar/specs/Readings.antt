-- The readings that are asked for: an object within a number of levels that keeps the rules on UTF-8 and \u. Nothing of the
-- reader is named here.
use Rattle.std.specs.Prelude.{◌≡◌, List, ℕ, ◌≤◌, take, drop, T}
use Rattle.grammar.specs.Grammar.{Text, leaves}
use Rattle.grammar.specs.Places.{levels, kind, Place}
use Rattle.grammar.specs.Strings.{paired, every}
use Rattle.grammar.specs.Utf8.{Utf8}

-- A reading of the text s: a tree whose leaves are s and whose value is an object (kind 0) of at most l levels; s is
-- well-formed UTF-8, and no half of a surrogate pair in it stands without its other half.
pub record Reading (l : ℕ) (s : List ℕ) : Type 0 where
  pub text : Text
  pub reads : leaves text ≡ s
  pub object : kind text.value ≡ 0
  pub within : levels text.value ≤ l
  pub well_formed : Utf8 s
  pub pairs : T (every paired text.value)

-- The octets at a place.
abbrev pub octets_at : List ℕ → Place → List ℕ
octets_at s q = take q.size (drop q.start s)
