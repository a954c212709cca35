-- The names of an object's members, and whether two of them say the same.
use Rattle.std.specs.Prelude.{List, Bool, ℕ}
use Rattle.parts.specs.Parts.{part}
use Rattle.grammar.specs.Places.{Member}
use Rattle.grammar.specs.Spellings.{alike}
use Rattle.prelude.specs.Any.{any_pair}

-- The levels within which a text has been judged.
abbrev pub depth : ℕ
depth = 12

-- A member's name as it is spelled.
abbrev pub name_at : List ℕ → Member → List ℕ
name_at s m = part s m.name_start m.name_size

-- Whether two members' names say the same, the first in the text s, the second in t.
abbrev pub same_name : List ℕ → List ℕ → Member → Member → Bool
same_name s t m n = alike (name_at s m) (name_at t n)

-- Whether two of an object's names do.
unfoldable pub repeats : List ℕ → List Member → Bool
repeats s ms = any_pair (same_name s s) ms
