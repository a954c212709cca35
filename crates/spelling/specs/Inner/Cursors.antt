-- The octets that are still to come from a cursor of the code, for those that a spelling adds.
use Rattle.std.specs.Prelude.{◌≡◌, List, [], ◌∷◌, ◌++◌, ℕ, ◌+◌, ◌-◌, ◌*◌, ◌<◌, length, Option, None, Some}
use Rattle.spelling.specs.Inner.Escapes.{last_octets, undo_at}
use Rattle.spelling.specs.declared.cursor.Cursor.{Cursor}

-- The octets still to come.
abbrev pub rest : Cursor → List ℕ
rest p = last_octets p.left p.point ++ undo_at p.text.now p.half p.at

-- A number that falls with each octet.
abbrev pub size : Cursor → ℕ
size p = 4 * (length p.text.now - p.at) + p.left

-- What a cursor answers: that no octet is to come, or the next one, and the cursor behind it has less before it.
abbrev pub Gives : Cursor → Option ℕ → Cursor → Type 0
Gives p None q = rest p ≡ []
Gives p (Some c) q = (rest p ≡ c ∷ rest q) × (size q < size p)
