-- A table in memory: besides an entry's seven numbers it keeps a fingerprint of what the entry's name says, so that
-- names with different fingerprints are not compared. No entry has it: it follows from the name, and changes no answer.
use Rattle.std.specs.Prelude.{◌≡◌, List, [], ◌∷◌, ◌++◌, cond, ℕ, zero, suc, ◌*◌, length, drop, get_or, leb}
use Rattle.prelude.specs.Buffer.{written}
use Rattle.prelude.specs.Limits.{most_members}
use Rattle.grammar.specs.Spellings.{undo}
use Rattle.spelling.specs.Inner.Fingerprints.{fingerprint}
use Rattle.rows.specs.Rows.{Entry, Texts, spelled_name, name_in}
use Rattle.rows.specs.Tables.{width, list_row, first_of}

-- The numbers of an entry that stands in the text s: those of the list, which of the names it has, and the fingerprint.
abbrev pub table_row : List ℕ → Entry → List ℕ
table_row s e = list_row e ++ (e.number ∷ fingerprint (undo (spelled_name s e.member)) ∷ [])

-- Those of entries that all stand in the text s.
unfoldable pub flat : List ℕ → List Entry → List ℕ
flat s [] = []
flat s (e ∷ es) = table_row s e ++ flat s es

-- A table into which the entries of an object, which stands in the text s, were collected from an entry on; unchanged
-- where there are more than 32.
unfoldable pub collected_table : ℕ → List ℕ → List Entry → List ℕ → List ℕ
collected_table from s es table = cond (leb (length es) most_members) (written (from * width) (flat s es) table) table

-- That the first entry of a table has the fingerprint of its name.
abbrev pub HasPrint : Texts → List ℕ → Type 0
HasPrint ts t = get_or t 7 0 ≡ fingerprint (undo (name_in ts (first_of t)))

-- That its first n entries have.
unfoldable pub Printed : Texts → ℕ → List ℕ → Type 0
Printed ts zero t = Unit {0}
Printed ts (suc n) t = HasPrint ts t × Printed ts n (drop width t)
