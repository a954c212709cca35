-- A side as the definitions see it: its texts, and the entries of its table.
use Rattle.std.specs.Prelude.{List, ℕ, ◌*◌, drop}
use Rattle.rows.specs.Rows.{Entry, Texts, read_texts}
use Rattle.rows.specs.Tables.{first_of, entries_of, width}
use Rattle.rows.specs.Inner.Prints.{Printed}
use Rattle.matching.specs.declared.Side.{Side}

abbrev pub texts : Side → Texts
texts s = read_texts s.header.now s.message.now

abbrev pub entries : Side → List Entry
entries s = entries_of s.count s.table.now

-- Those that are all recipients'.
abbrev pub common : Side → List Entry
common s = entries_of s.common s.table.now

-- Each of its entries has the fingerprint of its name.
abbrev pub HasPrints : Side → Type 0
HasPrints s = Printed (texts s) s.count s.table.now

abbrev pub entry_at : Side → ℕ → Entry
entry_at s i = first_of (drop (i * width) s.table.now)
