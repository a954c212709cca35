-- The members of an object, or the elements of an array, that are still to come.
use Rattle.std.specs.Prelude.{List}
use Rattle.grammar.specs.Places.{Member, Element}
use Rattle.grammar.specs.Reader.{value_at, rows_at, elements_of}
use Rattle.json_read.specs.Members.{bracket_of}
use Rattle.json_read.specs.declared.member.Rows.{Rows}

-- Those from a place on, at most so many.
abbrev pub rows_left : Rows → List Member
rows_left e = rows_at (value_at e.levels e.text.now) (bracket_of e.array) e.text.now e.left e.at.at

-- The same as elements, without names.
abbrev pub elements_left : Rows → List Element
elements_left e = elements_of (rows_left e)
