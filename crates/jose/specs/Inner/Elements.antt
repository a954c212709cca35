-- The elements of an array, as the code reads them.
use Rattle.grammar.specs.Places.{Element}
use Rattle.json_read.specs.declared.member.Row.{Row}

-- The element that the code reads as a row.
abbrev pub element_of : Row → Element
element_of r = record { start = r.value.start; size = r.value.len; kind = r.kind }
