-- Lines as the code has them before they are laid flat.
use Rattle.std.specs.Prelude.{ℕ, ◌+◌, ◌*◌}
use Rattle.prelude.specs.Limits.{most_members, most_recipients}
use Rattle.parameters.specs.Lines as lines
use Rattle.parameters.specs.declared.lines.Kind.{Kind}
use Rattle.parameters.specs.declared.lines.Kind.TheVariants.{Form, Recipients, Header, Iv, Aad, Ciphertext, Tag, Key, OnlyLeft, OnlyRight, Moved, Value}
use Rattle.parameters.specs.declared.lines.Half.{Half}
use Rattle.parameters.specs.declared.lines.Line.{Line}

-- The number of a kind.
abbrev pub kind_number : Kind → ℕ
kind_number Form = 0
kind_number Recipients = 1
kind_number Header = 2
kind_number Iv = 3
kind_number Aad = 4
kind_number Ciphertext = 5
kind_number Tag = 6
kind_number Key = 7
kind_number OnlyLeft = 8
kind_number OnlyRight = 9
kind_number Moved = 10
kind_number Value = 11

-- One side, and a line.

abbrev pub half_is : Half → lines.Side
half_is s = record { origin = s.origin; start = s.start; size = s.len }

abbrev pub line_is : Line → lines.Line
line_is l = lines.line (kind_number l.kind) l.recipient (half_is l.left) (half_is l.right)

-- The lines of a recipient's parameters are at most so many: three headers of 32, two lines for each on the left, one for each on the
-- right.
abbrev pub recipient_most : ℕ
recipient_most = 9 * most_members

-- So all lines are.
abbrev pub most_lines : ℕ
most_lines = 7 + most_recipients + most_recipients * recipient_most
