-- Document 01, 'Sizes'.
use Rattle.std.specs.Prelude.{ℕ}

-- Octets of a message.
abbrev pub longest : ℕ
longest = 16777216

-- Octets of a decoded protected header, and of the buffer that is lent for it.
abbrev pub header_room : ℕ
header_room = 4096

-- Numbers of the list that is lent: three headers of 32 parameters, six numbers each.
abbrev pub list_room : ℕ
list_room = 576

-- Numbers that are handed out have 32 bits: each is below this.
abbrev pub number_limit : ℕ
number_limit = 4294967296

-- Levels of JSON nesting, the outermost object being level 1.
abbrev pub levels : ℕ
levels = 12

-- Members of an object whose names are compared.
abbrev pub most_members : ℕ
most_members = 32

-- Recipients of a message.
abbrev pub most_recipients : ℕ
most_recipients = 8
