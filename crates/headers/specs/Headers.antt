-- The texts and entries of headers, and refusals 6 to 9 on them.
use Rattle.std.specs.Prelude.{List, [], ◌∷◌, Bool, true, false, cond, ℕ, length, eqb, ltb}
use Rattle.base64url.specs.Base64url.{decoded}
use Rattle.grammar.specs.Places.{Place, Member}
use Rattle.grammar.specs.Reader.{Answer, nothing, found, skip_space, members_at, read_text}
use Rattle.rows.specs.Rows.{Entry, one_text, entries_in, repeated}
use Rattle.jose.specs.Registered.{registered}
use Rattle.prelude.specs.Refusals.{Test, ◌if◌}
use Rattle.prelude.specs.Limits.{levels, header_room, most_members}
use Rattle.headers.specs.Components.{octets_at}

-- The decoded protected header, whose encoded text is at a place of the message.
unfoldable pub header_text : List ℕ → Place → List ℕ
header_text message q = decoded (octets_at message q)

-- 6: it is too long.
abbrev pub too_long : List ℕ → Bool
too_long header = ltb header_room (length header)

-- 7: a text has no reading as a JSON object within the levels.
abbrev pub is_nothing : Answer → Bool
is_nothing nothing = true
is_nothing (found e k) = false

unfoldable pub unread : List ℕ → Bool
unread s = is_nothing (read_text levels s)

-- 6 and 7.
unfoldable pub text_order : List ℕ → List Test
text_order header = 6 if too_long header ∷ 7 if unread header ∷ []

-- The members of the object that a text is.
unfoldable pub outermost : List ℕ → List Member
outermost s = members_at levels s (skip_space s 0)

-- The parameters of the protected header.
unfoldable pub protected_entries : List ℕ → List Entry
protected_entries header = entries_in registered header 0 (outermost header)

-- The members of the object at a position of the message; none where the position is 0: it is absent.
unfoldable pub members_of : List ℕ → ℕ → List Member
members_of message start = cond (eqb start 0) [] (members_at levels message start)

-- The parameters of a header that stands in the message: the shared one (origin 1) or a recipient's own (origin 2).
unfoldable pub header_entries : List ℕ → ℕ → ℕ → List Entry
header_entries message origin start = entries_in registered message origin (members_of message start)

-- 8 and 9 on the entries of an object that stands in the text s: over 32 members; a name twice.
unfoldable pub object_order : List ℕ → List Entry → List Test
object_order s es = 8 if ltb most_members (length es) ∷ 9 if repeated false (one_text s) es ∷ []
