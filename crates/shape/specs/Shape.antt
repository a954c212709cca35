-- The shape of a JSON message (RFC 7516, section 7.2; document 01's paragraph on 10): the top level and the elements of
-- `recipients`. A JSON object's entries here count the names below.
use Rattle.std.specs.Prelude.{List, [], ◌∷◌, Bool, false, not, ◌&&◌, ◌||◌, cond, ℕ, ◌+◌, ◌-◌, eqb}
use Rattle.prelude.specs.Ascii.{ascii}
use Rattle.parts.specs.Parts.{holds}
use Rattle.grammar.specs.Grammar.{backslash, Bracket, curly, closing}
use Rattle.grammar.specs.Places.{Place, Member, Element}
use Rattle.grammar.specs.Reader.{octet_at}
use Rattle.json_read.specs.Members.{first_in}
use Rattle.prelude.specs.Any.{any}
use Rattle.rows.specs.Rows.{Entry, entries_in, numbered, present, value_of, spelled_value}
use Rattle.jose.specs.Registered.{object, array, string}
use Rattle.jose.specs.HeaderRules.{is_empty}
use Rattle.headers.specs.Components.{absent}

-- The known members of a message.
unfoldable pub member_names : List (List ℕ)
member_names =
    ascii "protected"
    ∷ ascii "unprotected"
    ∷ ascii "header"
    ∷ ascii "encrypted_key"
    ∷ ascii "recipients"
    ∷ ascii "iv"
    ∷ ascii "aad"
    ∷ ascii "ciphertext"
    ∷ ascii "tag"
    ∷ []

-- Their numbers.
abbrev pub protected : ℕ
protected = 1

abbrev pub unprotected : ℕ
unprotected = 2

abbrev pub header : ℕ
header = 3

abbrev pub encrypted_key : ℕ
encrypted_key = 4

abbrev pub recipients : ℕ
recipients = 5

abbrev pub iv : ℕ
iv = 6

abbrev pub aad : ℕ
aad = 7

abbrev pub ciphertext : ℕ
ciphertext = 8

abbrev pub tag : ℕ
tag = 9

-- The entries of an object of the message.
unfoldable pub member_entries : List ℕ → List Member → List Entry
member_entries message ms = entries_in member_names message 1 ms

-- 10 on one known member

-- A component: a string without a backslash, and not empty unless it is the ciphertext.
abbrev pub wrong_component : List ℕ → Entry → Bool
wrong_component message e =
    not (eqb e.member.kind string)
    || (holds backslash (spelled_value message e.member)
    || (not (numbered ciphertext e) && eqb e.member.value_size 2))

-- Whether nothing stands in the object or array that begins at a position.
abbrev pub hollow : Bracket → List ℕ → ℕ → Bool
hollow b s at = eqb (octet_at s (first_in s at)) (closing b)

-- A header: an object with a member.
abbrev pub wrong_header : List ℕ → Entry → Bool
wrong_header message e = not (eqb e.member.kind object) || hollow curly message e.member.value_start

-- Any known member; unknown ones are ignored. The elements of `recipients` are judged apart.
unfoldable pub wrong_member : List ℕ → Entry → Bool
wrong_member message e =
    cond (eqb e.number 0) false
    (cond (numbered unprotected e || numbered header e) (wrong_header message e)
    (cond (numbered recipients e) (not (eqb e.member.kind array)) (wrong_component message e)))

-- 10 on the top level, the elements of `recipients` aside.
unfoldable pub wrong_top : List ℕ → List Entry → Bool
wrong_top message es =
    any (wrong_member message) es
    || (not (present ciphertext es) || (present recipients es && (present header es || present encrypted_key es)))

-- 10 on `recipients` itself: it has no element, or one that is no object.
abbrev pub no_object : Element → Bool
no_object x = not (eqb x.kind object)

unfoldable pub wrong_elements : List Element → Bool
wrong_elements xs = is_empty xs || any no_object xs

-- 10 on an element of `recipients`, which knows only `header` and `encrypted_key`.
abbrev pub wrong_in_element : List ℕ → Entry → Bool
wrong_in_element message e = (numbered header e || numbered encrypted_key e) && wrong_member message e

unfoldable pub wrong_element : List ℕ → List Entry → Bool
wrong_element message es = any (wrong_in_element message) es

-- What the members are

-- The place of a component without its quotation marks.
abbrev pub inner : Place → Place
inner q = cond (eqb q.size 0) absent (record { start = q.start + 1; size = q.size - 2 })

abbrev pub component : ℕ → List Entry → Place
component n es = inner (value_of n es)

-- A recipient: where its own header stands (0 where it has none), and its key.
pub record Recipient : Type 0 where
  pub header : ℕ
  pub key : Place

abbrev pub recipient_of : List Entry → Recipient
recipient_of es = record { header = (value_of header es).start; key = component encrypted_key es }
