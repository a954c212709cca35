-- What a message has to meet (demand 2): the rules of RFC 7516 as document 01 fixes them, over the grammar's trees and leaves
-- and the encoding. Nothing is searched.
use Rattle.std.specs.Prelude.{◌≡◌, ◌⊎◌, List, [], ◌∷◌, ◌++◌, map, ℕ, ◌≤◌, ◌<◌, length}
use Rattle.prelude.specs.Ascii.{ascii, full_stop}
use Rattle.prelude.specs.Limits.{longest, header_room, list_room, levels, most_members, most_recipients}
use Rattle.prelude.specs.Buffer.{AllBelow}
use Rattle.prelude.specs.Call.{Call}
use Rattle.base64url.specs.Base64url.{encoded}
use Rattle.names.specs.Names.{list_of, Limited}
use Rattle.grammar.specs.Grammar.{Char, Str, leaves_chars, Value, string}
use Rattle.grammar.specs.Grammar as grammar
use Rattle.grammar.specs.Places.{kind}
use Rattle.grammar.specs.Bounds.{Every}
use Rattle.grammar.specs.Readings.{Reading}
use Rattle.meets.specs.Members.{Member, members_of, elements_of, names_of, IsString, Distinct, Named, Absent}
use Rattle.meets.specs.Members.{EveryTwo}
use Rattle.meets.specs.Rules.{EveryNamed, Present, Rules, SameContent}

-- Octets.
abbrev pub Octets : List ℕ → Type 0
Octets = AllBelow 256

-- An object whose names are compared: at most 32 members, no name twice.
pub record Object (ms : List Member) : Type 0 where
  pub few : length ms ≤ most_members
  pub distinct : Distinct (names_of ms)

-- A decoded protected header: at most 4,096 octets, read as an object within 12 levels.
pub record Protected (header : List ℕ) : Type 0 where
  pub short : length header ≤ header_room
  pub reading : Reading levels header

abbrev pub members_read : {header : List ℕ} → Protected header → List Member
members_read p = members_of p.reading.text.value

-- Compact (RFC 7516, section 7.1)
pub record Compact (known : List (List ℕ)) (message : List ℕ) : Type 0 where
  pub header : List ℕ
  pub key : List ℕ
  pub iv : List ℕ
  pub ciphertext : List ℕ
  pub tag : List ℕ
  pub octets : Octets header × Octets key × Octets iv × Octets ciphertext × Octets tag
  pub spelled :
      encoded header
      ++ (full_stop ∷ (encoded key ++ (full_stop ∷ (encoded iv ++ (full_stop ∷ (encoded ciphertext ++ (full_stop ∷ encoded tag)))))))
      ≡ message
  pub protected : Protected header
  pub object : Object (members_read protected)
  pub rules : Rules known (record { protected = members_read protected; shared = []; own = [] }) key

-- JSON (RFC 7516, section 7.2)

-- A character without a backslash.
abbrev pub Unescaped : Char → Type 0
Unescaped (grammar.unescaped o) = Unit {0}
Unescaped (grammar.escape o) = ⊥
Unescaped (grammar.unicode a b c d) = ⊥

-- A component: a string of such characters.
abbrev pub Plain : Value → Type 0
Plain = IsString (λ x. Every Unescaped x.chars)

-- A string with a character.
abbrev pub Filled : Value → Type 0
Filled = IsString (λ x. x.chars ≡ [] → ⊥)

-- A header: an object with a member.
abbrev pub Header : Value → Type 0
Header v = (kind v ≡ 0) × (members_of v ≡ [] → ⊥)

-- `recipients`: an array with an element, all of them objects.
abbrev pub Recipients : Value → Type 0
Recipients v = (kind v ≡ 1) × (elements_of v ≡ [] → ⊥) × Every (λ x. kind x ≡ 0) (elements_of v)

-- What an object that holds a recipient's members has to meet.
pub record RecipientShape (ms : List Member) : Type 0 where
  pub key : EveryNamed (ascii "encrypted_key") (λ v. Plain v × Filled v) ms
  pub header : EveryNamed (ascii "header") Header ms

-- What the top level has to meet: a general message has no `header` and no `encrypted_key` there.
pub record TopShape (ms : List Member) : Type 0 where
  pub recipient : RecipientShape ms
  pub protected : EveryNamed (ascii "protected") (λ v. Plain v × Filled v) ms
  pub iv : EveryNamed (ascii "iv") (λ v. Plain v × Filled v) ms
  pub aad : EveryNamed (ascii "aad") (λ v. Plain v × Filled v) ms
  pub tag : EveryNamed (ascii "tag") (λ v. Plain v × Filled v) ms
  pub ciphertext : EveryNamed (ascii "ciphertext") Plain ms
  pub unprotected : EveryNamed (ascii "unprotected") Header ms
  pub recipients : EveryNamed (ascii "recipients") Recipients ms
  pub present : Present (ascii "ciphertext") ms
  pub general : Present (ascii "recipients") ms → Absent (ascii "header") ms × Absent (ascii "encrypted_key") ms

-- The octets of a component; none where it is absent.
abbrev pub Component : List ℕ → List Member → List ℕ → Type 0
Component w ms xs =
    (Absent w ms × (xs ≡ []))
    ⊎ ((x : Str) × Named w (string x) ms × (leaves_chars x.chars ≡ encoded xs))

-- The members of a header that stands in the message; none where it is absent.
abbrev pub HeaderIn : List ℕ → List Member → List Member → Type 0
HeaderIn w ms hs = (Absent w ms × (hs ≡ [])) ⊎ ((v : Value) × Named w v ms × (hs ≡ members_of v))

-- The members of the protected header; none where it is absent, one or more where it is there.
abbrev pub ProtectedIn : List Member → List ℕ → List Member → Type 0
ProtectedIn ms header hs =
    (Absent (ascii "protected") ms × (hs ≡ []))
    ⊎ ((p : Protected header) × (hs ≡ members_read p) × (hs ≡ [] → ⊥))

-- The objects that hold the recipients' members: the elements of `recipients` (general), else the top level (flattened).
abbrev pub RecipientsIn : List Member → List (List Member) → Type 0
RecipientsIn ms rs =
    (Absent (ascii "recipients") ms × (rs ≡ ms ∷ []))
    ⊎ ((v : Value) × Named (ascii "recipients") v ms × (rs ≡ map members_of (elements_of v)))

-- A recipient: its key and its own header.
pub record Recipient (ms : List Member) : Type 0 where
  pub key : List ℕ
  pub own : List Member
  pub octets : Octets key
  pub shape : RecipientShape ms
  pub object : Object ms
  pub spelled : Component (ascii "encrypted_key") ms key
  pub header : HeaderIn (ascii "header") ms own
  pub own_object : Object own

-- The rules on it, beside the headers that all recipients share.
abbrev pub Ruled : List (List ℕ) → List Member → List Member → {ms : List Member} → Recipient ms → Type 0
Ruled known protected shared r = Rules known (record { protected = protected; shared = shared; own = r.own }) r.key

-- On each of several.
abbrev pub EachRuled : List (List ℕ) → List Member → List Member → (rs : List (List Member)) → Every Recipient rs → Type 0
EachRuled known protected shared [] each = Unit {0}
EachRuled known protected shared (ms ∷ rs) each =
    Ruled known protected shared each.0 × EachRuled known protected shared rs each.1

-- Their own headers.
abbrev pub owns : (rs : List (List Member)) → Every Recipient rs → List (List Member)
owns [] each = []
owns (ms ∷ rs) each = each.0.own ∷ owns rs each.1

-- Every two of several recipients, by their own headers, have the same content algorithm.
abbrev pub OneContent : List Member → List Member → List (List Member) → Type 0
OneContent protected shared =
    EveryTwo (λ own other.
    SameContent (record { protected = protected; shared = shared; own = own })
    (record { protected = protected; shared = shared; own = other }))

pub record Json (known : List (List ℕ)) (message : List ℕ) : Type 0 where
  pub reading : Reading levels message
  pub object : Object (members_of reading.text.value)
  pub shape : TopShape (members_of reading.text.value)
  pub header : List ℕ
  pub iv : List ℕ
  pub aad : List ℕ
  pub ciphertext : List ℕ
  pub tag : List ℕ
  pub octets : Octets header × Octets iv × Octets aad × Octets ciphertext × Octets tag
  pub protected_spelled : Component (ascii "protected") (members_of reading.text.value) header
  pub iv_spelled : Component (ascii "iv") (members_of reading.text.value) iv
  pub aad_spelled : Component (ascii "aad") (members_of reading.text.value) aad
  pub ciphertext_spelled : Component (ascii "ciphertext") (members_of reading.text.value) ciphertext
  pub tag_spelled : Component (ascii "tag") (members_of reading.text.value) tag
  pub protected : List Member
  pub protected_read : ProtectedIn (members_of reading.text.value) header protected
  pub protected_object : Object protected
  pub shared : List Member
  pub shared_read : HeaderIn (ascii "unprotected") (members_of reading.text.value) shared
  pub shared_object : Object shared
  pub recipients : List (List Member)
  pub recipients_read : RecipientsIn (members_of reading.text.value) recipients
  pub few : length recipients ≤ most_recipients
  pub each : Every Recipient recipients
  pub rules : EachRuled known protected shared recipients each
  pub content : OneContent protected shared (owns recipients each)

-- The form is told by the first octet that is not space: a JSON message has an opening curly bracket there.
pub record OpensCurly (message : List ℕ) : Type 0 where
  pub space : grammar.Space
  pub rest : List ℕ
  pub is : grammar.octets space ++ (grammar.opening grammar.curly ∷ rest) ≡ message

-- A message in one of the forms, and how many recipients it has.
pub data Message (known : List (List ℕ)) (message : List ℕ) : Type 0 where
  compact : Compact known message → Message known message
  json : Json known message → Message known message

abbrev pub count : {known : List (List ℕ)} {message : List ℕ} → Message known message → ℕ
count (compact c) = 1
count (json j) = length j.recipients

-- A list of known names that may be lent.
pub record Known (list : List ℕ) : Type 0 where
  pub names : List (List ℕ)
  pub spelled : list_of names ≡ list
  pub few : length names ≤ 16
  pub limited : Limited names

-- What is lent is enough, and the message meets the rules and has the recipient.
pub record Meets (c : Call) : Type 0 where
  pub room : (header_room ≤ c.header_lent) × (list_room ≤ c.list_lent)
  pub size : length c.message ≤ longest
  pub list : Known c.known
  pub form : Message list.names c.message
  pub asked : c.recipient < count form
