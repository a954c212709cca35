-- What each number of refusal says (document 01, 'Numbers of refusal, in order'), over the grammar's trees, the encoding, lists
-- and ≡, with the sentences of crate meets. Nothing of the reader is named.
use Rattle.std.specs.Prelude.{◌≡◌, List, [], ◌∷◌, ◌++◌, ℕ, ◌≤◌, ◌<◌, length}
use Rattle.prelude.specs.Ascii.{ascii, full_stop}
use Rattle.prelude.specs.Limits.{longest, header_room, list_room, levels, most_members, most_recipients}
use Rattle.prelude.specs.Call.{Call}
use Rattle.base64url.specs.Base64url.{encoded}
use Rattle.grammar.specs.Bounds.{Every}
use Rattle.grammar.specs.Readings.{Reading}
use Rattle.algorithms.specs.Algorithms.{alg_name, mode, alg_names, enc_names, zip_names}
use Rattle.algorithms.specs.declared.Alg.{Alg}
use Rattle.meets.specs.Members.{Member, members_of, names_of, Distinct}
use Rattle.meets.specs.Rules.{Headers, parameters, EveryNamed, NamesApart, Present, string_names, object_names, array_names}
use Rattle.meets.specs.Rules.{OfKind, ValueAmong, Critical, KeyFits}
use Rattle.meets.specs.Meets.{Octets, RecipientShape, TopShape, Component, HeaderIn, RecipientsIn, OneContent, OpensCurly}
use Rattle.meets.specs.Meets.{Known}
use Rattle.refusals.specs.Table.{Table, pass, rule, given, fork}

-- On an object whose names are compared: 8, over 32 members; 9, a name twice.
abbrev pub object_table : List Member → Table → Table
object_table ms rest = rule 8 (length ms ≤ most_members) λ few. rule 9 (Distinct (names_of ms)) λ once. rest

-- 12 to 18, on a recipient's headers and its key.
unfoldable pub recipient_table : List (List ℕ) → Headers → List ℕ → Table → Table
recipient_table known h key rest =
    let ps = parameters h in
    rule 12 (NamesApart h) λ a.
    rule 13 (Present (ascii "alg") ps × Present (ascii "enc") ps) λ b.
    rule 14 (OfKind string_names 2 ps × OfKind object_names 0 ps × OfKind array_names 1 ps) λ c.
    rule 15 (EveryNamed (ascii "alg") (ValueAmong alg_names) ps
    × EveryNamed (ascii "enc") (ValueAmong enc_names) ps
    × EveryNamed (ascii "zip") (ValueAmong zip_names) ps) λ d.
    rule 16 (EveryNamed (ascii "zip") (λ v. ⊥) (h.shared ++ h.own)
    × EveryNamed (ascii "crit") (λ v. ⊥) (h.shared ++ h.own)) λ e.
    rule 17 (EveryNamed (ascii "crit") (Critical known ps) ps) λ f.
    rule 18 ((a : Alg) → EveryNamed (ascii "alg") (λ v. ValueAmong (alg_name a ∷ []) v → KeyFits (mode a) key) ps) λ g.
    rest

-- Compact

-- A text without a full stop.
abbrev pub Stopless : List ℕ → Type 0
Stopless = Every (λ c. c ≡ full_stop → ⊥)

-- 4: a message with exactly four full stops: five texts without one, and one between each two.
pub record FiveParts (message : List ℕ) : Type 0 where
  pub header : List ℕ
  pub key : List ℕ
  pub iv : List ℕ
  pub ciphertext : List ℕ
  pub tag : List ℕ
  pub stopless : Stopless header × Stopless key × Stopless iv × Stopless ciphertext × Stopless tag
  pub is : header ++ (full_stop ∷ (key ++ (full_stop ∷ (iv ++ (full_stop ∷ (ciphertext ++ (full_stop ∷ tag))))))) ≡ message

-- 5: octets of which a text is the encoding.
abbrev pub Encoding : List ℕ → Type 0
Encoding text = (xs : List ℕ) × Octets xs × (encoded xs ≡ text)

abbrev pub Encodings : {message : List ℕ} → FiveParts message → Type 0
Encodings f = Encoding f.header × Encoding f.key × Encoding f.iv × Encoding f.ciphertext × Encoding f.tag

-- 6 and 7 on a decoded protected header, and what is asked of its members.
abbrev pub text_table : List ℕ → (List Member → Table) → Table
text_table header rest =
    rule 6 (length header ≤ header_room) λ short. rule 7 (Reading levels header) λ r. rest (members_of r.text.value)

unfoldable pub compact_table : List (List ℕ) → List ℕ → ℕ → Table
compact_table known message recipient =
    rule 4 (FiveParts message) λ f.
    rule 5 (Encodings f) λ e.
    text_table e.0.0 λ ms.
    object_table ms
    (recipient_table known (record { protected = ms; shared = []; own = [] }) e.1.0
    (rule 19 (recipient < 1) λ asked. pass))

-- JSON

-- 5 on one component: octets that it is the encoding of; none where it is absent.
abbrev pub Spelled : List ℕ → List Member → Type 0
Spelled w ms = (xs : List ℕ) × Octets xs × Component w ms xs

abbrev pub Key : List Member → Type 0
Key = Spelled (ascii "encrypted_key")

-- A header that stands in the message; no members where it is absent.
abbrev pub Header : List ℕ → List Member → Type 0
Header w ms = (hs : List Member) × HeaderIn w ms hs

abbrev pub Own : List Member → Type 0
Own = Header (ascii "header")

-- 5 on all of them: those of the top level, and the recipients' keys.
abbrev pub AllSpelled : List Member → List (List Member) → Type 0
AllSpelled ps rs =
    Spelled (ascii "protected") ps
    × Spelled (ascii "iv") ps
    × Spelled (ascii "aad") ps
    × Spelled (ascii "ciphertext") ps
    × Spelled (ascii "tag") ps
    × Every Key rs

-- 8, 9 and 10 on each object that holds a recipient's members, in turn: the elements of `recipients`. (In the flattened form that
-- is the top level again, which has kept them.)
unfoldable pub elements_table : List (List Member) → Table → Table
elements_table [] rest = rest
elements_table (ms ∷ rs) rest = object_table ms (rule 10 (RecipientShape ms) λ shape. elements_table rs rest)

-- 8 and 9 on each own header, in turn.
unfoldable pub owns_table : (rs : List (List Member)) → Every Own rs → Table → Table
owns_table [] o rest = rest
owns_table (ms ∷ rs) o rest = object_table o.0.0 (owns_table rs o.1 rest)

-- 12 to 18 for each recipient, in turn.
unfoldable pub recipients_table : List (List ℕ) → List Member → List Member → (rs : List (List Member)) → Every Own rs →
    Every Key rs → Table → Table
recipients_table known protected shared [] o k rest = rest
recipients_table known protected shared (ms ∷ rs) o k rest =
    recipient_table known (record { protected = protected; shared = shared; own = o.0.0 }) k.0.0
    (recipients_table known protected shared rs o.1 k.1 rest)

-- The own headers of the recipients.
abbrev pub owns_of : (rs : List (List Member)) → Every Own rs → List (List Member)
owns_of [] o = []
owns_of (ms ∷ rs) o = o.0.0 ∷ owns_of rs o.1

-- From the protected header's members on: 8 and 9 on each header, 12 to 18 for each recipient, 21, 19.
unfoldable pub headers_table : List (List ℕ) → List Member → (rs : List (List Member)) → Every Key rs → ℕ → List Member →
    Table
headers_table known ps rs k recipient protected =
    object_table protected
    (given (Header (ascii "unprotected") ps) λ s.
    object_table s.0
    (given (Every Own rs) λ o.
    owns_table rs o
    (recipients_table known protected s.0 rs o k
    (rule 21 (OneContent protected s.0 (owns_of rs o)) λ content.
    rule 19 (recipient < length rs) λ asked. pass))))

unfoldable pub json_table : List (List ℕ) → List ℕ → ℕ → Table
json_table known message recipient =
    rule 7 (Reading levels message) λ r.
    let ps = members_of r.text.value in
    object_table ps
    (rule 10 (TopShape ps) λ shape.
    given ((rs : List (List Member)) × RecipientsIn ps rs) λ g.
    rule 11 (length g.0 ≤ most_recipients) λ few.
    elements_table g.0
    (rule 5 (AllSpelled ps g.0) λ c.
    fork (Present (ascii "protected") ps)
    (text_table c.0.0 λ hs. rule 10 (hs ≡ [] → ⊥) λ some. headers_table known ps g.0 c.5 recipient hs)
    (headers_table known ps g.0 c.5 recipient [])))

-- All numbers.
unfoldable pub numbers_table : Call → Table
numbers_table c =
    rule 1 ((header_room ≤ c.header_lent) × (list_room ≤ c.list_lent)) λ room.
    rule 2 (length c.message ≤ longest) λ size.
    rule 3 (Known c.known) λ k.
    fork (OpensCurly c.message)
    (json_table k.names c.message c.recipient) (compact_table k.names c.message c.recipient)
