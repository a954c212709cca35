-- What is handed out means (document 01, 'What the reader hands out'; demand 3), by what the message meets: each number of
-- the result, the header and each row of the list, over the forms, components and members of crate meets, the grammar's
-- trees and places, and the encoding. Nothing of the reader is named but `result_of`, `header_after` and `list_after`.
use Rattle.std.specs.Prelude.{◌≡◌, ◌↔◌, ◌⊎◌, List, [], ◌∷◌, ◌++◌, ℕ, zero, suc, ◌+◌, ◌≤◌, length, get_or}
use Rattle.std.proofs.Common.{inl, inr}
use Rattle.prelude.specs.Ascii.{ascii}
use Rattle.prelude.specs.Limits.{levels}
use Rattle.prelude.specs.Result.{number_at, form_at, recipients_at, mode_at, header_at, parameters_at, result_room}
use Rattle.prelude.specs.Buffer.{written}
use Rattle.prelude.specs.Call.{Call}
use Rattle.base64url.specs.Base64url.{encoded}
use Rattle.grammar.specs.Grammar.{octets, leaves_chars, leaves_value, Text, leaves}
use Rattle.grammar.specs.Places.{kind, leading, trailing, Place, Placed, Parts, placed_text, parts_of, emptied_text}
use Rattle.grammar.specs.Places as places
use Rattle.grammar.specs.Strings.{HasOctets}
use Rattle.grammar.specs.Bounds.{Every}
use Rattle.grammar.specs.Readings.{Reading, octets_at}
use Rattle.algorithms.specs.Algorithms.{alg_name, mode}
use Rattle.algorithms.specs.declared.Alg.{Alg}
use Rattle.headers.specs.Components.{absent, Components}
use Rattle.headers.specs.Components as components
use Rattle.jwe.specs.Judge.{places_in, result_of, header_after, list_after}
use Rattle.jwe_write.specs.Write.{Raw}
use Rattle.round_trips.specs.Trips.{written_places}
use Rattle.meets.specs.Members.{Member, Some, OneForOne}
use Rattle.meets.specs.Rules.{Headers, parameters, ValueAmong}
use Rattle.meets.specs.Meets.{members_read, Compact, RecipientsIn, Recipient, OpensCurly, Message, compact, json, count}
use Rattle.meets.specs.Handed.{Rows, entries, NoMember, MemberAt, RecipientAt, within, Applies}
use Rattle.meets.specs.Handed as handed

-- Readings

-- A text has exactly one reading, spaces aside: one that is asked for, and every tree whose leaves are the text, whatever
-- its levels and whatever it keeps, is it, spaces aside, and puts every name and value at its places.
pub record ExactlyOne (s : List ℕ) : Type 0 where
  pub reading : Reading levels s
  pub only : (t : Text) → leaves t ≡ s →
      (emptied_text t ≡ emptied_text reading.text) × (placed_text t ≡ placed_text reading.text)

-- What a message that meets the rules has

-- The form's number: 0 compact, 1 flattened, 2 general.

abbrev pub json_form : (ms : List Member) (rs : List (List Member)) → RecipientsIn ms rs → ℕ
json_form ms rs (inl a) = 1
json_form ms rs (inr a) = 2

abbrev pub form_of : {known : List (List ℕ)} {message : List ℕ} → Message known message → ℕ
form_of (compact c) = 0
form_of (json j) = json_form _ j.recipients j.recipients_read

-- It is JSON.
abbrev pub IsJson : {known : List (List ℕ)} {message : List ℕ} → Message known message → Type 0
IsJson (compact c) = ⊥
IsJson (json j) = Unit {0}

-- The decoded protected header; no octets where it is absent.
abbrev pub header_of : {known : List (List ℕ)} {message : List ℕ} → Message known message → List ℕ
header_of (compact c) = c.header
header_of (json j) = j.header

-- The members of the n-th recipient's own header, counted from 0.
unfoldable pub own_of : (rs : List (List Member)) → Every Recipient rs → ℕ → List Member
own_of [] each n = []
own_of (r ∷ rs) each zero = each.0.own
own_of (r ∷ rs) each (suc n) = own_of rs each.1 n

-- The octets of its key; none where it is absent.
unfoldable pub key_of : (rs : List (List Member)) → Every Recipient rs → ℕ → List ℕ
key_of [] each n = []
key_of (r ∷ rs) each zero = each.0.key
key_of (r ∷ rs) each (suc n) = key_of rs each.1 n

-- The headers that apply to recipient n.
abbrev pub headers_of : {known : List (List ℕ)} {message : List ℕ} → Message known message → ℕ → Headers
headers_of (compact c) n = record { protected = members_read c.protected; shared = []; own = [] }
headers_of (json j) n = record {
  protected = j.protected;
  shared = j.shared;
  own = own_of j.recipients j.each n;
}

-- The octets of the components that apply to recipient n; none where one is absent.
pub record Contents : Type 0 where
  pub header : List ℕ
  pub key : List ℕ
  pub iv : List ℕ
  pub aad : List ℕ
  pub ciphertext : List ℕ
  pub tag : List ℕ

abbrev pub contents_of : {known : List (List ℕ)} {message : List ℕ} → Message known message → ℕ → Contents
contents_of (compact c) n = record {
  header = c.header;
  key = c.key;
  iv = c.iv;
  aad = [];
  ciphertext = c.ciphertext;
  tag = c.tag;
}
contents_of (json j) n = record {
  header = j.header;
  key = key_of j.recipients j.each n;
  iv = j.iv;
  aad = j.aad;
  ciphertext = j.ciphertext;
  tag = j.tag;
}

-- Places

-- At each place of a message stands its component, encoded.
pub record PlacesShow (message : List ℕ) (q : Components) (x : Contents) : Type 0 where
  pub protected : components.octets_at message q.protected ≡ encoded x.header
  pub key : components.octets_at message q.key ≡ encoded x.key
  pub iv : components.octets_at message q.iv ≡ encoded x.iv
  pub aad : components.octets_at message q.aad ≡ encoded x.aad
  pub ciphertext : components.octets_at message q.ciphertext ≡ encoded x.ciphertext
  pub tag : components.octets_at message q.tag ≡ encoded x.tag

-- The place of the component of that name among parts: that of its member's value in the grammar's placing, without its
-- quotation marks; 0, 0 where there is no such member.
abbrev pub PlaceOf : List ℕ → List ℕ → Parts → Place → Type 0
PlaceOf s w ps q = (NoMember s w ps × (q ≡ absent)) ⊎ ((v : Placed) × MemberAt s w v ps × (q ≡ within v))

-- The places of a JSON message for recipient n, the key's among the parts of that recipient's object.
pub record JsonPlaces (message : List ℕ) (ps : Parts) (n : ℕ) (q : Components) : Type 0 where
  pub protected : PlaceOf message (ascii "protected") ps q.protected
  pub object : Parts
  pub recipient : RecipientAt message ps n object
  pub key : PlaceOf message (ascii "encrypted_key") object q.key
  pub iv : PlaceOf message (ascii "iv") ps q.iv
  pub aad : PlaceOf message (ascii "aad") ps q.aad
  pub ciphertext : PlaceOf message (ascii "ciphertext") ps q.ciphertext
  pub tag : PlaceOf message (ascii "tag") ps q.tag

-- The five texts of a compact message.
abbrev pub raw_of : {known : List (List ℕ)} {message : List ℕ} → Compact known message → Raw
raw_of c = record { header = c.header; key = c.key; iv = c.iv; ciphertext = c.ciphertext; tag = c.tag }

-- The places of a message: of a compact one, those of the five encodings one behind the other.
abbrev pub PlacesMean : {known : List (List ℕ)} {message : List ℕ} → Message known message → ℕ → Components → Type 0
PlacesMean (compact c) n q = q ≡ written_places (raw_of c)
PlacesMean {known} {message} (json j) n q = JsonPlaces message (parts_of (placed_text j.reading.text)) n q

-- The result

-- A parameter `alg` that has the name of an algorithm.
abbrev pub HasAlg : Alg → Member → Type 0
HasAlg a p = HasOctets p.name (ascii "alg") × ValueAmong (alg_name a ∷ []) p.value

-- What the numbers of a result say of a message and its recipient n.
pub record ResultMeans {known : List (List ℕ)} {message : List ℕ} (f : Message known message) (n : ℕ)
    (r : List ℕ) : Type 0 where
  pub size : length r ≡ result_room
  pub number : get_or r number_at 0 ≡ 0
  pub form : get_or r form_at 0 ≡ form_of f
  pub told : IsJson f ↔ OpensCurly message
  pub recipients : get_or r recipients_at 0 ≡ count f
  pub alg : Alg
  pub named : Some (HasAlg alg) (parameters (headers_of f n))
  pub mode_is : get_or r mode_at 0 ≡ mode alg
  pub no_other : (a : Alg) → Some (HasAlg a) (parameters (headers_of f n)) → get_or r mode_at 0 ≡ mode a
  pub places : PlacesMean f n (places_in r)
  pub shows : PlacesShow message (places_in r) (contents_of f n)
  pub header_length : get_or r header_at 0 ≡ length (header_of f)
  pub parameter_count : get_or r parameters_at 0 ≡ length (parameters (headers_of f n))

-- Rows

abbrev pub name_place : places.Member → Place
name_place m = record { start = m.name_start; size = m.name_size }

abbrev pub value_place : places.Member → Place
value_place m = record { start = m.value_start; size = m.value_size }

-- A row of the text s shows a member: at its name's place stands the name's spelling, its kind is the value's, and at its
-- value's place stand the value's leaves, without the space around it.
pub record RowShows (s : List ℕ) (p : Member) (m : places.Member) : Type 0 where
  pub spelled : octets_at s (name_place m) ≡ leaves_chars p.name.chars
  pub kinds : m.kind ≡ kind p.value
  pub value :
      leaves_value p.value
      ≡ octets (leading p.value) ++ (octets_at s (value_place m) ++ octets (trailing p.value))
  pub name_fits : m.name_start + m.name_size ≤ length s
  pub value_fits : m.value_start + m.value_size ≤ length s

-- The rows of three headers show their members, one for one.
pub record RowsShow (header message : List ℕ) (h : Headers) (x : Rows) : Type 0 where
  pub protected : OneForOne (RowShows header) h.protected x.protected
  pub shared : OneForOne (RowShows message) h.shared x.shared
  pub own : OneForOne (RowShows message) h.own x.own

-- Demand 3

-- There is no protected header: the message is JSON and its top level has no such member.
abbrev pub NoProtected : List ℕ → Type 0
NoProtected message =
    (r : Reading levels message) × NoMember message (ascii "protected") (parts_of (placed_text r.text))

-- What is handed out by a call on a message that meets the rules, into the header buffer and the list that were lent.
pub record HandsOut (c : Call) (buffer list : List ℕ) {names : List (List ℕ)} (f : Message names c.message) : Type 0 where
  -- The header and the rows that apply, and no others do.
  pub header : List ℕ
  pub rows : Rows
  pub applies : Applies c.message c.recipient header rows
  pub only : (h : List ℕ) (x : Rows) → Applies c.message c.recipient h x → (h ≡ header) × (x ≡ rows)
  -- They are in the lent memory, its rest unchanged, and the result has their lengths.
  pub header_left : header_after c buffer ≡ written 0 header buffer
  pub list_left : list_after c list ≡ written 0 (entries rows) list
  pub header_fits : length header ≤ c.header_lent
  pub list_fits : length (entries rows) ≤ c.list_lent
  pub header_length : get_or (result_of c) 16 0 ≡ length header
  pub parameter_count : get_or (result_of c) 17 0 ≡ handed.count rows
  -- They are those of what the message meets: the header's octets, and a row for each parameter.
  pub header_is : header ≡ header_of f
  pub shows : RowsShow header c.message (headers_of f c.recipient) rows
  pub counted : handed.count rows ≡ length (parameters (headers_of f c.recipient))
  -- Exactly one reading.
  pub message_read : OpensCurly c.message → ExactlyOne c.message
  pub header_read : ((header ≡ []) × NoProtected c.message) ⊎ ExactlyOne header
