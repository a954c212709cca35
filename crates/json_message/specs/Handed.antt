-- What the reader hands out of a written message, for each of its recipients: what was written, the shared and the own header
-- without the space around them.
use Rattle.std.specs.Prelude.{◌≡◌, List, [], ◌∷◌, ◌++◌, map, reverse, Bool, true, false, cond, ℕ, zero, suc, ◌≤◌, length, drop}
use Rattle.prelude.specs.Buffer.{AllBelow}
use Rattle.base64url.specs.Base64url.{encoded}
use Rattle.grammar.specs.Bounds.{Every}
use Rattle.grammar.specs.Grammar.{is_space}
use Rattle.grammar.specs.Places.{Place}
use Rattle.rows.specs.Rows.{Entry, entries_in, present, value_of}
use Rattle.jose.specs.Registered.{registered}
use Rattle.headers.specs.Components.{octets_at, absent, Components, flattened_form, general_form}
use Rattle.headers.specs.Headers.{outermost, protected_entries}
use Rattle.shape.specs.Shape as shape
use Rattle.shape.specs.Recipients.{top_entries, elements_in, element_entries}
use Rattle.jwe.specs.Judge.{Outcome}
use Rattle.json_text.specs.Moved.{moved_member}
use Rattle.recipients.specs.Table.{RawRecipient}
use Rattle.json_message.specs.JsonText.{RawMessage}

-- What is encoded is octets.
pub record MessageOctets (c : RawMessage) : Type 0 where
  pub protected : AllBelow 256 c.protected
  pub keys : Every (λ r. AllBelow 256 r.key) c.recipients
  pub aad : AllBelow 256 c.aad
  pub iv : AllBelow 256 c.iv
  pub ciphertext : AllBelow 256 c.ciphertext
  pub tag : AllBelow 256 c.tag

-- The n-th recipient, counted from 0.
unfoldable pub numbered_recipient : List RawRecipient → ℕ → RawRecipient
numbered_recipient [] n = record { header = []; key = [] }
numbered_recipient (r ∷ rs) zero = r
numbered_recipient (r ∷ rs) (suc n) = numbered_recipient rs n

-- A text without the space before it.
unfoldable pub drop_space : List ℕ → List ℕ
drop_space [] = []
drop_space (c ∷ w) = let rest = drop_space w in cond (is_space c) rest (c ∷ w)

-- A text without the space around it: without that before it, and, turned round, without that behind it.
unfoldable pub trimmed : List ℕ → List ℕ
trimmed w = reverse (drop_space (reverse (drop_space w)))

-- The parameters of a header's text, by the origin; none where it is absent.
unfoldable pub text_entries : ℕ → List ℕ → List Entry
text_entries o [] = []
text_entries o (c ∷ w) = entries_in registered (c ∷ w) o (outermost (c ∷ w))

-- A parameter where its text stands m octets further on.
abbrev pub moved_entry : ℕ → Entry → Entry
moved_entry m e = record { origin = e.origin; member = moved_member m e.member; number = e.number }

-- A given text stands in the message from octet m on, as given; an absent one stands nowhere.
pub record StandsAt (message : List ℕ) (m : ℕ) (w : List ℕ) : Type 0 where
  pub after : List ℕ
  pub is : drop m message ≡ w ++ after

abbrev pub Given : List ℕ → ℕ → List ℕ → Type 0
Given message m [] = Unit {0}
Given message m (c ∷ w) = StandsAt message m (c ∷ w)

-- The entries among which each recipient's members stand: those of its element, or of the top level.
unfoldable pub member_lists : List ℕ → List (List Entry)
member_lists message =
    let es = top_entries message in
    cond (present shape.recipients es) (map (λ x. element_entries message x.start) (elements_in message es)) (es ∷ [])

-- The n-th of them.
unfoldable pub numbered_list : List (List Entry) → ℕ → List Entry
numbered_list [] n = []
numbered_list (es ∷ ess) zero = es
numbered_list (es ∷ ess) (suc n) = numbered_list ess n

-- Whether a component or a text is given.
abbrev pub is_there : List ℕ → Bool
is_there [] = false
is_there (x ∷ xs) = true

-- The place of a component: behind the first octet where it is there, that of an absent one where it is not.
abbrev pub PlaceIf : Bool → Place → Type 0
PlaceIf true q = 1 ≤ q.start
PlaceIf false q = q ≡ absent

-- The components are there where they are given; the ciphertext always is.
pub record PlacesIf (c : RawMessage) (r : RawRecipient) (q : Components) : Type 0 where
  pub protected : PlaceIf (is_there c.protected) q.protected
  pub key : PlaceIf (is_there r.key) q.key
  pub iv : PlaceIf (is_there c.iv) q.iv
  pub aad : PlaceIf (is_there c.aad) q.aad
  pub ciphertext : PlaceIf true q.ciphertext
  pub tag : PlaceIf (is_there c.tag) q.tag

-- What is handed out for the recipient r, whose members stand among the entries `own`.
pub record HandedTo (general : Bool) (c : RawMessage) (r : RawRecipient) (own : List Entry) (message : List ℕ)
    (x : Outcome) : Type 0 where
  pub form : x.form ≡ cond general general_form flattened_form
  pub recipients : x.recipients ≡ length c.recipients
  -- The components decode to what was given.
  pub protected : octets_at message x.components.protected ≡ encoded c.protected
  pub key : octets_at message x.components.key ≡ encoded r.key
  pub iv : octets_at message x.components.iv ≡ encoded c.iv
  pub aad : octets_at message x.components.aad ≡ encoded c.aad
  pub ciphertext : octets_at message x.components.ciphertext ≡ encoded c.ciphertext
  pub tag : octets_at message x.components.tag ≡ encoded c.tag
  pub places : PlacesIf c r x.components
  -- The headers are those given, and the values of their members have no space around them.
  pub header : x.header ≡ c.protected
  pub shared_from : ℕ
  pub own_from : ℕ
  pub shared_given : Given message shared_from c.shared
  pub own_given : Given message own_from r.header
  pub shared_text : octets_at message (value_of shape.unprotected (top_entries message)) ≡ trimmed c.shared
  pub own_text : octets_at message (value_of shape.header own) ≡ trimmed r.header
  -- The parameters are those of the three texts.
  pub entries : x.entries
      ≡ protected_entries c.protected
      ++ (map (moved_entry shared_from) (text_entries 1 c.shared) ++ map (moved_entry own_from) (text_entries 2 r.header))

-- What is handed out for the n-th recipient.
abbrev pub JsonHanded : Bool → RawMessage → ℕ → List ℕ → Outcome → Type 0
JsonHanded general c n message x =
    HandedTo general c (numbered_recipient c.recipients n) (numbered_list (member_lists message) n) message x
