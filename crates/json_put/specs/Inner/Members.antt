-- Members of an object, or elements of an array, written one after the other: a writer says whether one stands before.
use Rattle.std.specs.Prelude.{◌≡◌, Bool, List, [], ◌∷◌, ◌++◌, ℕ}
use Rattle.prelude.specs.Ascii.{ascii}
use Rattle.base64url.specs.Base64url.{encoded}
use Rattle.grammar.specs.Grammar.{colon}
use Rattle.recipients.specs.Parsed.{recipients_in}
use Rattle.json_text.specs.Pieces.{quoted, member_text}
use Rattle.json_text.specs.Inner.Led.{led, begun_after}
use Rattle.json_message.specs.JsonText.{header_member, component_member, recipient_members}
use Rattle.json_message.specs.JsonWrite.{RawJson, raw_json}
use Rattle.json_put.specs.declared.message.Message.{Message}

-- A member up to its value.
unfoldable pub name_text : List ℕ → List ℕ
name_text name = quoted name ++ (colon ∷ [])

-- A component as a member, encoded, also where it is empty.
unfoldable pub encoded_member : List ℕ → List ℕ → List (List ℕ)
encoded_member name octets = member_text name (quoted (encoded octets)) ∷ []

-- What is given, as the writer's definitions have it.
abbrev pub raw_of : Message → RawJson
raw_of m = raw_json m.protected.now m.shared.now m.aad.now m.iv.now m.ciphertext.now m.tag.now m.recipients.now

-- The members of a message, those up to the recipients' and those behind them.

unfoldable pub head_members : Bool → Message → List (List ℕ)
head_members general m =
    component_member (ascii "protected") m.protected.now
    ++ (header_member (ascii "unprotected") m.shared.now ++ recipient_members general (recipients_in m.recipients.now))

unfoldable pub tail_members : Message → List (List ℕ)
tail_members m =
    component_member (ascii "aad") m.aad.now
    ++ (component_member (ascii "iv") m.iv.now
    ++ (encoded_member (ascii "ciphertext") m.ciphertext.now ++ component_member (ascii "tag") m.tag.now))

abbrev pub all_members : Bool → Message → List (List ℕ)
all_members general m = head_members general m ++ tail_members m

-- Members written to a sink

-- A sink, and whether one stands before what follows
pub record Point (S : Type 0) : Type 0 where
  pub sink : S
  pub begun : Bool

abbrev pub point : {S : Type 0} → S → Bool → Point S
point s begun = record { sink = s; begun = begun }

module _ {S : Type 0} where
  -- These may come next.
  abbrev pub Room : (S → List ℕ → Type 0) → Point S → List (List ℕ) → Type 0
  Room fits w ws = fits w.sink (led w.begun ws)

  -- These came between two moments.
  pub record Puts (gains : S → List ℕ → S → Type 0) (w : Point S) (ws : List (List ℕ)) (v : Point S) : Type 0 where
    pub octets : gains w.sink (led w.begun ws) v.sink
    pub begun : v.begun ≡ begun_after w.begun ws
