-- The flattened and the general serialization (RFC 7516, section 7.2) as they are written (request 1/12): a member of
-- length 0 is left out, ciphertext excepted; shared and own headers stand as given; no space is added.
use Rattle.std.specs.Prelude.{List, [], ◌∷◌, ◌++◌, map, Bool, true, false, ℕ}
use Rattle.prelude.specs.Ascii.{ascii}
use Rattle.base64url.specs.Base64url.{encoded}
use Rattle.grammar.specs.Grammar.{curly, square}
use Rattle.json_text.specs.Pieces.{quoted, member_text, bracketed}
use Rattle.recipients.specs.Table.{RawRecipient}

-- What the writer is given: the texts of the protected and the shared header, each absent where it has length 0, the
-- recipients, and the raw components.
pub record RawMessage : Type 0 where
  pub protected : List ℕ
  pub shared : List ℕ
  pub recipients : List RawRecipient
  pub aad : List ℕ
  pub iv : List ℕ
  pub ciphertext : List ℕ
  pub tag : List ℕ

-- A header's text as a member; none where it is absent.
unfoldable pub header_member : List ℕ → List ℕ → List (List ℕ)
header_member name [] = []
header_member name (c ∷ w) = member_text name (c ∷ w) ∷ []

-- A component as a member, encoded; none where it is empty.
unfoldable pub component_member : List ℕ → List ℕ → List (List ℕ)
component_member name [] = []
component_member name (x ∷ xs) = member_text name (quoted (encoded (x ∷ xs))) ∷ []

-- The members of a recipient.
unfoldable pub own_members : RawRecipient → List (List ℕ)
own_members r = header_member (ascii "header") r.header ++ component_member (ascii "encrypted_key") r.key

-- An element of `recipients`.
unfoldable pub element_text : RawRecipient → List ℕ
element_text r = bracketed curly (own_members r)

-- General: `recipients`. Flattened: the members of the one recipient.
unfoldable pub recipient_members : Bool → List RawRecipient → List (List ℕ)
recipient_members true rs = member_text (ascii "recipients") (bracketed square (map element_text rs)) ∷ []
recipient_members false [] = []
recipient_members false (r ∷ rs) = own_members r

-- The members of a message, general or flattened.
unfoldable pub top_members : Bool → RawMessage → List (List ℕ)
top_members general c =
    component_member (ascii "protected") c.protected
    ++ (header_member (ascii "unprotected") c.shared
    ++ (recipient_members general c.recipients
    ++ (component_member (ascii "aad") c.aad
    ++ (component_member (ascii "iv") c.iv
    ++ (member_text (ascii "ciphertext") (quoted (encoded c.ciphertext))
    ∷ component_member (ascii "tag") c.tag)))))

-- The message.
unfoldable pub json_text : Bool → RawMessage → List ℕ
json_text general c = bracketed curly (top_members general c)
