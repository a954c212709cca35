-- The tables of a written message: the members of a recipient, and those of the top level; and that the text is put together
-- of them.
use mathlib.Core.Path.{◌≡◌, refl, ap, ap₂, ◌∙◌}
use mathlib.Core.List.{List, [], ◌∷◌, ◌++◌, map, append-nil}
use mathlib.Core.Bool.{Bool, true, false}
use Prim.Native.Nat.{ℕ}
use Rattle.prelude.specs.Ascii.{ascii}
use Rattle.prelude.specs.Buffer.{AllBelow}
use Rattle.prelude.specs.Limits.{levels}
use Rattle.base64url.specs.Base64url.{encoded}
use Rattle.grammar.specs.Bounds.{Every}
use Rattle.grammar.specs.Grammar.{curly, square}
use Rattle.shape.specs.Shape as shape
use Rattle.json_text.specs.Pieces.{quoted, member_text, bracketed}
use Rattle.json_text.proofs.Made.{Field, Element, object}
use Rattle.json_text.proofs.Fields.{object_text}
use Rattle.recipients.specs.Table.{RawRecipient}
use Rattle.json_message.specs.JsonText.{RawMessage, header_member, component_member, own_members, element_text}
use Rattle.json_message.specs.JsonText.{recipient_members, top_members, json_text}
use Rattle.json_message.specs.Handed.{MessageOctets}
use Rattle.json_message.specs.Inner.Judged.{Judged, OwnJudged, TextsJudged}
use Rattle.json_message.proofs.Names.{protected_known, shared_known, header_known, key_known, recipients_known, iv_known}
use Rattle.json_message.proofs.Names.{aad_known, ciphertext_known, tag_known}
use Rattle.json_message.proofs.Lines.{a_component, a_ciphertext, a_header, an_array, Line, table_fields, content_texts}
use Rattle.json_message.proofs.Lines.{table_texts}
use Rattle.json_message.proofs.Lines.{table_texts_lem, texts_append}

-- A recipient

unfoldable pub own_lines : (r : RawRecipient) → AllBelow 256 r.key → Judged levels r.header → List Line
own_lines r o j =
    record {
      name = ascii "header";
      number = shape.header;
      known = header_known;
      content = a_header r.header j;
      suits = (refl, refl);
    }
    ∷ record {
      name = ascii "encrypted_key";
      number = shape.encrypted_key;
      known = key_known;
      content = a_component r.key o;
      suits = refl;
    }
    ∷ []

abbrev pub own_fields : (r : RawRecipient) → AllBelow 256 r.key → Judged levels r.header → List Field
own_fields r o j = table_fields (own_lines r o j)

own_texts : (r : RawRecipient) (o : AllBelow 256 r.key) (j : Judged levels r.header) →
    table_texts (own_lines r o j) ≡ own_members r
unfolding own_lines table_texts content_texts own_members
own_texts r o j =
    ap (λ (z : List (List ℕ)). header_member (ascii "header") r.header ++ z)
    (append-nil (component_member (ascii "encrypted_key") r.key))

-- Its element.
unfoldable pub element_of : (r : RawRecipient) → AllBelow 256 r.key → Judged levels r.header → Element
element_of r o j = record { text = object_text (own_fields r o j); made = object (own_fields r o j) }

element_text_lem : (r : RawRecipient) (o : AllBelow 256 r.key) (j : Judged levels r.header) →
    (element_of r o j).text ≡ element_text r
unfolding element_of element_text
element_text_lem r o j = ap (bracketed curly) (table_texts_lem (own_lines r o j) ∙ own_texts r o j)

-- All recipients

abbrev pub EveryOctets : List RawRecipient → Type 0
EveryOctets rs = Every (λ r. AllBelow 256 r.key) rs

unfoldable pub elements_of : (rs : List RawRecipient) → EveryOctets rs → OwnJudged levels rs → List Element
elements_of [] o j = []
elements_of (r ∷ rs) o j = element_of r o.0 j.0 ∷ elements_of rs o.1 j.1

elements_texts : (rs : List RawRecipient) (o : EveryOctets rs) (j : OwnJudged levels rs) →
    map (λ (x : Element). x.text) (elements_of rs o j) ≡ map element_text rs
unfolding elements_of
elements_texts [] o j = refl
elements_texts (r ∷ rs) o j = ap₂ ◌∷◌ (element_text_lem r o.0 j.0) (elements_texts rs o.1 j.1)

unfoldable pub recipient_lines : (general : Bool) (rs : List RawRecipient) → EveryOctets rs → OwnJudged levels rs → List Line
recipient_lines true rs o j =
    record {
      name = ascii "recipients";
      number = shape.recipients;
      known = recipients_known;
      content = an_array (elements_of rs o j);
      suits = refl;
    }
    ∷ []
recipient_lines false [] o j = []
recipient_lines false (r ∷ rs) o j = own_lines r o.0 j.0

recipient_texts : (general : Bool) (rs : List RawRecipient) (o : EveryOctets rs) (j : OwnJudged levels rs) →
    table_texts (recipient_lines general rs o j) ≡ recipient_members general rs
unfolding recipient_lines recipient_members table_texts content_texts
recipient_texts true rs o j =
    ap (λ z. member_text (ascii "recipients") (bracketed square z) ∷ []) (elements_texts rs o j)
recipient_texts false [] o j = refl
recipient_texts false (r ∷ rs) o j = own_texts r o.0 j.0

-- The top level

module _ (c : RawMessage) (o : MessageOctets c) where
  unfoldable pub protected_line : Line
  protected_line = record {
    name = ascii "protected";
    number = shape.protected;
    known = protected_known;
    content = a_component c.protected o.protected;
    suits = refl;
  }

  unfoldable pub shared_line : Judged levels c.shared → Line
  shared_line j = record {
    name = ascii "unprotected";
    number = shape.unprotected;
    known = shared_known;
    content = a_header c.shared j;
    suits = (refl, refl);
  }

  unfoldable pub last_lines : List Line
  last_lines =
      record { name = ascii "aad"; number = shape.aad; known = aad_known; content = a_component c.aad o.aad; suits = refl }
      ∷ record { name = ascii "iv"; number = shape.iv; known = iv_known; content = a_component c.iv o.iv; suits = refl }
      ∷ record {
        name = ascii "ciphertext";
        number = shape.ciphertext;
        known = ciphertext_known;
        content = a_ciphertext c.ciphertext o.ciphertext;
        suits = (refl, refl);
      }
      ∷ record { name = ascii "tag"; number = shape.tag; known = tag_known; content = a_component c.tag o.tag; suits = refl }
      ∷ []

  last_texts : table_texts last_lines
      ≡ component_member (ascii "aad") c.aad
      ++ (component_member (ascii "iv") c.iv
      ++ (member_text (ascii "ciphertext") (quoted (encoded c.ciphertext)) ∷ component_member (ascii "tag") c.tag))
  unfolding last_lines table_texts content_texts
  last_texts =
      ap (λ (z : List (List ℕ)).
      component_member (ascii "aad") c.aad
      ++ (component_member (ascii "iv") c.iv ++ (member_text (ascii "ciphertext") (quoted (encoded c.ciphertext)) ∷ z)))
      (append-nil (component_member (ascii "tag") c.tag))

module _ (general : Bool) (c : RawMessage) (o : MessageOctets c) (j : TextsJudged levels levels c) where
  unfoldable pub top_lines : List Line
  top_lines =
      protected_line c o
      ∷ shared_line c o j.shared
      ∷ (recipient_lines general c.recipients o.keys j.own ++ last_lines c o)

  abbrev pub top_fields : List Field
  top_fields = table_fields top_lines

  top_texts : table_texts top_lines ≡ top_members general c
  unfolding top_lines protected_line shared_line table_texts content_texts top_members
  top_texts =
      ap (λ (z : List (List ℕ)).
      component_member (ascii "protected") c.protected ++ (header_member (ascii "unprotected") c.shared ++ z))
      (texts_append (recipient_lines general c.recipients o.keys j.own) (last_lines c o)
      ∙ ap₂ (λ (a b : List (List ℕ)). a ++ b)
      (recipient_texts general c.recipients o.keys j.own) (last_texts c o))

  -- The written text is the object of these members.
  pub json_text_lem : object_text top_fields ≡ json_text general c
  unfolding json_text
  json_text_lem = ap (bracketed curly) (table_texts_lem top_lines ∙ top_texts)
