-- Members: what they are made of, in the order in which they are written.
use Rattle.std.proofs.Common.{◌≡◌, refl, ap, ap₂, sym, ◌∙◌, Bool, true, false, List, [], ◌∷◌, ◌++◌, map, append_assoc, ℕ, ◌==◌, length, arith}
use Rattle.std.proofs.lemmas.Bool.{eqb-true}
use mathlib.Core.Bool.{true≢false}
use Rattle.prelude.specs.Ascii.{ascii}
use Rattle.grammar.specs.Grammar.{curly, quote, colon}
use Rattle.recipients.specs.Table.{RawRecipient}
use Rattle.recipients.specs.Parsed.{recipients_in, sound_table}
use Rattle.recipients.specs.declared.Body.{Body}
use Rattle.recipients.specs.Inner.Answers.{body_at, shown, bodies_left}
use Rattle.recipients.proofs.Places.{recipients_next, sound_some}
use Rattle.recipients.proofs.Left.{shown_is, shown_left}
use Rattle.json_text.specs.Pieces.{quoted, member_text, bracketed}
use Rattle.json_message.specs.JsonText.{header_member, component_member, own_members, element_text, recipient_members, top_members, json_text}
use Rattle.json_message.specs.JsonWrite.{message_of, written_text}
use Rattle.json_put.specs.Inner.Members.{name_text, encoded_member, head_members, tail_members, all_members, raw_of}
use Rattle.json_put.specs.declared.message.Message.{Message}

-- Members

module _ (name : List ℕ) where
  pub header_absent : (text : List ℕ) → (length text == 0) ≡ true → header_member name text ≡ []
  unfolding header_member
  header_absent [] e = refl
  header_absent (c ∷ w) e = absurd (omega (arith, eqb-true (length (c ∷ w)) 0 e))

  pub header_present : (text : List ℕ) → (length text == 0) ≡ false → header_member name text ≡ member_text name text ∷ []
  unfolding header_member
  header_present [] n = absurd (true≢false n)
  header_present (c ∷ w) n = refl

  pub component_absent : (octets : List ℕ) → (length octets == 0) ≡ true → component_member name octets ≡ []
  unfolding component_member
  component_absent [] e = refl
  component_absent (x ∷ xs) e = absurd (omega (arith, eqb-true (length (x ∷ xs)) 0 e))

  pub component_present : (octets : List ℕ) → (length octets == 0) ≡ false → component_member name octets ≡ encoded_member name octets
  unfolding component_member encoded_member
  component_present [] n = absurd (true≢false n)
  component_present (x ∷ xs) n = refl

  -- a name in its order, and a member
  pub name_is : name_text name ≡ quote ∷ (name ++ (quote ∷ (colon ∷ [])))
  unfolding name_text quoted
  name_is = ap (λ (l : List ℕ). quote ∷ l) (append_assoc name (quote ∷ []) (colon ∷ []))

  pub member_is : (w : List ℕ) → member_text name w ≡ name_text name ++ w
  unfolding name_text member_text
  member_is w = sym (append_assoc (quoted name) (colon ∷ []) w)

-- A recipient

-- its members, by its header and its key
pub own_is : (x : RawRecipient) (header key : List ℕ) → header ≡ x.header → key ≡ x.key →
    own_members x ≡ header_member (ascii "header") header ++ component_member (ascii "encrypted_key") key
unfolding own_members
own_is x header key p q =
    sym (ap₂ (λ (h k : List ℕ). header_member (ascii "header") h ++ component_member (ascii "encrypted_key") k) p q)

-- flattened, the members are those of the first recipient
pub flat_members : (t : List ℕ) → sound_table t ≡ true → (many : Bool) → many ≡ false → (b : Body) → b ≡ body_at t 0 →
    recipient_members many (recipients_in t) ≡ own_members (shown t b)
unfolding recipient_members
flat_members t sound many e b at =
    ap (λ (m : Bool). recipient_members m (recipients_in t)) e
    ∙ ap (recipient_members false) (recipients_next t 0 (omega (arith, sound_some t sound)))
    ∙ ap own_members (sym (shown_is t 0) ∙ ap (shown t) (sym at))

-- The elements of the recipients that stand at these places; all of them
abbrev pub texts_of : List ℕ → List Body → List (List ℕ)
texts_of t bs = map element_text (map (shown t) bs)

pub texts_all : (t : List ℕ) → texts_of t (bodies_left t 0) ≡ map element_text (recipients_in t)
texts_all t = ap (map element_text) (shown_left t)

-- The message
module _ (general : Bool) (m : Message) where
  members_are : top_members general (message_of (raw_of m)) ≡ all_members general m
  unfolding top_members head_members tail_members encoded_member
  members_are = simp append_assoc

  pub text_is : written_text general (raw_of m) ≡ bracketed curly (all_members general m)
  unfolding json_text
  text_is = ap (bracketed curly) members_are
