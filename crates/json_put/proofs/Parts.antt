-- The parts that each function writes, one behind the other.
use Rattle.std.proofs.Common.{◌≡◌, List, [], ◌∷◌, ◌++◌, map, ℕ, Bool, true, false, ap, sym, subst, refl, ◌∙◌, append-nil}
use Rattle.prelude.specs.Ascii.{ascii}
use Rattle.base64url.specs.Base64url.{encoded}
use Rattle.grammar.specs.Grammar.{Bracket, curly, square, opening, closing, quote, colon}
use Rattle.recipients.specs.Table.{RawRecipient}
use Rattle.recipients.specs.declared.Body.{Body}
use Rattle.recipients.specs.Parsed.{recipients_in}
use Rattle.recipients.specs.Inner.Answers.{shown, bodies_left}
use Rattle.json_text.specs.Pieces.{quoted, member_text, bracketed}
use Rattle.json_text.specs.Inner.Led.{led, led_one}
use Rattle.json_text.proofs.Led.{one_apart, led_one_lem, bracketed_led}
use Rattle.json_message.specs.JsonText.{header_member, component_member, own_members, element_text, recipient_members}
use Rattle.json_message.specs.JsonWrite.{written_text}
use Rattle.json_put.specs.Inner.Laws.{Laws}
use Rattle.json_put.specs.Inner.Members.{name_text, encoded_member, head_members, tail_members, all_members, raw_of, Point, Room, Puts}
use Rattle.json_put.specs.declared.message.Message.{Message}
use Rattle.json_put.proofs.Members.{name_is, member_is, own_is, text_is, texts_of, texts_all}
use Rattle.json_put.proofs.Putting.{Putting, flat, start, apart, member_laws}

-- A member alone, behind the comma: its name, and its value.
led_front : (begun : Bool) (xs ys : List ℕ) → led_one begun (xs ++ ys) ≡ led_one begun xs ++ ys
led_front true xs ys = refl
led_front false xs ys = refl

member_apart : (begun : Bool) (name v : List ℕ) → led begun (member_text name v ∷ []) ≡ led_one begun (name_text name) ++ v
member_apart begun name v =
    led_one_lem begun (member_text name v) ∙ ap (led_one begun) (member_is name v) ∙ led_front begun (name_text name) v

-- A text in brackets
brackets : (b : Bracket) (ws : List (List ℕ)) → bracketed b ws ≡ (opening b ∷ []) ++ (led false ws ++ ((closing b ∷ []) ++ []))
brackets b ws = bracketed_led b ws

module _ {S : Type 0} {fits : S → List ℕ → Type 0} {gains : S → List ℕ → S → Type 0} (laws : Laws fits gains) (w : Point S) where
  pub name_parts : (name : List ℕ) → fits w.sink (led_one w.begun (name_text name)) →
      Putting fits gains w.sink (led_one w.begun (name_text name))
      (led_one w.begun [] ∷ (quote ∷ []) ∷ name ∷ (quote ∷ colon ∷ []) ∷ []) w.sink
  name_parts name h =
      let all = ap (λ (l : List ℕ). led_one w.begun [] ++ l) (sym (name_is name)) ∙ sym (one_apart w.begun (name_text name)) in
      start laws w.sink (led_one w.begun (name_text name))
      (led_one w.begun [] ∷ (quote ∷ []) ∷ name ∷ (quote ∷ colon ∷ []) ∷ []) all h

  pub value_parts : (name v : List ℕ) → Room fits w (member_text name v ∷ []) →
      Putting fits gains w.sink (led w.begun (member_text name v ∷ [])) (led_one w.begun (name_text name) ∷ v ∷ []) w.sink
  value_parts name v h =
      let all = ap (λ (l : List ℕ). led_one w.begun (name_text name) ++ l) (append-nil v) ∙ sym (member_apart w.begun name v) in
      start laws w.sink (led w.begun (member_text name v ∷ [])) (led_one w.begun (name_text name) ∷ v ∷ []) all h

  pub encoded_parts : (name octets : List ℕ) → Room fits w (encoded_member name octets) →
      Putting fits gains w.sink (led w.begun (encoded_member name octets))
      (led_one w.begun (name_text name) ∷ (quote ∷ []) ∷ encoded octets ∷ (quote ∷ []) ∷ []) w.sink
  unfolding encoded_member quoted
  encoded_parts name octets h =
      start laws w.sink (led w.begun (encoded_member name octets))
      (led_one w.begun (name_text name) ∷ (quote ∷ []) ∷ encoded octets ∷ (quote ∷ []) ∷ [])
      (sym (member_apart w.begun name (quoted (encoded octets)))) h

  pub element_parts : (x : RawRecipient) → Room fits w (element_text x ∷ []) →
      Putting fits gains w.sink (led w.begun (element_text x ∷ []))
      (led_one w.begun [] ∷ (opening curly ∷ []) ∷ led false (own_members x) ∷ (closing curly ∷ []) ∷ []) w.sink
  unfolding element_text
  element_parts x h =
      let all =
      ap (λ (l : List ℕ). led_one w.begun [] ++ l) (sym (brackets curly (own_members x)))
      ∙ sym (one_apart w.begun (element_text x)) ∙ sym (led_one_lem w.begun (element_text x)) in
      start laws w.sink (led w.begun (element_text x ∷ []))
      (led_one w.begun [] ∷ (opening curly ∷ []) ∷ led false (own_members x) ∷ (closing curly ∷ []) ∷ []) all h

  pub general_parts : (rs : List RawRecipient) → Room fits w (recipient_members true rs) →
      Putting fits gains w.sink (led w.begun (recipient_members true rs))
      (led_one w.begun (name_text (ascii "recipients")) ∷ (opening square ∷ []) ∷ led false (map element_text rs) ∷ (closing square ∷ []) ∷ [])
      w.sink
  unfolding recipient_members
  general_parts rs h =
      let name = ascii "recipients" in
      let all =
      ap (λ (l : List ℕ). led_one w.begun (name_text name) ++ l) (sym (brackets square (map element_text rs)))
      ∙ sym (member_apart w.begun name (bracketed square (map element_text rs))) in
      start laws w.sink (led w.begun (recipient_members true rs))
      (led_one w.begun (name_text name) ∷ (opening square ∷ []) ∷ led false (map element_text rs) ∷ (closing square ∷ []) ∷ []) all h

  -- Members

  pub own_parts : (x : RawRecipient) (header key : List ℕ) → header ≡ x.header → key ≡ x.key → Room fits w (own_members x) →
      Putting (Room fits) (Puts gains) w (own_members x)
      (header_member (ascii "header") header ∷ component_member (ascii "encrypted_key") key ∷ []) w
  own_parts x header key p q h =
      let first = header_member (ascii "header") header in
      let second = component_member (ascii "encrypted_key") key in
      start (member_laws laws) w (own_members x) (first ∷ second ∷ [])
      (ap (λ (l : List (List ℕ)). first ++ l) (append-nil second) ∙ sym (own_is x header key p q)) h

  module _ (m : Message) where
    pub head_parts : (many : Bool) → Room fits w (head_members many m) →
        Putting (Room fits) (Puts gains) w (head_members many m)
        (component_member (ascii "protected") m.protected.now ∷ header_member (ascii "unprotected") m.shared.now
        ∷ recipient_members many (recipients_in m.recipients.now) ∷ []) w
    unfolding head_members
    head_parts many h =
        let protected = component_member (ascii "protected") m.protected.now in
        let shared = header_member (ascii "unprotected") m.shared.now in
        let rest = recipient_members many (recipients_in m.recipients.now) in
        start (member_laws laws) w (head_members many m) (protected ∷ shared ∷ rest ∷ [])
        (ap (λ (l : List (List ℕ)). protected ++ (shared ++ l)) (append-nil rest)) h

    pub tail_parts : Room fits w (tail_members m) →
        Putting (Room fits) (Puts gains) w (tail_members m)
        (component_member (ascii "aad") m.aad.now ∷ component_member (ascii "iv") m.iv.now
        ∷ encoded_member (ascii "ciphertext") m.ciphertext.now ∷ component_member (ascii "tag") m.tag.now ∷ []) w
    unfolding tail_members
    tail_parts h =
        let aad = component_member (ascii "aad") m.aad.now in
        let iv = component_member (ascii "iv") m.iv.now in
        let text = encoded_member (ascii "ciphertext") m.ciphertext.now in
        let tag = component_member (ascii "tag") m.tag.now in
        start (member_laws laws) w (tail_members m) (aad ∷ iv ∷ text ∷ tag ∷ [])
        (ap (λ (l : List (List ℕ)). aad ++ (iv ++ (text ++ l))) (append-nil tag)) h

    pub all_parts : (many : Bool) → Room fits w (all_members many m) →
        Putting (Room fits) (Puts gains) w (all_members many m) (head_members many m ∷ tail_members m ∷ []) w
    all_parts many h =
        start (member_laws laws) w (all_members many m) (head_members many m ∷ tail_members m ∷ [])
        (ap (λ (l : List (List ℕ)). head_members many m ++ l) (append-nil (tail_members m))) h

  -- Elements, of which those at the places bs are still to come

  pub texts_parts : (t : List ℕ) (bs : List Body) → bs ≡ bodies_left t 0 → Room fits w (map element_text (recipients_in t)) →
      Putting (Room fits) (Puts gains) w (map element_text (recipients_in t)) (texts_of t bs ∷ []) w
  texts_parts t bs e h =
      start (member_laws laws) w (map element_text (recipients_in t)) (texts_of t bs ∷ [])
      (append-nil (texts_of t bs) ∙ ap (texts_of t) e ∙ texts_all t) h

module _ {S : Type 0} {fits : S → List (List ℕ) → Type 0} {gains : S → List (List ℕ) → S → Type 0} {from now : S} {all : List (List ℕ)}
    (t : List ℕ) (bs : List Body) where
  pub texts_next : (b : Body) (rest : List Body) → bs ≡ b ∷ rest → Putting fits gains from all (texts_of t bs ∷ []) now →
      Putting fits gains from all ((element_text (shown t b) ∷ []) ∷ texts_of t rest ∷ []) now
  texts_next b rest e p =
      apart {x = element_text (shown t b) ∷ []} {y = texts_of t rest} (texts_of t bs) (ap (texts_of t) e) p

  pub texts_end : bs ≡ [] → Putting fits gains from all (texts_of t bs ∷ []) now → gains from all now
  texts_end e p =
      let none : flat (texts_of t bs ∷ []) ≡ [] = append-nil (texts_of t bs) ∙ ap (texts_of t) e in
      p.end now (subst (λ (l : List (List ℕ)). gains now l now) (sym none) (p.laws.none now))

-- The message
pub text_parts : {S : Type 0} {fits : S → List ℕ → Type 0} {gains : S → List ℕ → S → Type 0} → Laws fits gains →
    (s : S) (m : Message) (many : Bool) → fits s (written_text many (raw_of m)) →
    Putting fits gains s (written_text many (raw_of m))
    ((opening curly ∷ []) ∷ led false (all_members many m) ∷ (closing curly ∷ []) ∷ []) s
text_parts laws s m many h =
    start laws s (written_text many (raw_of m)) ((opening curly ∷ []) ∷ led false (all_members many m) ∷ (closing curly ∷ []) ∷ [])
    (sym (brackets curly (all_members many m)) ∙ sym (text_is many m)) h
