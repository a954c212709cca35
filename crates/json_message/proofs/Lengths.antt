-- Each given text is a part of the message, and no longer: what the message may not exceed, no text of a message that is
-- written does.
use mathlib.Core.Path.{◌≡◌}
use mathlib.Core.List.{List, [], ◌∷◌, ◌++◌, map}
use mathlib.Core.Bool.{Bool, true, false}
use Prim.Native.Nat.{ℕ, zero, suc, ◌+◌, ◌≤◌, ◌<◌}
use native.Mathlib.Omega.{arith}
use lib.ListN.{length, length-append}
use Rattle.prelude.specs.Ascii.{ascii}
use Rattle.base64url.specs.Base64url.{encoded}
use Rattle.base64url.proofs.Laws.{encoded_length_lem}
use Rattle.grammar.specs.Bounds.{Every}
use Rattle.grammar.specs.Grammar.{quote, colon, comma, Bracket, curly, square, closing}
use Rattle.json_text.specs.Pieces.{quoted, member_text, joined, bracketed}
use Rattle.recipients.specs.Table.{RawRecipient}
use Rattle.json_message.specs.JsonText.{RawMessage, header_member, component_member, own_members, element_text}
use Rattle.json_message.specs.JsonText.{recipient_members, top_members, json_text}
use Rattle.json_message.specs.WriteOrder.{most_for}
use Rattle.json_message.specs.Handed.{numbered_recipient}
use Rattle.json_message.proofs.Readable.{Counts, counted}

-- How long texts are together, and that commas and brackets only add to it.

total : List (List ℕ) → ℕ
total [] = 0
total (w ∷ ws) = length w + total ws

total_append : (ws us : List (List ℕ)) → total (ws ++ us) ≡ total ws + total us
unfolding total
total_append [] us = omega arith
total_append (w ∷ ws) us = omega (arith, total_append ws us)

joined_total : (ws : List (List ℕ)) → total ws ≤ length (joined ws)
unfolding total joined
joined_total [] = omega arith
joined_total (w ∷ []) = omega arith
joined_total (w ∷ u ∷ ws) =
    let rest = joined_total (u ∷ ws) in
    let e = length-append w (comma ∷ joined (u ∷ ws)) in
    omega arith

bracketed_total : (b : Bracket) (ws : List (List ℕ)) → total ws ≤ length (bracketed b ws)
unfolding bracketed
bracketed_total b ws =
    let inside = joined_total ws in
    let e = length-append (joined ws) (closing b ∷ []) in
    omega arith

-- Members

quoted_longer : (w : List ℕ) → length w ≤ length (quoted w)
unfolding quoted
quoted_longer w = omega (arith, length-append w (quote ∷ []))

member_longer : (name w : List ℕ) → length w ≤ length (member_text name w)
unfolding member_text
member_longer name w = omega (arith, length-append (quoted name) (colon ∷ w))

header_longer : (name w : List ℕ) → length w ≤ total (header_member name w)
unfolding total header_member
header_longer name [] = omega arith
header_longer name (c ∷ w) = omega (arith, member_longer name (c ∷ w))

component_longer : (name xs : List ℕ) → length xs ≤ total (component_member name xs)
unfolding total component_member
component_longer name [] = omega arith
component_longer name (x ∷ xs) =
    let spelled = encoded_length_lem (x ∷ xs) in
    let inside = quoted_longer (encoded (x ∷ xs)) in
    let outside = member_longer name (quoted (encoded (x ∷ xs))) in
    omega arith

-- Recipients

own_longer : (r : RawRecipient) → length r.header ≤ total (own_members r)
unfolding own_members
own_longer r =
    let H = header_member (ascii "header") r.header in
    omega (arith, total_append H (component_member (ascii "encrypted_key") r.key), header_longer (ascii "header") r.header)

element_longer : (r : RawRecipient) → length r.header ≤ length (element_text r)
unfolding element_text
element_longer r = omega (arith, own_longer r, bracketed_total curly (own_members r))

abbrev pub OwnWithin : ℕ → List RawRecipient → Type 0
OwnWithin n rs = Every (λ r. length r.header ≤ n) rs

elements_within : (n : ℕ) (rs : List RawRecipient) → total (map element_text rs) ≤ n → OwnWithin n rs
unfolding total
elements_within n [] h = tt
elements_within n (r ∷ rs) h = (omega (arith, element_longer r), elements_within n rs (omega arith))

members_within : (general : Bool) (n : ℕ) (rs : List RawRecipient) → Counts general rs → total (recipient_members general rs) ≤ n →
    OwnWithin n rs
unfolding recipient_members total
members_within true n rs k h =
    let array = bracketed square (map element_text rs) in
    elements_within n rs
    (omega (arith, bracketed_total square (map element_text rs), member_longer (ascii "recipients") array))
members_within false n [] k h = absurd k
members_within false n (r ∷ []) k h = (omega (arith, own_longer r), tt)
members_within false n (r ∷ s ∷ rs) k h = absurd k

-- By its number.
numbered_within : (m : ℕ) (rs : List RawRecipient) (n : ℕ) → OwnWithin m rs → n < length rs →
    length (numbered_recipient rs n).header ≤ m
unfolding numbered_recipient
numbered_within m [] n h l = absurd (omega arith)
numbered_within m (r ∷ rs) zero h l = h.0
numbered_within m (r ∷ rs) (suc n) h l = numbered_within m rs n h.1 (omega arith)

-- The whole

module _ (general : Bool) (c : RawMessage) where
  abbrev P : List (List ℕ)
  P = component_member (ascii "protected") c.protected

  abbrev H : List (List ℕ)
  H = header_member (ascii "unprotected") c.shared

  abbrev M : List (List ℕ)
  M = recipient_members general c.recipients

  abbrev rest : List (List ℕ)
  rest =
      component_member (ascii "aad") c.aad
      ++ (component_member (ascii "iv") c.iv
      ++ (member_text (ascii "ciphertext") (quoted (encoded c.ciphertext)) ∷ component_member (ascii "tag") c.tag))

  three_within : total P + (total H + total M) ≤ length (json_text general c)
  unfolding json_text top_members
  three_within =
      let whole = bracketed_total curly (top_members general c) in
      let e = total_append P (H ++ (M ++ rest)) in
      let f = total_append H (M ++ rest) in
      let g = total_append M rest in
      omega (arith, whole, e, f, g)

  pub protected_within : length c.protected ≤ length (json_text general c)
  protected_within = omega (arith, three_within, component_longer (ascii "protected") c.protected)

  pub shared_within : length c.shared ≤ length (json_text general c)
  shared_within = omega (arith, three_within, header_longer (ascii "unprotected") c.shared)

  module _ (some : 1 ≤ length c.recipients) (few : length c.recipients ≤ most_for general) where
    pub every_within : OwnWithin (length (json_text general c)) c.recipients
    every_within =
        members_within general (length (json_text general c)) c.recipients (counted general c.recipients some few)
        (omega (arith, three_within))

    pub own_within : (n : ℕ) → n < length c.recipients →
        length (numbered_recipient c.recipients n).header ≤ length (json_text general c)
    own_within n below = numbered_within (length (json_text general c)) c.recipients n every_within below
