-- A JSON message is refused as the table of its numbers says.
use mathlib.Core.Path.{◌≡◌, refl, sym, subst}
use mathlib.Core.Bool.{Bool, true, false, cond}
use mathlib.Core.Logic.{inl}
use mathlib.Core.List.{List, [], ◌∷◌, ◌++◌}
use Prim.Native.Nat.{ℕ}
use lib.ListN.{length}
use lib.Dec.{leb}
use borrow.Author.Tests.{ltb-false, le-ltb}
use Rattle.jwe.proofs.JsonOrder.{json_is}
use Rattle.prelude.specs.Ascii.{ascii}
use Rattle.grammar.specs.Bounds.{Every}
use Rattle.grammar.specs.Strings.{HasOctets}
use Rattle.grammar.specs.Readings.{Reading}
use Rattle.rows.specs.Rows.{Entry, present, value_of}
use Rattle.prelude.specs.Refusals.{Test, ◌if◌, first}
use Rattle.headers.specs.Headers.{text_order, header_text, outermost, object_order}
use Rattle.shape.specs.Shape.{member_names, component, Recipient}
use Rattle.shape.specs.Recipients.{top_entries, top_order, recipients_in, top_of, elements_order}
use Rattle.jwe.specs.General.{any_misspelled, is_hollow, protected_order, headers_order, recipients_order, content_order}
use Rattle.jwe.specs.General.{json_later, json_order}
use Rattle.meets.specs.Members.{Member, members_of}
use Rattle.meets.specs.Rules.{Present}
use Rattle.meets.specs.Meets.{Object, TopShape, Component}
use Rattle.meets.proofs.OneForOne.{OneForOne}
use Rattle.meets.proofs.Standing.{MemberStands}
use Rattle.meets.proofs.Rows.{unread_decides, outermost_stand}
use Rattle.meets.proofs.Deciding.{some_map, some_every, zip_with}
use Rattle.meets.proofs.NamesApart.{few_decided, distinct_decided}
use Rattle.meets.proofs.MemberEntries.{protected_number, unprotected_number, recipients_number}
use Rattle.meets.proofs.Lookups.{Lookup, missing, single, header_found}
use Rattle.meets.proofs.RecipientsDecided.{Holder, Formed, recipients_stand}
use Rattle.meets.proofs.ProtectedDecided.{hollow_where, order_is, protected_stands}
use Rattle.meets.proofs.EachRecipient.{plain_of}
use Rattle.meets.proofs.JsonDecided.{holds, look, header_is_lem, shared_stands}
use Rattle.refusals.specs.Table.{Table, rule, fork, Refuses}
use Rattle.refusals.specs.Numbers.{Key, Header, AllSpelled, text_table, headers_table, json_table}
use Rattle.refusals.proofs.Steps.{step, where_so, where_not}
use Rattle.refusals.proofs.ShapeRefuses.{shape_refuses}
use Rattle.refusals.proofs.SpelledRefuses.{Kept, all_spelled}
use Rattle.refusals.proofs.HeadersRefuse.{headers_refuse}

-- The rules from 5 on.
module _ (known : List (List ℕ)) (message : List ℕ) (recipient : ℕ) (reading : Reading 12 message) where
  abbrev pub spelled_table : List (List Member) → Table
  spelled_table rs =
      let ps = members_of reading.text.value in
      rule 5 (AllSpelled ps rs) λ c.
      fork (Present (ascii "protected") ps)
      (text_table c.0.0 λ hs. rule 10 (hs ≡ [] → ⊥) λ some. headers_table known ps rs c.5 recipient hs)
      (headers_table known ps rs c.5 recipient [])

module _ (known : List (List ℕ)) (message : List ℕ) (recipient : ℕ) (reading : Reading 12 message)
    (object : Object (members_of reading.text.value)) (shape : TopShape (members_of reading.text.value)) where
  abbrev ps : List Member
  ps = members_of reading.text.value

  abbrev es : List Entry
  es = top_entries message

  abbrev us : List Recipient
  us = recipients_in message es

  found : Header (ascii "unprotected") ps
  found =
      header_found message (ascii "unprotected") ps (value_of 2 es) (present 2 es) shape.unprotected
      (look message reading object 2 (ascii "unprotected") unprotected_number)

  module _ (rs : List (List Member)) (z : OneForOne (Kept message) rs us) (k : Every Key rs) where
    -- The rules and the tests from the protected header on.

    abbrev rest : List Member → Table
    rest hs = headers_table known ps rs k recipient hs

    abbrev protected_table : List ℕ → Table
    protected_table header =
        fork (Present (ascii "protected") ps)
        (text_table header λ hs. rule 10 (hs ≡ [] → ⊥) λ some. rest hs)
        (rest [])

    abbrev left : List ℕ → List Test
    left header =
        headers_order header message (top_of es) us
        ++ (recipients_order known header message (top_of es) us
        ++ (content_order header message (top_of es) us ++ (19 if leb (length us) recipient ∷ [])))

    module _ (header : List ℕ) (c : Component (ascii "protected") ps header) where
      rest_refuses : (hs : List Member) → OneForOne (MemberStands header) hs (outermost header) →
          Refuses (rest hs) (first (left header))
      rest_refuses =
          headers_refuse known header message recipient ps es rs us z k found
          (λ s. shared_stands message reading object shape s.0 s.1)

      abbrev One : Type 0
      One = Lookup message (ascii "protected") ps (value_of 1 es) (present 1 es)

      pub protected_refuses : Refuses (protected_table header) (first (protected_order (top_of es) header ++ left header))
      unfolding text_order
      protected_refuses = cases one
        where
          one : One
          one = look message reading object 1 (ascii "protected") protected_number

          by : (b : Bool) → present 1 es ≡ b →
              Refuses (protected_table header)
              (first (cond b (text_order header ++ (10 if is_hollow (outermost header) ∷ [])) [] ++ left header)) →
              Refuses (protected_table header) (first (protected_order (top_of es) header ++ left header))
          by b t r =
              subst (λ (xs : List Test). Refuses (protected_table header) (first (xs ++ left header)))
              (sym (order_is es header b t)) r

          cases : One → Refuses (protected_table header) (first (protected_order (top_of es) header ++ left header))
          cases (missing t a e) =
              by false t
              (where_not _ _ _
              (λ p. some_every (λ m. HasOctets m.name (ascii "protected"))
              (λ m. HasOctets m.name (ascii "protected") → ⊥) (λ m s n. n s) ps p a)
              (rest_refuses [] (protected_stands message ps es header one c [] (inl (a, refl)))))
          cases (single v t o) =
              by true t
              (where_so _ _ _
              (some_map (λ m. HasOctets m.name (ascii "protected") × (m.value ≡ v))
              (λ m. HasOctets m.name (ascii "protected")) (λ m s. s.0) ps o.named)
              (step 6 _ _ _ (ltb-false 4096 (length header), le-ltb 4096 (length header)) λ short.
              step 7 _ _ _ (unread_decides header) λ r.
              let hs = members_of r.text.value in
              let zp = outermost_stand header r in
              step 10 _ _ _ (hollow_where header hs (outermost header) zp) λ some.
              rest_refuses hs zp))

  -- 5, and from there on.

  abbrev tests : List ℕ → List Test
  tests header =
      protected_order (top_of es) header
      ++ (headers_order header message (top_of es) us
      ++ (recipients_order known header message (top_of es) us
      ++ (content_order header message (top_of es) us ++ (19 if leb (length us) recipient ∷ []))))

  pub spelled_refuses : (rs : List (List Member)) → OneForOne (Kept message) rs us →
      Refuses (spelled_table known message recipient reading rs)
      (first (5 if any_misspelled message es ∷ tests (header_text message (component 1 es))))
  spelled_refuses rs z =
      step 5 _ _ _ (all_spelled message reading object shape rs z) λ c.
      let same = header_is_lem message reading object (plain_of (ascii "protected") ps shape.protected) c.0.0 c.0.1
      c.0.2 in
      subst (λ (header : List ℕ). Refuses (protected_table rs z c.5 c.0.0) (first (tests header))) (sym same)
      (protected_refuses rs z c.5 c.0.0 c.0.2)

-- From the top level on.
order_refuses : (known : List (List ℕ)) (message : List ℕ) (recipient : ℕ) →
    let es = top_entries message in
    Refuses (json_table known message recipient)
    (first (top_order message
    ++ (elements_order message es
    ++ (5 if any_misspelled message es ∷ json_later known message (top_of es) (recipients_in message es) recipient))))
unfolding json_table json_later top_order object_order
order_refuses known message recipient =
    let es = top_entries message in
    step 7 _ _ _ (unread_decides message) λ r.
    let ps = members_of r.text.value in
    let h = holds message r in
    step 8 _ _ _ (few_decided member_names message 1 ps es h.entries) λ few.
    step 9 _ _ _ (distinct_decided member_names message 1 ps es h.entries) λ once.
    let object : Object ps = record { few = few; distinct = once } in
    let five = look message r object 5 (ascii "recipients") recipients_number in
    shape_refuses message ps es h object (λ g. spelled_table known message recipient r g.0) _
    (λ shape g formed.
    spelled_refuses known message recipient r object shape g.0
    (zip_with (Holder message) Formed g.0 (recipients_in message es)
    (recipients_stand message ps es five h shape.recipients g.0 g.1) formed))
    five

pub json_refuses : (known : List (List ℕ)) (message : List ℕ) (recipient : ℕ) →
    Refuses (json_table known message recipient) (first (json_order message known recipient))
json_refuses known message recipient =
    subst (λ (l : List Test). Refuses (json_table known message recipient) (first l)) (sym (json_is message known recipient))
    (order_refuses known message recipient)
