-- What a JSON message hands out that no test refuses is what applies to the recipient: the top level or the n-th
-- element of `recipients` holds its own header, which is found there by its number.
use mathlib.Core.Path.{◌≡◌, refl, ap, sym, subst, ◌∙◌}
use mathlib.Core.List.{List, [], ◌∷◌, map}
use mathlib.Core.Bool.{Bool, false, cond}
use mathlib.Core.Logic.{inl, inr}
use Prim.Native.Nat.{ℕ, zero, suc, ◌<◌}
use native.Mathlib.Omega.{arith}
use lib.ListN.{length, length-map}
use borrow.Author.Tests.{not-false, eqb-true}
use Rattle.prelude.specs.Ascii.{ascii}
use Rattle.grammar.specs.Places.{Place, Placed, Parts, placed_text, start_of, kind_of, parts_of, Element, element_of, elements}
use Rattle.grammar.specs.Reader.{elements_at}
use Rattle.grammar.specs.Bounds.{Every}
use Rattle.grammar.specs.Readings.{Reading}
use Rattle.grammar.specs.Shown.{Shown, Everywhere, EverywhereIn}
use Rattle.grammar.proofs.Theorems.{read_shows}
use Rattle.prelude.specs.Any.{any}
use Rattle.rows.specs.Rows.{Entry, value_of, repeated, one_text}
use Rattle.jose.specs.HeaderRules.{is_empty}
use Rattle.headers.specs.Headers.{header_text, outermost, members_of, object_order}
use Rattle.shape.specs.Shape.{member_entries, protected, unprotected, header, component, Recipient, recipient_of}
use Rattle.shape.specs.Shape.{wrong_member, no_object, wrong_elements, wrong_in_element, wrong_element}
use Rattle.shape.specs.Recipients.{elements_in, element_entries, element_order, recipients_in}
use Rattle.jwe.specs.Judge.{asked}
use Rattle.meets.specs.Handed.{Rows, PartAt, RowsOf, RecipientAt, Applies, json}
use Rattle.meets.proofs.Deciding.{or_false, any_every}
use Rattle.meets.proofs.HandedOut.{shown_members, shown_elements}
use Rattle.meets.proofs.PlacedNames.{NamesStand, Unnamed, Sits, reading_names, reading_sits}
use Rattle.meets.proofs.MemberPlaced.{member_everywhere, part_everywhere, everywhere_here, everywhere_in}
use Rattle.meets.proofs.MemberPlaced.{entries_at, Missing, Found, member_at_lem, header_rows, element_at}
use Rattle.meets.proofs.MemberPlaced.{element_every}
use Rattle.meets.proofs.JsonPassed.{Passes, Passed}
use Rattle.meets.proofs.JsonHeaders.{name_header, name_recipients, own_object_lem, recipients_array, element_object}
use Rattle.meets.proofs.JsonHeaders.{members_pass, protected_applies, shared_applies}

module _ (message : List ℕ) (n : ℕ) (ps : Parts) (names : NamesStand message ps)
    (shown : EverywhereIn (Shown 12 message) ps) (sits : EverywhereIn (Sits message 1) ps)
    (passed : Passed message n (entries_at message ps)) where
  abbrev es : List Entry
  es = entries_at message ps

  all_pass : any (wrong_member message) es ≡ false
  all_pass = members_pass message n ps names shown sits passed

  -- The recipient, and its own header.

  abbrev OwnRows : Type 0
  OwnRows =
      (rs : Parts) × RecipientAt message ps n rs
      × RowsOf message (ascii "header") rs (members_of message (asked (recipients_in message es) n).header)

  -- The flattened form: the one recipient is the top level.
  pub one_asked : (r : Recipient) (k : ℕ) → k < 1 → asked (r ∷ []) k ≡ r
  unfolding asked
  one_asked r zero h = refl
  one_asked r (suc k) h = absurd (omega arith)

  flattened_applies : Missing message 4 (ascii "recipients") ps → OwnRows
  unfolding recipients_in
  flattened_applies m =
      let one : recipients_in message es ≡ recipient_of es ∷ [] =
      ap (λ (b : Bool). cond b (map (λ (x : Element). recipient_of (element_entries message x.start))
      (elements_in message es)) (recipient_of es ∷ [])) m.absent in
      let count = ap length one in
      let here = passed.asked in
      let e : asked (recipients_in message es) n ≡ recipient_of es =
      ap (λ (rs : List Recipient). asked rs n) one ∙ one_asked (recipient_of es) n (omega arith) in (
        ps,
        inl (m.none, refl),
        subst (λ (r : Recipient). RowsOf message (ascii "header") ps (members_of message r.header)) (sym e)
            (header_rows message 2 (ascii "header") name_header.0 name_header.1 ps names shown sits
            (wrong_member message) (own_object_lem message) all_pass),
      )

  -- The general form: it is an element.
  module _ (f : Found message 4 (ascii "recipients") ps) where
    abbrev array : Placed
    array = f.value

    abbrev recipient_at : Element → Recipient
    recipient_at x = recipient_of (element_entries message x.start)

    array_shown : Everywhere (Shown 12 message) array
    array_shown = member_everywhere (Shown 12 message) message (ascii "recipients") array ps f.there shown

    array_sits : Everywhere (Sits message 1) array
    array_sits = member_everywhere (Sits message 1) message (ascii "recipients") array ps f.there sits

    array_kind : kind_of array ≡ 1
    array_kind = recipients_array message _ f.number (f.passes (wrong_member message) all_pass)

    array_unnamed : Unnamed (parts_of array)
    array_unnamed = (everywhere_here (Sits message 1) array array_sits).unnamed array_kind

    array_elements : elements_in message es ≡ elements (parts_of array)
    unfolding elements_in
    array_elements =
        ap (λ (q : Place). elements_at 12 message q.start) f.valued
        ∙ shown_elements message array array_shown array_kind

    pub array_recipients : recipients_in message es ≡ map recipient_at (elements (parts_of array))
    unfolding recipients_in
    array_recipients =
        ap (λ (b : Bool). cond b (map recipient_at (elements_in message es)) (recipient_of es ∷ [])) f.present
        ∙ ap (map recipient_at) array_elements

    asked_inside : n < length (elements (parts_of array))
    asked_inside =
        let here = passed.asked in
        let count = ap length array_recipients in
        let mapped = length-map (elements (parts_of array)) recipient_at in
        omega arith

    pub asked_element : (x : Placed) × PartAt n x (parts_of array)
        × (asked (map recipient_at (elements (parts_of array))) n ≡ recipient_at (element_of x))
    unfolding asked
    asked_element =
        element_at asked (λ x xs. refl) (λ x xs k. refl) recipient_at (parts_of array) array_unnamed n asked_inside

    -- One element.
    module _ (x : Placed) (at : PartAt n x (parts_of array)) where
      pub element_shown : Everywhere (Shown 12 message) x
      element_shown =
          part_everywhere (Shown 12 message) n x (parts_of array) at
          (everywhere_in (Shown 12 message) array array_shown)

      pub element_sits : Everywhere (Sits message 1) x
      element_sits =
          part_everywhere (Sits message 1) n x (parts_of array) at (everywhere_in (Sits message 1) array array_sits)

      element_kind : kind_of x ≡ 0
      unfolding wrong_elements
      element_kind =
          let none = ((or_false (is_empty (elements_in message es)) (any no_object (elements_in message es))).0
          (passed.elements f.present).0).1 in
          let each = (any_every no_object (λ (y : Element). no_object y ≡ false) (λ y. ((λ e. e), (λ e. e)))
          (elements (parts_of array))).0 (ap (any no_object) (sym array_elements) ∙ none) in
          eqb-true (kind_of x) 0
          (not-false _ (element_every (λ (y : Element). no_object y ≡ false) (parts_of array) array_unnamed n x at each))

      pub element_entries_lem : element_entries message (start_of x) ≡ entries_at message (parts_of x)
      unfolding element_entries member_entries
      element_entries_lem = ap (member_entries message) (shown_members message x element_shown element_kind)

      element_order_lem : Every Passes (element_order message (start_of x))
      element_order_lem =
          element_every (λ (y : Element). Every Passes (element_order message y.start)) (parts_of array) array_unnamed
          n x at
          (subst (λ (xs : List Element). Every (λ (y : Element). Every Passes (element_order message y.start)) xs)
          array_elements (passed.elements f.present).1)

      element_passes : any (wrong_in_element message) (entries_at message (parts_of x)) ≡ false
      unfolding element_order object_order wrong_element
      element_passes = ap (any (wrong_in_element message)) (sym element_entries_lem) ∙ element_order_lem.1.1.0

      -- No name stands twice in it.
      pub element_distinct : repeated false (one_text message) (entries_at message (parts_of x)) ≡ false
      unfolding element_order object_order
      element_distinct = ap (repeated false (one_text message)) (sym element_entries_lem) ∙ element_order_lem.1.0

      element_own : RowsOf message (ascii "header") (parts_of x) (members_of message (recipient_at (element_of x)).header)
      element_own =
          subst (λ (fs : List Entry). RowsOf message (ascii "header") (parts_of x)
          (members_of message (value_of header fs).start)) (sym element_entries_lem)
          (header_rows message 2 (ascii "header") name_header.0 name_header.1 (parts_of x)
          (everywhere_here (Sits message 1) x element_sits).names
          (everywhere_in (Shown 12 message) x element_shown) (everywhere_in (Sits message 1) x element_sits)
          (wrong_in_element message) (element_object message) element_passes)

    general_applies : OwnRows
    general_applies =
        let w = asked_element in
        let x = w.0 in
        let e : asked (recipients_in message es) n ≡ recipient_at (element_of x) =
        ap (λ (rs : List Recipient). asked rs n) array_recipients ∙ w.2 in (
          parts_of x,
          inr (array, x, f.there, w.1, refl),
          subst (λ (r : Recipient). RowsOf message (ascii "header") (parts_of x) (members_of message r.header)) (sym e)
              (element_own x w.1),
        )

  own_applies : OwnRows
  own_applies =
      elim (member_at_lem message 4 (ascii "recipients") name_recipients.0 name_recipients.1 ps names)
      [ inl m ↦ flattened_applies m | inr f ↦ general_applies f ]

-- The rows that the entries hand out.
abbrev pub rows_for : List ℕ → ℕ → List Entry → Rows
rows_for message n es = record {
  protected = outermost (header_text message (component protected es));
  shared = members_of message (value_of unprotected es).start;
  own = members_of message (asked (recipients_in message es) n).header;
}

-- All of it.
pub rows_apply : (message : List ℕ) (n : ℕ) (r : Reading 12 message) →
    let es = entries_at message (parts_of (placed_text r.text)) in
    Passed message n es → Applies message n (header_text message (component protected es)) (rows_for message n es)
rows_apply message n r passed =
    let v = placed_text r.text in
    let ps = parts_of v in
    let names = reading_names message r in
    let shown = everywhere_in (Shown 12 message) v (read_shows 12 message r) in
    let sits = reading_sits message r in
    let own = own_applies message n ps names shown sits passed in
    json r (protected_applies message n ps names shown sits passed)
    (shared_applies message n ps names shown sits passed) own.0 own.1 own.2
