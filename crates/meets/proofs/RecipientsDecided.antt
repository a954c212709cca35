-- Refusals 8 to 11 on the recipients: the objects that hold their members stand one for one where the recipients of the
-- test do, and the tests on `recipients` and on each element decide their number and their shapes.
use mathlib.Core.Path.{◌≡◌, refl, ap, sym, subst, ◌∙◌}
use mathlib.Core.Bool.{Bool, true, false, cond}
use mathlib.Core.Logic.{◌↔◌, inl, inr}
use mathlib.Core.List.{List, [], ◌∷◌, ◌++◌, map, flat_map}
use Prim.Native.Nat.{ℕ, ◌≤◌}
use native.Mathlib.Omega.{arith}
use lib.ListN.{length, length-map}
use lib.Dec.{ltb}
use borrow.Author.Tests.{ltb-false, le-ltb}
use Rattle.prelude.specs.Ascii.{ascii}
use Rattle.grammar.specs.Grammar.{Value}
use Rattle.grammar.specs.Places.{kind, Place, Element}
use Rattle.grammar.specs.Strings.{HasOctets}
use Rattle.grammar.specs.Bounds.{Every}
use Rattle.grammar.specs.Reader.{elements_at}
use Rattle.prelude.specs.Any.{any}
use Rattle.rows.specs.Rows.{Entry, present, value_of}
use Rattle.prelude.specs.Refusals.{Test, ◌if◌, first}
use Rattle.headers.specs.Headers.{object_order}
use Rattle.shape.specs.Shape.{Recipient, recipient_of, wrong_element, wrong_elements}
use Rattle.shape.specs.Recipients.{elements_in, element_entries, element_order, elements_order, recipients_in}
use Rattle.meets.specs.Members.{Member, members_of, elements_of}
use Rattle.meets.specs.Rules.{EveryNamed}
use Rattle.meets.specs.Meets.{Object, Recipients, RecipientShape, RecipientsIn}
use Rattle.meets.proofs.OneForOne.{OneForOne, zip_length, zip_into, zip_every, zip_map_left, zip_map_right}
use Rattle.meets.proofs.Standing.{ElementStands}
use Rattle.meets.proofs.Rows.{elements_stand}
use Rattle.meets.proofs.Deciding.{every_map, zip_with}
use Rattle.meets.proofs.NamesApart.{object_decided}
use Rattle.meets.proofs.MemberEntries.{Holds, object_holds}
use Rattle.meets.proofs.Shapes.{IsArray}
use Rattle.meets.proofs.Lookups.{Only, Lookup, missing, single, of_only, only_named, only_there, none_named}
use Rattle.meets.proofs.ShapeDecided.{element_shape_decided, recipients_shape_decided}
use Rattle.meets.proofs.Orders.{Numbered, numbered_either, numbered_flat, none_append}
use Rattle.meets.proofs.Orders.{none_one, none_flat, every_made}

-- An object that holds a recipient's members, and the recipient of the test.
pub record Holder (message : List ℕ) (ms : List Member) (r : Recipient) : Type 0 where
  pub entries : List Entry
  pub holds : Holds message ms entries
  pub made : r ≡ recipient_of entries

-- What is asked of such an object.
abbrev pub Formed : List Member → Type 0
Formed ms = Object ms × RecipientShape ms

module _ (message : List ℕ) where
  -- 8, 9 and 10 on an element.
  object_shape_decided : (ms : List Member) (es : List Entry) → Holds message ms es →
      (first (object_order message es ++ (10 if wrong_element message es ∷ [])) ≡ 0) ↔ Formed ms
  unfolding object_order any
  object_shape_decided ms es h =
      let o = object_decided _ message 1 ms es h.entries in
      let s = element_shape_decided message ms es h.held in
      let a = none_append (object_order message es) (10 if wrong_element message es ∷ []) refl refl in
      let t = none_one 10 (wrong_element message es) refl in (
        (λ e. let u = a.0 e in (o.0 u.0, s.0 (t.0 u.1))),
        (λ k. a.1 (o.1 k.0, t.1 (s.1 k.1))),
      )

  -- Elements that are objects, and the entries of each.

  abbrev pub ObjectStands : Value → Element → Type 0
  ObjectStands v x = ElementStands message v x × (kind v ≡ 0)

  pub element_holds : (v : Value) (x : Element) → ObjectStands v x →
      Holds message (members_of v) (element_entries message x.start)
  unfolding element_entries
  element_holds v x r = object_holds message v x.start x.size r.0.stands r.1

  element_decided : (v : Value) (x : Element) → ObjectStands v x →
      Formed (members_of v) ↔ (first (element_order message x.start) ≡ 0)
  unfolding element_order
  element_decided v x r =
      let d = object_shape_decided (members_of v) (element_entries message x.start) (element_holds v x r) in
      (d.1, d.0)

  pub element_numbered : (at : ℕ) → Numbered (element_order message at)
  unfolding element_order object_order any
  element_numbered at = refl

-- The tests where there is `recipients`.

module _ (message : List ℕ) (es : List Entry) where
  abbrev xs : List Element
  xs = elements_at 12 message (value_of 5 es).start

  abbrev inside : List Test
  inside = flat_map (λ x. element_order message x.start) xs

  abbrev tests : List Test
  tests = 10 if wrong_elements xs ∷ 11 if ltb 8 (length xs) ∷ inside

  pub order_is : (b : Bool) → present 5 es ≡ b → elements_order message es ≡ cond b tests []
  unfolding elements_order elements_in
  order_is b e = ap (λ (c : Bool). cond c tests []) e

  inside_numbered : Numbered inside
  inside_numbered = numbered_flat (λ x. element_order message x.start) (λ x. element_numbered message x.start) xs

  pub elements_numbered : Numbered (elements_order message es)
  unfolding elements_order elements_in any
  elements_numbered = numbered_either (present 5 es) tests [] inside_numbered refl

  tests_decided : (first tests ≡ 0)
      ↔ ((wrong_elements xs ≡ false)
      × ((ltb 8 (length xs) ≡ false) × Every (λ x. first (element_order message x.start) ≡ 0) xs))
  unfolding any
  tests_decided =
      let a = none_append (10 if wrong_elements xs ∷ []) (11 if ltb 8 (length xs) ∷ inside) refl inside_numbered in
      let b = none_append (11 if ltb 8 (length xs) ∷ []) inside refl inside_numbered in
      let c = none_flat (λ x. element_order message x.start) (λ x. element_numbered message x.start) xs in
      let d = none_one 10 (wrong_elements xs) refl in
      let e = none_one 11 (ltb 8 (length xs)) refl in (
        (λ t. let h = a.0 t in let g = b.0 h.1 in (d.0 h.0, (e.0 g.0, c.0 g.1))),
        (λ t. a.1 (d.1 t.0, b.1 (e.1 t.1.0, c.1 t.1.1))),
      )

-- The top level and what is found there

module _ (message : List ℕ) (ps : List Member) (es : List Entry)
    (l : Lookup message (ascii "recipients") ps (value_of 5 es) (present 5 es)) where
  abbrev at : Place
  at = value_of 5 es

  abbrev ys : List Element
  ys = elements_at 12 message at.start

  pub recipients_found : (rs : List (List Member)) × RecipientsIn ps rs
  recipients_found = found l
    where
      found : Lookup message (ascii "recipients") ps (value_of 5 es) (present 5 es) →
          (rs : List (List Member)) × RecipientsIn ps rs
      found (missing t a e) = (ps ∷ [], inl (a, refl))
      found (single v t o) = (map members_of (elements_of v), inr (v, o.named, refl))

  pub objects_stand : (v : Value) → Only message (ascii "recipients") ps at v → Recipients v →
      OneForOne (ObjectStands message) (elements_of v) ys
  objects_stand v o r =
      zip_with (ElementStands message) (λ x. kind x ≡ 0) (elements_of v) ys
      (elements_stand message v at.start at.size o.stands r.0) r.2

  -- The recipients of the test.
  abbrev general : List Recipient
  general = map (λ x. recipient_of (element_entries message x.start)) ys

  recipients_are : (b : Bool) → present 5 es ≡ b → recipients_in message es ≡ cond b general (recipient_of es ∷ [])
  unfolding recipients_in elements_in
  recipients_are b e = ap (λ (c : Bool). cond c general (recipient_of es ∷ [])) e

  -- They stand one for one for the objects.
  pub recipients_stand : Holds message ps es → EveryNamed (ascii "recipients") Recipients ps →
      (rs : List (List Member)) → RecipientsIn ps rs → OneForOne (Holder message) rs (recipients_in message es)
  recipients_stand h shape rs i = cases l i
    where
      cases : Lookup message (ascii "recipients") ps (value_of 5 es) (present 5 es) → RecipientsIn ps rs →
          OneForOne (Holder message) rs (recipients_in message es)
      cases (missing t a e) (inl j) =
          subst (λ (us : List (List Member)). OneForOne (Holder message) us (recipients_in message es)) (sym j.1)
          (subst (λ (us : List Recipient). OneForOne (Holder message) (ps ∷ []) us) (sym (recipients_are false t))
          (record { entries = es; holds = h; made = refl }, tt))
      cases (missing t a e) (inr (u, n, j)) = absurd (none_named (ascii "recipients") ps u a n)
      cases (single v t o) (inl j) = absurd (only_there message (ascii "recipients") ps at v o j.0)
      cases (single v t o) (inr (u, n, j)) =
          let same = only_named message (ascii "recipients") ps at v o u n in
          let is : rs ≡ map members_of (elements_of v) = j ∙ ap (λ (x : Value). map members_of (elements_of x)) same in
          let z = objects_stand v o (of_only message (ascii "recipients") ps at v o Recipients shape) in
          let make : Element → Recipient = λ x. recipient_of (element_entries message x.start) in
          subst (λ (us : List (List Member)). OneForOne (Holder message) us (recipients_in message es)) (sym is)
          (subst (λ (us : List Recipient). OneForOne (Holder message) (map members_of (elements_of v)) us)
          (sym (recipients_are true t))
          ((zip_map_left (Holder message) members_of (elements_of v) general).0
          ((zip_map_right (λ x r. Holder message (members_of x) r) make (elements_of v) ys).0
          (zip_into (ObjectStands message) (λ x y. Holder message (members_of x) (make y))
          (λ x y r. record {
            entries = element_entries message y.start;
            holds = element_holds message x y r;
            made = refl;
          }) (elements_of v) ys z))))

  -- An element that is formed, and one whose tests pass.

  abbrev FormedValue : Value → Type 0
  FormedValue v = Formed (members_of v)

  abbrev Passes : Element → Type 0
  Passes x = first (element_order message x.start) ≡ 0

  -- 8 to 11 on the recipients, where the top level has passed.
  pub elements_order_decided : EveryNamed (ascii "recipients") IsArray ps → Formed ps → (rs : List (List Member)) →
      RecipientsIn ps rs →
      (first (elements_order message es) ≡ 0)
      ↔ (EveryNamed (ascii "recipients") Recipients ps × ((length rs ≤ 8) × Every Formed rs))
  unfolding first
  elements_order_decided arrays top rs i = cases l i
    where
      w : List ℕ
      w = ascii "recipients"

      cases : Lookup message (ascii "recipients") ps (value_of 5 es) (present 5 es) → RecipientsIn ps rs →
          (first (elements_order message es) ≡ 0)
          ↔ (EveryNamed (ascii "recipients") Recipients ps × ((length rs ≤ 8) × Every Formed rs))
      cases (missing t a e) (inl j) = (
        (λ f. (
          every_map (λ m. HasOctets m.name w → ⊥) (λ m. HasOctets m.name w → Recipients m.value)
              (λ m n h. absurd (n h)) ps a,
          (
            omega (arith, ap length j.1),
            subst (λ (us : List (List Member)). Every Formed us) (sym j.1) (top, tt),
          ),
        )),
        (λ h. ap first (order_is message es false t)),
      )
      cases (missing t a e) (inr (u, n, j)) = absurd (none_named w ps u a n)
      cases (single v t o) (inl j) = absurd (only_there message w ps at v o j.0)
      cases (single v t o) (inr (u, n, j)) =
          let same = only_named message w ps at v o u n in
          let is : rs ≡ map members_of (elements_of v) = j ∙ ap (λ (x : Value). map members_of (elements_of x)) same in
          let shape = recipients_shape_decided message ps at (present 5 es) l arrays in
          let array = of_only message w ps at v o IsArray arrays in
          let z = elements_stand message v at.start at.size o.stands array in
          let many : length rs ≡ length ys =
          ap length is ∙ length-map (elements_of v) members_of ∙ zip_length (ElementStands message) (elements_of v) ys z in
          let made = every_made members_of Formed (elements_of v) in
          let each : Recipients v → Every FormedValue (elements_of v) ↔ Every Passes ys =
          λ r.
          zip_every (ObjectStands message) FormedValue Passes (element_decided message) (elements_of v) ys
          (objects_stand v o r) in
          let these : Every Formed rs ↔ Every Formed (map members_of (elements_of v)) = (
            subst (λ (us : List (List Member)). Every Formed us) is,
            subst (λ (us : List (List Member)). Every Formed us) (sym is),
          ) in (
            (λ f.
                let g = (tests_decided message es).0 (ap first (sym (order_is message es true t)) ∙ f) in
                let all = shape.0 (λ c. g.0) in
                let few = ltb-false 8 (length ys) g.1.0 in (
                  all,
                  (
                    omega arith,
                    these.1 (made.1 ((each (of_only message w ps at v o Recipients all)).1 g.1.1)),
                  ),
                )),
            (λ h.
                let few = h.1.0 in
                ap first (order_is message es true t)
                ∙ (tests_decided message es).1 (
                  shape.1 h.0 t,
                  (
                    le-ltb 8 (length ys) (omega arith),
                    (each (of_only message w ps at v o Recipients h.0)).0 (made.0 (these.0 h.1.1)),
                  ),
                )),
          )
