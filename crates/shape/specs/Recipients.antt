-- The members of a JSON message, its recipients and its components; its refusals 7 to 11.
use mathlib.Core.List.{List, [], ◌∷◌, ◌++◌, map, flat_map}
use Rattle.std.specs.Prelude.{Bool, cond, ℕ, length, ltb}
use Rattle.grammar.specs.Places.{Element}
use Rattle.grammar.specs.Reader.{members_at, elements_at}
use Rattle.rows.specs.Rows.{Entry, present, value_of}
use Rattle.prelude.specs.Refusals.{Test, ◌if◌}
use Rattle.prelude.specs.Limits.{levels, most_recipients}
use Rattle.headers.specs.Components.{Components, absent, with_key, flattened_form, general_form}
use Rattle.headers.specs.Headers.{unread, outermost, object_order}
use Rattle.shape.specs.Shape.{member_entries, protected, unprotected, recipients, iv, aad, ciphertext, tag, component, wrong_top}
use Rattle.shape.specs.Shape.{wrong_elements, wrong_element, Recipient, recipient_of}

-- The entries of the top level.
unfoldable pub top_entries : List ℕ → List Entry
top_entries message = member_entries message (outermost message)

-- 7; 8, 9, 10 on the top level.
unfoldable pub top_order : List ℕ → List Test
top_order message =
    let es = top_entries message in
    7 if unread message ∷ (object_order message es ++ (10 if wrong_top message es ∷ []))

-- The elements of `recipients`.
unfoldable pub elements_in : List ℕ → List Entry → List Element
elements_in message es = elements_at levels message (value_of recipients es).start

-- The entries of one of them.
unfoldable pub element_entries : List ℕ → ℕ → List Entry
element_entries message start = member_entries message (members_at levels message start)

-- 8, 9, 10 on an element.
unfoldable pub element_order : List ℕ → ℕ → List Test
element_order message start =
    let es = element_entries message start in
    object_order message es ++ (10 if wrong_element message es ∷ [])

-- 10 on `recipients` itself, still of the top level; 11; and 8, 9, 10 on each element in turn.
unfoldable pub elements_order : List ℕ → List Entry → List Test
elements_order message es =
    let xs = elements_in message es in
    cond (present recipients es)
    (10 if wrong_elements xs
    ∷ 11 if ltb most_recipients (length xs)
    ∷ flat_map (λ x. element_order message x.start) xs)
    []

-- The recipients: the elements of `recipients` where it is present (general), else the top level itself (flattened).
unfoldable pub recipients_in : List ℕ → List Entry → List Recipient
recipients_in message es =
    cond (present recipients es)
    (map (λ x. recipient_of (element_entries message x.start)) (elements_in message es))
    (recipient_of es ∷ [])

-- What the top level holds: the form, whether a protected header is there, where the shared header stands (0 where there is
-- none), and the components but the keys.
pub record Top : Type 0 where
  pub form : ℕ
  pub protected : Bool
  pub shared : ℕ
  pub components : Components

abbrev pub top_of : List Entry → Top
top_of es = record {
  form = cond (present recipients es) general_form flattened_form;
  protected = present protected es;
  shared = (value_of unprotected es).start;
  components = record {
    protected = component protected es;
    key = absent;
    iv = component iv es;
    aad = component aad es;
    ciphertext = component ciphertext es;
    tag = component tag es;
  };
}

-- The components of a recipient.
unfoldable pub components_in : Top → Recipient → Components
components_in t r = with_key t.components r.key
