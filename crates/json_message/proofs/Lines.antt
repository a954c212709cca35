-- The members that an object may be written with as a table, one line each: its name, its number and what it holds. What is
-- shown of a table here is shown by its lines: the texts of its members, its levels, and which members are there.
use mathlib.Core.Path.{◌≡◌, refl, sym, ap, ap₂, ◌∙◌}
use mathlib.Core.List.{List, [], ◌∷◌, ◌++◌, map, map-append, append_assoc}
use mathlib.Core.Bool.{Bool, true, false, ◌&&◌, ◌||◌}
use mathlib.Core.Logic.{◌↔◌}
use Prim.Native.Nat.{ℕ, suc, max, ◌≤◌}
use native.Mathlib.Omega.{arith}
use lib.Dec.{T, eqb}
use Rattle.prelude.specs.Any.{any}
use Rattle.prelude.specs.Buffer.{AllBelow}
use Rattle.prelude.specs.Limits.{levels}
use Rattle.base64url.specs.Base64url.{encoded}
use Rattle.grammar.specs.Bounds.{Every}
use Rattle.names.specs.Names.{number_in}
use Rattle.shape.specs.Shape as shape
use Rattle.shape.specs.Shape.{member_names}
use Rattle.json_text.specs.Pieces.{quoted, member_text}
use Rattle.json_text.proofs.Made.{plain, made_reads, given, given_kind, string_levels, Field, Element, field_text, array}
use Rattle.json_text.proofs.Made.{array_levels, deepest_field, deepest_element}
use Rattle.json_text.proofs.Fields.{array_text}
use Rattle.json_message.specs.JsonText.{header_member, component_member}
use Rattle.json_message.specs.Handed.{is_there}
use Rattle.json_message.specs.Inner.Judged.{Judged}
use Rattle.json_message.specs.Inner.PiecesOrder.{hollow_text}
use Rattle.json_message.proofs.Fields.{encoded_plain, string_field, component_fields, header_fields, component_texts}
use Rattle.json_message.proofs.Fields.{header_texts}
use Rattle.json_message.proofs.FieldEntries.{has_number, any_append, or_false}
use Rattle.json_message.proofs.Located.{is_component}
use Rattle.json_message.proofs.Names.{Known, Sub, none, keep, skip, name_of}

-- What a member holds: a component, left out where it is empty; the ciphertext, which never is; a header's text, left out
-- where it is absent; an array.
pub data Content : Type 0 where
  a_component : (xs : List ℕ) → AllBelow 256 xs → Content
  a_ciphertext : (xs : List ℕ) → AllBelow 256 xs → Content
  a_header : (w : List ℕ) → Judged levels w → Content
  an_array : (xs : List Element) → Content

-- Which numbers it can have.
abbrev pub Suits : ℕ → Content → Type 0
Suits k (a_component xs b) = is_component k ≡ true
Suits k (a_ciphertext xs b) = (is_component k ≡ true) × (eqb k shape.ciphertext ≡ true)
Suits k (a_header w j) = (eqb k 0 ≡ false) × ((eqb k shape.unprotected || eqb k shape.header) ≡ true)
Suits k (an_array xs) = k ≡ shape.recipients

pub record Line : Type 0 where
  pub name : List ℕ
  pub number : ℕ
  pub known : Known name number
  pub content : Content
  pub suits : Suits number content

-- The member of a line, if it is there.
unfoldable pub content_fields : (name : List ℕ) → T (plain name) → Content → List Field
content_fields name p (a_component xs b) = component_fields name p xs b
content_fields name p (a_ciphertext xs b) = string_field name xs p b ∷ []
content_fields name p (a_header w j) = header_fields name p w j
content_fields name p (an_array xs) = record { name = name; text = array_text xs; plainly = p; made = array xs } ∷ []

abbrev pub line_fields : Line → List Field
line_fields l = content_fields l.name l.known.plainly l.content

unfoldable pub table_fields : List Line → List Field
table_fields [] = []
table_fields (l ∷ ls) = line_fields l ++ table_fields ls

-- Texts

unfoldable pub content_texts : List ℕ → Content → List (List ℕ)
content_texts name (a_component xs b) = component_member name xs
content_texts name (a_ciphertext xs b) = member_text name (quoted (encoded xs)) ∷ []
content_texts name (a_header w j) = header_member name w
content_texts name (an_array xs) = member_text name (array_text xs) ∷ []

unfoldable pub table_texts : List Line → List (List ℕ)
table_texts [] = []
table_texts (l ∷ ls) = content_texts l.name l.content ++ table_texts ls

content_texts_lem : (name : List ℕ) (p : T (plain name)) (x : Content) → map field_text (content_fields name p x) ≡ content_texts name x
unfolding content_fields content_texts string_field field_text
content_texts_lem name p (a_component xs b) = component_texts name p xs b
content_texts_lem name p (a_ciphertext xs b) = refl
content_texts_lem name p (a_header w j) = header_texts name p w j
content_texts_lem name p (an_array xs) = refl

pub table_texts_lem : (ls : List Line) → map field_text (table_fields ls) ≡ table_texts ls
unfolding table_fields table_texts
table_texts_lem [] = refl
table_texts_lem (l ∷ ls) =
    map-append field_text (line_fields l) (table_fields ls)
    ∙ ap₂ (λ (a b : List (List ℕ)). a ++ b) (content_texts_lem l.name l.known.plainly l.content) (table_texts_lem ls)

pub texts_append : (ls ks : List Line) → table_texts (ls ++ ks) ≡ table_texts ls ++ table_texts ks
unfolding table_texts
texts_append [] ks = refl
texts_append (l ∷ ls) ks =
    ap (λ (z : List (List ℕ)). content_texts l.name l.content ++ z) (texts_append ls ks)
    ∙ sym (append_assoc (content_texts l.name l.content) (table_texts ls) (table_texts ks))

-- Levels

-- What a line holds stands within so many levels.
abbrev pub Within : ℕ → Content → Type 0
Within n (a_component xs b) = Unit {0}
Within n (a_ciphertext xs b) = Unit {0}
Within n (a_header w j) = Judged n w
Within n (an_array xs) = suc (deepest_element xs) ≤ n

pub deepest_append : (fs gs : List Field) → deepest_field (fs ++ gs) ≡ max (deepest_field fs) (deepest_field gs)
unfolding deepest_field
deepest_append [] gs = omega arith
deepest_append (f ∷ fs) gs = let e = deepest_append fs gs in omega arith

content_deepest : (n : ℕ) (name : List ℕ) (p : T (plain name)) (x : Content) →
    (deepest_field (content_fields name p x) ≤ n) ↔ Within n x
unfolding deepest_field content_fields component_fields string_field header_fields
content_deepest n name p (a_component [] b) = ((λ h. tt), (λ h. omega arith))
content_deepest n name p (a_component (x ∷ xs) b) =
    let e = string_levels (encoded (x ∷ xs)) (encoded_plain (x ∷ xs) b) in
    ((λ h. tt), (λ h. omega arith))
content_deepest n name p (a_ciphertext xs b) =
    let e = string_levels (encoded xs) (encoded_plain xs b) in
    ((λ h. tt), (λ h. omega arith))
content_deepest n name p (a_header [] j) = ((λ h. tt), (λ h. omega arith))
content_deepest n name p (a_header (c ∷ w) j) =
    let m = made_reads n (c ∷ w) (given j) (given_kind j) in
    ((λ h. m.1 (omega arith)), (λ h. let k = m.0 h in omega arith))
content_deepest n name p (an_array xs) =
    let e = array_levels xs in
    ((λ h. omega arith), (λ h. omega arith))

pub table_deepest : (n : ℕ) (ls : List Line) → (deepest_field (table_fields ls) ≤ n) ↔ Every (λ l. Within n l.content) ls
unfolding deepest_field table_fields
table_deepest n [] = ((λ h. tt), (λ h. omega arith))
table_deepest n (l ∷ ls) =
    let e = deepest_append (line_fields l) (table_fields ls) in
    let x = content_deepest n l.name l.known.plainly l.content in
    let y = table_deepest n ls in (
      (λ h. (x.0 (omega arith), y.0 (omega arith))),
      (λ h. let a = x.1 h.0 in let b = y.1 h.1 in omega arith),
    )

-- Which members are there

abbrev pub there : Content → Bool
there (a_component xs b) = is_there xs
there (a_ciphertext xs b) = true
there (a_header w j) = is_there w
there (an_array xs) = true

abbrev pub has : ℕ → Line → Bool
has k l = eqb l.number k && there l.content

absent : (b : Bool) → false ≡ (b && false)
absent true = refl
absent false = refl

only : (b : Bool) → (b || false) ≡ (b && true)
only true = refl
only false = refl

content_has : (name : List ℕ) (p : T (plain name)) (m : ℕ) → number_in member_names name ≡ m → (k : ℕ) (x : Content) →
    any (has_number k) (content_fields name p x) ≡ (eqb m k && there x)
unfolding any content_fields component_fields string_field header_fields
content_has name p m e k (a_component [] b) = absent (eqb m k)
content_has name p m e k (a_component (x ∷ xs) b) = ap (λ q. eqb q k || false) e ∙ only (eqb m k)
content_has name p m e k (a_ciphertext xs b) = ap (λ q. eqb q k || false) e ∙ only (eqb m k)
content_has name p m e k (a_header [] j) = absent (eqb m k)
content_has name p m e k (a_header (c ∷ w) j) = ap (λ q. eqb q k || false) e ∙ only (eqb m k)
content_has name p m e k (an_array xs) = ap (λ q. eqb q k || false) e ∙ only (eqb m k)

line_has : (k : ℕ) (l : Line) → any (has_number k) (line_fields l) ≡ has k l
line_has k l = content_has l.name l.known.plainly l.number l.known.numbered k l.content

pub table_has : (k : ℕ) (ls : List Line) → any (has_number k) (table_fields ls) ≡ any (has k) ls
unfolding any table_fields
table_has k [] = refl
table_has k (l ∷ ls) = any_append (has_number k) (line_fields l) (table_fields ls) ∙ ap₂ ◌||◌ (line_has k l) (table_has k ls)

-- Where none has a number.

abbrev pub same_number : Line → Line → Bool
same_number l q = eqb q.number l.number

pub line_without : (k : ℕ) (l : Line) → eqb l.number k ≡ false → any (has_number k) (line_fields l) ≡ false
line_without k l e = line_has k l ∙ ap (λ b. b && there l.content) e

pub table_without : (k : ℕ) (ls : List Line) → any (λ q. eqb q.number k) ls ≡ false →
    any (has_number k) (table_fields ls) ≡ false
unfolding any table_fields
table_without k [] e = refl
table_without k (l ∷ ls) e =
    let w = or_false (eqb l.number k) (any (λ q. eqb q.number k) ls) e in
    any_append (has_number k) (line_fields l) (table_fields ls)
    ∙ ap₂ ◌||◌ (line_without k l w.0) (table_without k ls w.1)

-- Their names

content_sub : (name : List ℕ) (p : T (plain name)) (x : Content) (ys : List Field) {us : List (List ℕ)} →
    Sub (map name_of ys) us → Sub (map name_of (content_fields name p x ++ ys)) (name ∷ us)
unfolding content_fields component_fields string_field header_fields
content_sub name p (a_component [] b) ys h = skip h
content_sub name p (a_component (x ∷ xs) b) ys h = keep h
content_sub name p (a_ciphertext xs b) ys h = keep h
content_sub name p (a_header [] j) ys h = skip h
content_sub name p (a_header (c ∷ w) j) ys h = keep h
content_sub name p (an_array xs) ys h = keep h

abbrev pub line_name : Line → List ℕ
line_name l = l.name

pub table_sub : (ls : List Line) → Sub (map name_of (table_fields ls)) (map line_name ls)
unfolding table_fields
table_sub [] = none
table_sub (l ∷ ls) = content_sub l.name l.known.plainly l.content (table_fields ls) (table_sub ls)

-- A header without a member.
abbrev pub hollow_content : Content → Bool
hollow_content (a_component xs b) = false
hollow_content (a_ciphertext xs b) = false
hollow_content (a_header w j) = hollow_text w
hollow_content (an_array xs) = false

abbrev pub hollow_line : Line → Bool
hollow_line l = hollow_content l.content
