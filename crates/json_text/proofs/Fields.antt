-- Where an object or an array that is put together of made texts stands in a text: the reader finds its members or elements
-- where the texts before them end, and each of the texts stands there.
use mathlib.Core.Path.{◌≡◌, refl, sym, ap, ap₂, subst, ◌∙◌}
use mathlib.Core.List.{List, [], ◌∷◌, ◌++◌, map, append_assoc}
use Prim.Native.Nat.{ℕ, suc, ◌+◌, ◌≤◌}
use native.Mathlib.Omega.{arith}
use native.Mathlib.Nat.{add-zero}
use lib.ListN.{length, length-append, drop}
use lib.Dec.{T}
use Rattle.grammar.specs.Grammar.{quote, colon, comma, octets, leaves_sign, leaves_chars, leaves_str, curly, square}
use Rattle.grammar.specs.Grammar.{Value, leaves_label}
use Rattle.grammar.specs.Places.{Place, Placed, item, placed, place_name, start_of, size_of, kind_of, levels, Member}
use Rattle.grammar.specs.Places.{member_of, element_of, members, elements}
use Rattle.grammar.specs.Places as Places
use Rattle.grammar.specs.Reader.{members_at, elements_at}
use Rattle.grammar.specs.Shown.{Shown, Everywhere}
use Rattle.grammar.proofs.Scan.{halts, is_number_lem}
use Rattle.grammar.proofs.Positions.{Rest, rest_along, rest_next}
use Rattle.grammar.proofs.Shown.{everywhere}
use Rattle.json_text.specs.Pieces.{quoted, member_text, joined, bracketed}
use Rattle.json_text.specs.Inner.Placed.{moved}
use Rattle.json_text.proofs.Moved.{placed_moved}
use Rattle.json_text.proofs.Embedded.{Stands, here, shown_members, shown_elements}
use Rattle.json_text.proofs.Assembled.{slot_text, assembled_placed, parts_from}
use Rattle.json_text.proofs.Made.{Made, Field, Element, field_text, field_slot, element_slot, field_leaves}
use Rattle.json_text.proofs.Made.{element_leaves, fields_leaves, elements_leaves, object, array, object_levels}
use Rattle.json_text.proofs.Made.{object_is, array_is, array_levels, deepest_field, deepest_element, str_leaves}
use Rattle.json_text.proofs.Made.{chars_leaves, str_of}

-- The reader shows everything in a made text where it stands.
pub made_shows : (l : ℕ) {s : List ℕ} {m : ℕ} {w : List ℕ} (x : Made w) → Stands s m w → levels x.value ≤ l →
    Everywhere (Shown l s) (placed m x.value)
made_shows l {s} {m} {w} x h d =
    everywhere s l x.value m h.after (record { is = h.is ∙ ap (λ z. z ++ h.after) (sym x.spelled) })
    h.ends d x.pairs

-- Rows

-- Where the value of a member begins whose name begins, with its quotation mark, at octet n.
abbrev pub value_from : ℕ → Field → ℕ
value_from n f = n + length f.name + 3

-- The row of a member, and where the one behind it begins.
abbrev pub row_from : ℕ → Field → Member
row_from n f =
    let p = placed 0 f.made.value in
    record {
      name_start = n + 1;
      name_size = length f.name;
      value_start = value_from n f + start_of p;
      value_size = size_of p;
      kind = kind_of p;
    }

abbrev pub behind_field : ℕ → Field → ℕ
behind_field n f = value_from n f + length f.text + 1

unfoldable pub rows_from : ℕ → List Field → List Member
rows_from n [] = []
rows_from n (f ∷ fs) = row_from n f ∷ rows_from (behind_field n f) fs

abbrev pub element_from : ℕ → Element → Places.Element
element_from n x =
    let p = placed 0 x.made.value in
    record { start = n + start_of p; size = size_of p; kind = kind_of p }

unfoldable pub elements_from : ℕ → List Element → List Places.Element
elements_from n [] = []
elements_from n (x ∷ xs) = element_from n x ∷ elements_from (n + length x.text + 1) xs

label_length : (f : Field) → length (leaves_label curly (field_slot f).label) ≡ length f.name + 3
unfolding field_slot leaves_label leaves_sign octets quoted
label_length f =
    let e = length-append (leaves_str (str_of f.name f.plainly)) (colon ∷ []) in
    let g = ap length (str_leaves f.name f.plainly) in
    let k = length-append f.name (quote ∷ []) in
    omega arith

pub field_length : (f : Field) → length (field_text f) ≡ length f.name + 3 + length f.text
unfolding field_text member_text quoted
field_length f =
    let e = length-append (quoted f.name) (colon ∷ f.text) in
    let k = length-append f.name (quote ∷ []) in
    omega arith

member_moved : (q : Place) (m : ℕ) (p : Placed) → member_of q (moved m p) ≡ record {
  name_start = q.start;
  name_size = q.size;
  value_start = m + start_of p;
  value_size = size_of p;
  kind = kind_of p;
}
unfolding moved
member_moved q m (item k r ps) = refl

element_moved : (m : ℕ) (p : Placed) → element_of (moved m p)
    ≡ record { start = m + start_of p; size = size_of p; kind = kind_of p }
unfolding moved
element_moved m (item k r ps) = refl

pub placed_from : (m : ℕ) (v : Value) → placed m v ≡ moved m (placed 0 v)
placed_from m v = ap (λ k. placed k v) (sym (add-zero m)) ∙ placed_moved m v 0

name_length : (f : Field) → length (leaves_chars (field_slot f).label.name.chars) ≡ length f.name
unfolding field_slot str_of
name_length f = ap length (chars_leaves f.name f.plainly)

field_row : (n : ℕ) (f : Field) →
    member_of (record { start = n + 1; size = length (leaves_chars (field_slot f).label.name.chars) })
    (placed (n + length (leaves_label curly (field_slot f).label)) (field_slot f).value)
    ≡ row_from n f
unfolding field_slot
field_row n f =
    let v = f.made.value in
    let k : n + length (leaves_label curly (field_slot f).label) ≡ value_from n f = omega (arith, label_length f) in
    ap₂ (λ z q. member_of (record { start = n + 1; size = z }) q) (name_length f)
    (ap (λ z. placed z v) k ∙ placed_from (value_from n f) v)
    ∙ member_moved (record { start = n + 1; size = length f.name }) (value_from n f) (placed 0 v)

fields_rows : (n : ℕ) (fs : List Field) → members (parts_from curly n (map field_slot fs)) ≡ rows_from n fs
unfolding members parts_from rows_from place_name
fields_rows n [] = refl
fields_rows n (f ∷ fs) =
    let e : n + length (slot_text curly (field_slot f)) + 1 ≡ behind_field n f =
    omega (arith, ap length (field_leaves f), field_length f) in
    ap₂ ◌∷◌ (field_row n f)
    (ap (λ z. members (parts_from curly z (map field_slot fs))) e ∙ fields_rows (behind_field n f) fs)

element_row : (n : ℕ) (x : Element) → element_of (placed (n + length (leaves_label square (element_slot x).label))
    (element_slot x).value)
    ≡ element_from n x
unfolding element_slot leaves_label
element_row n x =
    let v = x.made.value in
    ap (λ z. element_of (placed z v)) (add-zero n)
    ∙ ap element_of (placed_from n v)
    ∙ element_moved n (placed 0 v)

elements_rows : (n : ℕ) (xs : List Element) → elements (parts_from square n (map element_slot xs)) ≡ elements_from n xs
unfolding elements parts_from elements_from place_name
elements_rows n [] = refl
elements_rows n (x ∷ xs) =
    let e : n + length (slot_text square (element_slot x)) + 1 ≡ n + length x.text + 1 =
    omega (arith, ap length (element_leaves x)) in
    ap₂ ◌∷◌ (element_row n x)
    (ap (λ z. elements (parts_from square z (map element_slot xs))) e ∙ elements_rows (n + length x.text + 1) xs)

-- The object that stands at octet m: what the reader finds there.

abbrev pub object_text : List Field → List ℕ
object_text fs = bracketed curly (map field_text fs)

abbrev pub array_text : List Element → List ℕ
array_text xs = bracketed square (map (λ x. x.text) xs)

pub object_placed : (m : ℕ) (fs : List Field) → placed m (object fs).value
    ≡ item 0 (record { start = m; size = length (object_text fs) }) (parts_from curly (m + 1) (map field_slot fs))
object_placed m fs =
    ap (placed m) (object_is fs)
    ∙ assembled_placed curly m (map field_slot fs)
    ∙ ap (λ z. item 0 (record { start = m; size = length (bracketed curly z) }) (parts_from curly (m + 1) (map field_slot fs)))
    (fields_leaves fs)

pub array_placed : (m : ℕ) (xs : List Element) → placed m (array xs).value
    ≡ item 1 (record { start = m; size = length (array_text xs) }) (parts_from square (m + 1) (map element_slot xs))
array_placed m xs =
    ap (placed m) (array_is xs)
    ∙ assembled_placed square m (map element_slot xs)
    ∙ ap (λ z. item 1 (record { start = m; size = length (bracketed square z) })
    (parts_from square (m + 1) (map element_slot xs))) (elements_leaves xs)

pub object_members : (l : ℕ) {s : List ℕ} {m : ℕ} (fs : List Field) → Stands s m (object_text fs) →
    suc (deepest_field fs) ≤ l → members_at l s m ≡ rows_from (m + 1) fs
object_members l {s} {m} fs h d =
    let shows = made_shows l (object fs) h (omega (arith, object_levels fs)) in
    let there = here _ _ (subst (Everywhere (Shown l s)) (object_placed m fs) shows) in
    shown_members l s _ there refl ∙ fields_rows (m + 1) fs

pub array_elements : (l : ℕ) {s : List ℕ} {m : ℕ} (xs : List Element) → Stands s m (array_text xs) →
    suc (deepest_element xs) ≤ l → elements_at l s m ≡ elements_from (m + 1) xs
array_elements l {s} {m} xs h d =
    let shows = made_shows l (array xs) h (omega (arith, array_levels xs)) in
    let there = here _ _ (subst (Everywhere (Shown l s)) (array_placed m xs) shows) in
    shown_elements l s _ there refl ∙ elements_rows (m + 1) xs

-- Where its texts stand.

-- The name of a member whose leaves begin at octet n, and its value's text.
pub record FieldStands (s : List ℕ) (n : ℕ) (f : Field) : Type 0 where
  pub name : Stands s (n + 1) f.name
  pub text : Stands s (value_from n f) f.text

unfoldable pub FieldsStand : List ℕ → ℕ → List Field → Type 0
FieldsStand s n [] = Unit {0}
FieldsStand s n (f ∷ fs) = FieldStands s n f × FieldsStand s (behind_field n f) fs

unfoldable pub ElementsStand : List ℕ → ℕ → List Element → Type 0
ElementsStand s n [] = Unit {0}
ElementsStand s n (x ∷ xs) = Stands s n x.text × ElementsStand s (n + length x.text + 1) xs

field_stands : {s : List ℕ} {n : ℕ} (f : Field) (b : List ℕ) → T (halts is_number_lem b) → Rest s n (field_text f ++ b) →
    FieldStands s n f
unfolding field_text member_text quoted
field_stands {s} {n} f b t h =
    let e : field_text f ++ b ≡ quote ∷ (f.name ++ (quote ∷ colon ∷ (f.text ++ b))) = simp append_assoc in
    let r : Rest s n (quote ∷ (f.name ++ (quote ∷ colon ∷ (f.text ++ b)))) = record { is = h.is ∙ e } in
    let r₁ = rest_next r in
    let r₂ = rest_next (rest_next (rest_along f.name r₁)) in
    let i : suc n ≡ n + 1 = omega arith in
    let j : suc (suc (suc n + length f.name)) ≡ value_from n f = omega arith in
    record {
      name = record { after = quote ∷ colon ∷ (f.text ++ b); is = ap (λ k. drop k s) (sym i) ∙ r₁.is; ends = tt };
      text = record { after = b; is = ap (λ k. drop k s) (sym j) ∙ r₂.is; ends = t };
    }

fields_stand : {s : List ℕ} {n : ℕ} (fs : List Field) (b : List ℕ) → T (halts is_number_lem b) →
    Rest s n (joined (map field_text fs) ++ b) → FieldsStand s n fs
unfolding joined FieldsStand
fields_stand [] b t h = tt
fields_stand (f ∷ []) b t h = (field_stands f b t h, tt)
fields_stand {s} {n} (f ∷ g ∷ gs) b t h =
    let r : Rest s n (field_text f ++ (comma ∷ (joined (map field_text (g ∷ gs)) ++ b))) =
    record { is = h.is ∙ append_assoc (field_text f) _ b } in
    let r₁ = rest_next (rest_along (field_text f) r) in
    let k : suc (n + length (field_text f)) ≡ behind_field n f = omega (arith, field_length f) in (
      field_stands f _ tt r,
      fields_stand {n = behind_field n f} (g ∷ gs) b t (subst (λ z. Rest s z (joined (map field_text (g ∷ gs)) ++ b)) k r₁),
    )

elements_stand : {s : List ℕ} {n : ℕ} (xs : List Element) (b : List ℕ) → T (halts is_number_lem b) →
    Rest s n (joined (map (λ (x : Element). x.text) xs) ++ b) → ElementsStand s n xs
unfolding joined ElementsStand
elements_stand [] b t h = tt
elements_stand (x ∷ []) b t h = (record { after = b; is = h.is; ends = t }, tt)
elements_stand {s} {n} (x ∷ y ∷ ys) b t h =
    let r : Rest s n (x.text ++ (comma ∷ (joined (map (λ (x : Element). x.text) (y ∷ ys)) ++ b))) =
    record { is = h.is ∙ append_assoc x.text _ b } in
    let r₁ = rest_next (rest_along x.text r) in
    let k : suc (n + length x.text) ≡ n + length x.text + 1 = omega arith in (
      record { after = _; is = r.is; ends = tt },
      elements_stand {n = n + length x.text + 1} (y ∷ ys) b t (subst (λ z. Rest s z (joined (map (λ (x : Element). x.text) (y ∷ ys)) ++ b)) k r₁),
    )

pub object_fields : {s : List ℕ} {m : ℕ} (fs : List Field) → Stands s m (object_text fs) → FieldsStand s (m + 1) fs
unfolding bracketed
object_fields {s} {m} fs h =
    let e : object_text fs ++ h.after ≡ 123 ∷ (joined (map field_text fs) ++ (125 ∷ h.after)) = simp append_assoc in
    let r : Rest s m (123 ∷ (joined (map field_text fs) ++ (125 ∷ h.after))) = record { is = h.is ∙ e } in
    let k : suc m ≡ m + 1 = omega arith in
    fields_stand fs (125 ∷ h.after) tt
    (subst (λ z. Rest s z (joined (map field_text fs) ++ (125 ∷ h.after))) k (rest_next r))

pub array_texts : {s : List ℕ} {m : ℕ} (xs : List Element) → Stands s m (array_text xs) → ElementsStand s (m + 1) xs
unfolding bracketed
array_texts {s} {m} xs h =
    let J = joined (map (λ (x : Element). x.text) xs) in
    let e : array_text xs ++ h.after ≡ 91 ∷ (J ++ (93 ∷ h.after)) = simp append_assoc in
    let r : Rest s m (91 ∷ (J ++ (93 ∷ h.after))) = record { is = h.is ∙ e } in
    let k : suc m ≡ m + 1 = omega arith in
    elements_stand xs (93 ∷ h.after) tt (subst (λ z. Rest s z (J ++ (93 ∷ h.after))) k (rest_next r))
