-- Where the components and the headers of a written object stand, by their numbers, and that it keeps the rules on its shape
-- but for headers without a member.
use mathlib.Core.Path.{◌≡◌, refl, sym, ap, ap₂, subst, ◌∙◌}
use mathlib.Core.List.{List, [], ◌∷◌, ◌++◌, append_assoc}
use mathlib.Core.Bool.{Bool, true, false, not, ◌&&◌, ◌||◌, cond, true≢false}
use Prim.Native.Nat.{ℕ, suc, ◌+◌, ◌-◌, ◌≤◌}
use native.Mathlib.Omega.{arith}
use native.Mathlib.Nat.{add-zero}
use lib.ListN.{length, length-append, drop}
use lib.Dec.{T, eqb, leb}
use borrow.Author.Tests.{eq-eqb, ne_eqb}
use Rattle.prelude.specs.Buffer.{AllBelow}
use Rattle.prelude.specs.Limits.{levels}
use Rattle.base64url.specs.Base64url.{encoded}
use Rattle.base64url.proofs.Laws.{encoded_length_lem}
use Rattle.parts.specs.Parts.{part, holds}
use Rattle.grammar.specs.Grammar.{quote, backslash, among, is_unescaped, curly}
use Rattle.grammar.proofs.Positions.{Rest, rest_next}
use Rattle.grammar.specs.Places.{Place, placed, start_of, size_of, kind_of, placed_text}
use Rattle.grammar.specs.Reader.{skip_space}
use Rattle.grammar.specs.Readings.{Reading}
use Rattle.grammar.proofs.Scan.{both_T}
use Rattle.grammar.proofs.Theorems.{read_complete}
use Rattle.names.specs.Names.{number_in}
use Rattle.prelude.specs.Any.{any}
use Rattle.rows.specs.Rows.{value_of, spelled_value}
use Rattle.headers.specs.Components.{octets_at}
use Rattle.shape.specs.Shape.{member_names, component, inner, hollow, wrong_member}
use Rattle.json_text.specs.Pieces.{quoted}
use Rattle.json_text.proofs.Embedded.{Stands, stands_whole, text_kind, embedded_end}
use Rattle.json_read.proofs.Within.{value_within}
use Rattle.json_message.specs.Handed.{trimmed, is_there, PlaceIf}
use Rattle.json_message.proofs.Moving.{part_moved}
use Rattle.json_message.proofs.Trimmed.{trimmed_none, reading_trimmed}
use Rattle.json_text.proofs.Made.{is_plain, plain, given, made_placed, string_placed, Field}
use Rattle.json_text.proofs.Fields.{value_from, row_from, FieldStands, FieldsStand}
use Rattle.json_message.specs.Inner.Judged.{Judged}
use Rattle.json_message.specs.Inner.PiecesOrder.{hollow_text}
use Rattle.json_message.proofs.Fields.{encoded_plain, string_field, component_fields, header_fields}
use Rattle.json_message.proofs.Parameters.{StandsIf}
use Rattle.json_message.proofs.Hollow.{header_hollow}
use Rattle.json_message.proofs.FieldEntries.{number_of, entry_from, entries_from, part_none, part_stands, past}
use Rattle.json_message.proofs.FieldEntries.{has_number, value_past, value_none, value_here}

-- A component

-- Whether it is there: an empty one may be.
pub record ComponentAt (s : List ℕ) (n : ℕ) (fs : List Field) (k : ℕ) (there : Bool) (xs : List ℕ) : Type 0 where
  pub spelled : octets_at s (component k (entries_from n fs)) ≡ encoded xs
  pub size : (component k (entries_from n fs)).size ≡ length (encoded xs)
  pub place : PlaceIf there (component k (entries_from n fs))

-- Behind fields of other numbers.
pub component_past : {s : List ℕ} {n : ℕ} (xs ys : List Field) {k : ℕ} {there : Bool} {v : List ℕ} →
    any (has_number k) xs ≡ false → ComponentAt s (past n xs) ys k there v → ComponentAt s n (xs ++ ys) k there v
component_past {s} {n} xs ys {k} {there} {v} e h =
    let p = sym (value_past k n xs ys e) in
    record {
      spelled = subst (λ q. octets_at s (inner q) ≡ encoded v) p h.spelled;
      size = subst (λ q. (inner q).size ≡ length (encoded v)) p h.size;
      place = subst (λ q. PlaceIf there (inner q)) p h.place;
    }

-- Absent.
pub component_none : (s : List ℕ) (n : ℕ) (fs : List Field) (k : ℕ) → any (has_number k) fs ≡ false →
    ComponentAt s n fs k false []
unfolding encoded Rattle.base64url.specs.Base64url.sextets
component_none s n fs k e =
    let p = sym (value_none k n fs e) in
    record {
      spelled = subst (λ q. octets_at s (inner q) ≡ []) p (part_none s 0);
      size = subst (λ q. (inner q).size ≡ 0) p refl;
      place = ap inner (value_none k n fs e);
    }

quoted_length : (w : List ℕ) → length (quoted w) ≡ length w + 2
unfolding quoted
quoted_length w = omega (arith, length-append w (quote ∷ []))

inner_is : (q : Place) (m n : ℕ) → q.start ≡ m → q.size ≡ n + 2 → inner q ≡ record { start = m + 1; size = n }
inner_is q m n a b =
    let e : eqb q.size 0 ≡ false = ne_eqb q.size 0 (λ z. omega arith) in
    let f : q.size - 2 ≡ n = omega arith in
    ap (λ z. cond z (record { start = 0; size = 0 }) (record { start = q.start + 1; size = q.size - 2 })) e
    ∙ λ i. record { start = a i + 1; size = f i }

-- A quoted text that stands somewhere: what is in it.
unquoted : {s : List ℕ} {m : ℕ} {w : List ℕ} → Stands s m (quoted w) → Stands s (m + 1) w
unfolding quoted
unquoted {s} {m} {w} h =
    let r : Rest s m (quote ∷ ((w ++ (quote ∷ [])) ++ h.after)) = record { is = h.is } in
    let e : suc m ≡ m + 1 = omega arith in
    record {
      after = quote ∷ h.after;
      is = ap (λ k. drop k s) (sym e) ∙ (rest_next r).is ∙ append_assoc w (quote ∷ []) h.after;
      ends = tt;
    }

-- A plain text has no backslash.

plain_apart : (c : ℕ) → T (is_plain c) → eqb c backslash ≡ false
plain_apart c h =
    let u = (both_T (is_unescaped c) (leb c 127) h).0 in
    let v = (both_T (leb 32 c && leb c 255) (not (among (quote ∷ backslash ∷ []) c)) u).1 in
    other (eqb c quote) (eqb c backslash) v
  where
    other : (a b : Bool) → T (not (a || (b || false))) → b ≡ false
    other true b t = absurd t
    other false true t = absurd t
    other false false t = refl

plain_holds : (w : List ℕ) → T (plain w) → holds backslash w ≡ false
unfolding plain holds
plain_holds [] h = refl
plain_holds (c ∷ w) h =
    let u = both_T (is_plain c) (plain w) h in
    ap₂ ◌||◌ (plain_apart c u.0) (plain_holds w u.1)

-- The members whose value is a component's text.
abbrev pub is_component : ℕ → Bool
is_component k = not (eqb k 0) && (not (eqb k 2 || eqb k 3) && not (eqb k 5))

shape_cases : (a b c k h d z x y : Bool) → (not a && (not b && not c)) ≡ true → k ≡ true → h ≡ false →
    (d ≡ false → z ≡ false) → cond a false (cond b x (cond c y (not k || (h || (not d && z))))) ≡ false
shape_cases true b c k h d z x y e f g i = refl
shape_cases false true c k h d z x y e f g i = absurd (true≢false (sym e))
shape_cases false false true k h d z x y e f g i = absurd (true≢false (sym e))
shape_cases false false false false h d z x y e f g i = absurd (true≢false (sym f))
shape_cases false false false true true d z x y e f g i = absurd (true≢false g)
shape_cases false false false true false true z x y e f g i = refl
shape_cases false false false true false false z x y e f g i = i refl

module _ (s : List ℕ) (n : ℕ) (name xs : List ℕ) (p : T (plain name)) (b : AllBelow 256 xs) where
  row_start : (row_from n (string_field name xs p b)).value_start ≡ value_from n (string_field name xs p b)
  unfolding string_field
  row_start =
      ap (λ v. n + length name + 3 + start_of v) (string_placed (encoded xs) (encoded_plain xs b)) ∙ add-zero (n + length name + 3)

  row_size : (row_from n (string_field name xs p b)).value_size ≡ length (encoded xs) + 2
  unfolding string_field
  row_size = ap size_of (string_placed (encoded xs) (encoded_plain xs b)) ∙ quoted_length (encoded xs)

  row_kind : (row_from n (string_field name xs p b)).kind ≡ 2
  unfolding string_field
  row_kind = ap kind_of (string_placed (encoded xs) (encoded_plain xs b))

  pub string_here : (k : ℕ) (fs : List Field) → number_in member_names name ≡ k →
      FieldStands s n (string_field name xs p b) → ComponentAt s n (string_field name xs p b ∷ fs) k true xs
  unfolding string_field
  string_here k fs e h =
      let f = string_field name xs p b in
      let q = value_here k n f fs (eq-eqb (number_of f) k e) in
      let i : component k (entries_from n (f ∷ fs)) ≡ record { start = value_from n f + 1; size = length (encoded xs) } =
      ap inner q
      ∙ inner_is (record { start = (row_from n f).value_start; size = (row_from n f).value_size }) (value_from n f)
      (length (encoded xs)) row_start row_size in
      record {
        spelled = ap (octets_at s) i ∙ part_stands (unquoted h.text);
        size = ap (λ (z : Place). z.size) i;
        place = subst (λ (z : Place). 1 ≤ z.start) (sym i) (omega arith);
      }

  string_number : number_of (string_field name xs p b) ≡ number_in member_names name
  unfolding string_field
  string_number = refl

  row_spelled : FieldStands s n (string_field name xs p b) → spelled_value s (row_from n (string_field name xs p b)) ≡ encoded xs
  unfolding string_field
  row_spelled h =
      ap₂ (λ at size. part s (at + 1) size) row_start (omega (arith, row_size)) ∙ part_stands (unquoted h.text)

  -- It is no wrong member: a string without a backslash, and not empty.
  pub string_right : (k : ℕ) → number_in member_names name ≡ k → is_component k ≡ true → (eqb k 8 ≡ false → 1 ≤ length xs) →
      FieldStands s n (string_field name xs p b) → wrong_member s (entry_from n (string_field name xs p b)) ≡ false
  unfolding wrong_member
  string_right k e c full h =
      let f = string_field name xs p b in
      let m = row_from n f in
      let number_is : number_of f ≡ k = string_number ∙ e in
      shape_cases (eqb (number_of f) 0) (eqb (number_of f) 2 || eqb (number_of f) 3) (eqb (number_of f) 5) (eqb m.kind 2)
      (holds backslash (spelled_value s m)) (eqb (number_of f) 8) (eqb m.value_size 2) _ _
      (ap is_component number_is ∙ c)
      (eq-eqb m.kind 2 row_kind)
      (ap (holds backslash) (row_spelled h) ∙ plain_holds (encoded xs) (encoded_plain xs b))
      (λ d. ne_eqb m.value_size 2 (λ z.
      let l = full (ap (λ q. eqb q 8) (sym number_is) ∙ d) in
      omega (arith, row_size, encoded_length_lem xs)))

-- A component's member, present or not.

module _ (name : List ℕ) (p : T (plain name)) where
  module _ (s : List ℕ) (n : ℕ) (k : ℕ) (e : number_in member_names name ≡ k) where
    pub component_here : (xs : List ℕ) (b : AllBelow 256 xs) (ys : List Field) → any (has_number k) ys ≡ false →
        FieldsStand s n (component_fields name p xs b ++ ys) →
        ComponentAt s n (component_fields name p xs b ++ ys) k (is_there xs) xs
    unfolding component_fields FieldsStand
    component_here [] b ys w h = component_none s n ys k w
    component_here (x ∷ xs) b ys w h = string_here s n name (x ∷ xs) p b k ys e h.0

    pub component_right : is_component k ≡ true → (xs : List ℕ) (b : AllBelow 256 xs) →
        FieldsStand s n (component_fields name p xs b) →
        any (wrong_member s) (entries_from n (component_fields name p xs b)) ≡ false
    unfolding any component_fields entries_from FieldsStand
    component_right c [] b h = refl
    component_right c (x ∷ xs) b h =
        ap (λ z. z || false) (string_right s n name (x ∷ xs) p b k e c (λ _. omega arith) h.0)

header_cases : (a b k h y z : Bool) → a ≡ false → b ≡ true → k ≡ true → h ≡ z →
    (cond a false (cond b (not k || h) y) || false) ≡ z
header_cases true b k h y z e f g i = absurd (true≢false e)
header_cases false false k h y z e f g i = absurd (true≢false (sym f))
header_cases false true false h y z e f g i = absurd (true≢false (sym g))
header_cases false true true true y z e f g i = i
header_cases false true true false y z e f g i = i

-- A header

-- Where it begins that stands at octet m; 0 where it is absent.
abbrev pub start_if : ℕ → List ℕ → ℕ
start_if m [] = 0
start_if m (c ∷ w) = m + skip_space (c ∷ w) 0

pub record HeaderAt (s : List ℕ) (n : ℕ) (fs : List Field) (k : ℕ) (w : List ℕ) : Type 0 where
  pub from : ℕ
  pub later : 1 ≤ from
  pub stands : StandsIf s from w
  pub starts : (value_of k (entries_from n fs)).start ≡ start_if from w
  pub text : octets_at s (value_of k (entries_from n fs)) ≡ trimmed w

pub header_past : {s : List ℕ} {n : ℕ} (xs ys : List Field) {k : ℕ} {w : List ℕ} → any (has_number k) xs ≡ false →
    HeaderAt s (past n xs) ys k w → HeaderAt s n (xs ++ ys) k w
header_past {s} {n} xs ys {k} {w} e h = record {
  from = h.from;
  later = h.later;
  stands = h.stands;
  starts = ap (λ (q : Place). q.start) (value_past k n xs ys e) ∙ h.starts;
  text = ap (octets_at s) (value_past k n xs ys e) ∙ h.text;
}

pub header_none : (s : List ℕ) (n : ℕ) (fs : List Field) (k : ℕ) → any (has_number k) fs ≡ false → HeaderAt s n fs k []
header_none s n fs k e = record {
  from = 1;
  later = omega arith;
  stands = tt;
  starts = ap (λ (q : Place). q.start) (value_none k n fs e);
  text = ap (octets_at s) (value_none k n fs e) ∙ part_none s 0 ∙ sym trimmed_none;
}

module _ (name : List ℕ) (p : T (plain name)) where
  -- The row of a given text.
  given_start : (w : List ℕ) (r : Reading levels w) → start_of (placed 0 (given r).value) ≡ skip_space w 0
  given_start w r = ap start_of (made_placed (given r) r) ∙ (read_complete levels w r).1

  given_size : (w : List ℕ) (r : Reading levels w) → size_of (placed 0 (given r).value) ≡ size_of (placed_text r.text)
  given_size w r = ap size_of (made_placed (given r) r)

  -- Its object, where it stands, is the text without the space around it.
  text_there : {s : List ℕ} {m : ℕ} (c : ℕ) (w : List ℕ) (r : Reading levels (c ∷ w)) → Stands s m (c ∷ w) →
      part s (m + skip_space (c ∷ w) 0) (size_of (placed_text r.text)) ≡ trimmed (c ∷ w)
  text_there {s} {m} c w r h =
      let v = placed_text r.text in
      let found_at = embedded_end levels r (stands_whole (c ∷ w)) in
      let within = value_within levels (c ∷ w) (0 + skip_space (c ∷ w) 0) (0 + skip_space (c ∷ w) 0 + size_of v) 0 found_at in
      part_moved h (skip_space (c ∷ w) 0) (size_of v) (omega arith) (omega (arith, within.ends))
      ∙ reading_trimmed levels (c ∷ w) r

  given_kinds : (w : List ℕ) (r : Reading levels w) → kind_of (placed 0 (given r).value) ≡ 0
  given_kinds w r = ap kind_of (made_placed (given r) r) ∙ text_kind levels w r

  module _ (s : List ℕ) (n : ℕ) (k : ℕ) (e : number_in member_names name ≡ k) where
    pub header_here : (w : List ℕ) (r : Judged levels w) (ys : List Field) → any (has_number k) ys ≡ false →
        FieldsStand s n (header_fields name p w r ++ ys) → HeaderAt s n (header_fields name p w r ++ ys) k w
    unfolding header_fields FieldsStand
    header_here [] r ys o h = header_none s n ys k o
    header_here (c ∷ w) r ys o h =
        let f : Field = record { name = name; text = c ∷ w; plainly = p; made = given r } in
        record {
          from = value_from n f;
          later = omega arith;
          stands = h.0.text;
          starts =
              ap (λ (q : Place). q.start) (value_here k n f ys (eq-eqb (number_of f) k e))
              ∙ ap (λ z. value_from n f + z) (given_start (c ∷ w) r);
          text =
              ap (octets_at s) (value_here k n f ys (eq-eqb (number_of f) k e))
              ∙ ap₂ (λ a b. part s (value_from n f + a) b) (given_start (c ∷ w) r) (given_size (c ∷ w) r)
              ∙ text_there c w r h.0.text;
        }

    -- It is wrong exactly where it has no member.
    pub header_right : eqb k 0 ≡ false → (eqb k 2 || eqb k 3) ≡ true → (w : List ℕ) (r : Judged levels w) →
        FieldsStand s n (header_fields name p w r) →
        any (wrong_member s) (entries_from n (header_fields name p w r)) ≡ hollow_text w
    unfolding any header_fields entries_from FieldsStand wrong_member
    header_right z c [] r h = refl
    header_right z c (x ∷ w) r h =
        let f : Field = record { name = name; text = x ∷ w; plainly = p; made = given r } in
        let m = row_from n f in
        header_cases (eqb (number_of f) 0) (eqb (number_of f) 2 || eqb (number_of f) 3) (eqb m.kind 0)
        (hollow curly s m.value_start) _ (hollow_text (x ∷ w)) (ap (λ q. eqb q 0) e ∙ z)
        (ap (λ q. eqb q 2 || eqb q 3) e ∙ c)
        (eq-eqb m.kind 0 (given_kinds (x ∷ w) r))
        (ap (λ z. hollow curly s (value_from n f + z)) (given_start (x ∷ w) r) ∙ header_hollow h.0.text r)
