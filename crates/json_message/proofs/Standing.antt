-- A table of members where its object stands in a message: each line's member is found by its number, since no two lines have
-- the same, and what is wrong with the object's shape is a header without a member.
use mathlib.Core.Path.{◌≡◌, refl, sym, ap, ap₂, ◌∙◌}
use mathlib.Core.List.{List, [], ◌∷◌, ◌++◌}
use mathlib.Core.Bool.{Bool, true, false, not, ◌&&◌, ◌||◌, cond, true≢false}
use Prim.Native.Nat.{ℕ, ◌+◌}
use native.Mathlib.Nat.{add-zero}
use lib.Dec.{T, eqb}
use borrow.Author.Tests.{eq-eqb, ne_eqb}
use Rattle.prelude.specs.Any.{any, any_pair}
use Rattle.prelude.specs.Buffer.{AllBelow}
use Rattle.grammar.specs.Bounds.{Every}
use Rattle.grammar.specs.Places.{Place, placed, start_of, kind_of}
use Rattle.names.specs.Names.{number_in}
use Rattle.rows.specs.Rows.{value_of}
use Rattle.shape.specs.Shape as shape
use Rattle.shape.specs.Shape.{member_names, wrong_member, wrong_header, wrong_component, wrong_in_element}
use Rattle.json_text.proofs.Embedded.{Stands}
use Rattle.json_text.proofs.Made.{plain, given, Field, Element, array}
use Rattle.json_text.proofs.Fields.{array_text, array_placed, value_from, FieldsStand}
use Rattle.json_message.specs.Handed.{is_there}
use Rattle.json_message.proofs.Fields.{string_field, component_fields, header_fields}
use Rattle.json_message.proofs.FieldEntries.{number_of, entry_from, entries_from, past, entries_append, stand_front}
use Rattle.json_message.proofs.FieldEntries.{stand_past}
use Rattle.json_message.proofs.FieldEntries.{has_number, any_append, or_false, value_past, value_here}
use Rattle.json_message.proofs.Located.{ComponentAt, component_past, component_here, component_right, string_here}
use Rattle.json_message.proofs.Located.{string_right, HeaderAt, header_past, header_here, header_right}
use Rattle.json_message.proofs.Lines.{Content, a_component, a_ciphertext, a_header, an_array, Suits, Line, content_fields}
use Rattle.json_message.proofs.Lines.{line_fields}
use Rattle.json_message.proofs.Lines.{table_fields, same_number, line_without, table_without, hollow_content, hollow_line}

-- An array, where the member with a number has it.
pub record ArrayAt (s : List ℕ) (n : ℕ) (fs : List Field) (k : ℕ) (xs : List Element) : Type 0 where
  pub from : ℕ
  pub starts : (value_of k (entries_from n fs)).start ≡ from
  pub stands : Stands s from (array_text xs)

-- What a line holds, among the fields from octet n on.
abbrev pub At : List ℕ → ℕ → List Field → ℕ → Content → Type 0
At s n fs k (a_component xs b) = ComponentAt s n fs k (is_there xs) xs
At s n fs k (a_ciphertext xs b) = ComponentAt s n fs k true xs
At s n fs k (a_header w j) = HeaderAt s n fs k w
At s n fs k (an_array xs) = ArrayAt s n fs k xs

abbrev pub LineAt : List ℕ → ℕ → List Field → Line → Type 0
LineAt s n fs l = At s n fs l.number l.content

module _ (s : List ℕ) where
  -- Here, and behind fields of other numbers.

  array_here : (n : ℕ) (name : List ℕ) (p : T (plain name)) (k : ℕ) → number_in member_names name ≡ k → (xs : List Element)
      (ys : List Field) → FieldsStand s n (content_fields name p (an_array xs) ++ ys) →
      ArrayAt s n (content_fields name p (an_array xs) ++ ys) k xs
  unfolding content_fields FieldsStand
  array_here n name p k e xs ys h =
      let f : Field = record { name = name; text = array_text xs; plainly = p; made = array xs } in
      record {
        from = value_from n f;
        starts =
            ap (λ (q : Place). q.start) (value_here k n f ys (eq-eqb (number_of f) k e))
            ∙ ap (λ z. value_from n f + start_of z) (array_placed 0 xs)
            ∙ add-zero (value_from n f);
        stands = h.0.text;
      }

  content_here : (n : ℕ) (name : List ℕ) (p : T (plain name)) (k : ℕ) → number_in member_names name ≡ k → (x : Content)
      (ys : List Field) → any (has_number k) ys ≡ false → FieldsStand s n (content_fields name p x ++ ys) →
      At s n (content_fields name p x ++ ys) k x
  unfolding content_fields FieldsStand
  content_here n name p k e (a_component xs b) ys w h = component_here name p s n k e xs b ys w h
  content_here n name p k e (a_ciphertext xs b) ys w h = string_here s n name xs p b k ys e h.0
  content_here n name p k e (a_header u j) ys w h = header_here name p s n k e u j ys w h
  content_here n name p k e (an_array xs) ys w h = array_here n name p k e xs ys h

  content_past : (n : ℕ) (xs ys : List Field) (k : ℕ) (x : Content) → any (has_number k) xs ≡ false → At s (past n xs) ys k x →
      At s n (xs ++ ys) k x
  content_past n xs ys k (a_component v b) e h = component_past xs ys e h
  content_past n xs ys k (a_ciphertext v b) e h = component_past xs ys e h
  content_past n xs ys k (a_header w j) e h = header_past xs ys e h
  content_past n xs ys k (an_array v) e h = record {
    from = h.from;
    starts = ap (λ (q : Place). q.start) (value_past k n xs ys e) ∙ h.starts;
    stands = h.stands;
  }

  turned : (a b : ℕ) → eqb a b ≡ false → eqb b a ≡ false
  turned a b e = ne_eqb b a (λ z. true≢false (sym (eq-eqb a b (sym z)) ∙ e))

  lines_past : (n : ℕ) (l : Line) (ys : List Field) (ls : List Line) → any (same_number l) ls ≡ false →
      Every (LineAt s (past n (line_fields l)) ys) ls → Every (LineAt s n (line_fields l ++ ys)) ls
  unfolding any
  lines_past n l ys [] e h = tt
  lines_past n l ys (q ∷ ls) e h =
      let w = or_false (same_number l q) (any (same_number l) ls) e in (
        content_past n (line_fields l) ys q.number q.content
            (line_without q.number l (turned q.number l.number w.0)) h.0,
        lines_past n l ys ls w.1 h.1,
      )

  -- Every line's member, by its number.
  pub table_at : (n : ℕ) (ls : List Line) → any_pair same_number ls ≡ false → FieldsStand s n (table_fields ls) →
      Every (LineAt s n (table_fields ls)) ls
  unfolding any_pair table_fields
  table_at n [] e h = tt
  table_at n (l ∷ ls) e h =
      let w = or_false (any (same_number l) ls) (any_pair same_number ls) e in (
        content_here n l.name l.known.plainly l.number l.known.numbered l.content (table_fields ls)
            (table_without l.number ls w.0) h,
        lines_past n l (table_fields ls) ls w.0
            (table_at (past n (line_fields l)) ls w.1 (stand_past s n (line_fields l) (table_fields ls) h)),
      )

  -- 10

  array_right : (n : ℕ) (name : List ℕ) (p : T (plain name)) (xs : List Element) → number_in member_names name ≡ shape.recipients →
      any (wrong_member s) (entries_from n (content_fields name p (an_array xs))) ≡ false
  unfolding any content_fields entries_from wrong_member
  array_right n name p xs e =
      let f : Field = record { name = name; text = array_text xs; plainly = p; made = array xs } in
      let k : kind_of (placed 0 (array xs).value) ≡ 1 = ap kind_of (array_placed 0 xs) in
      ap₂ (λ k d. cond (eqb k 0) false (cond (eqb k 2 || eqb k 3) (wrong_header s (entry_from n f))
      (cond (eqb k 5) (not (eqb d 1)) (wrong_component s (entry_from n f)))) || false) e k

  ciphertext_right : (n : ℕ) (name : List ℕ) (p : T (plain name)) (k : ℕ) → number_in member_names name ≡ k → (xs : List ℕ)
      (b : AllBelow 256 xs) → Suits k (a_ciphertext xs b) → FieldsStand s n (string_field name xs p b ∷ []) →
      any (wrong_member s) (entries_from n (string_field name xs p b ∷ [])) ≡ false
  unfolding any entries_from FieldsStand
  ciphertext_right n name p k e xs b c h =
      ap (λ z. z || false)
      (string_right s n name xs p b k e c.0 (λ d. absurd (true≢false (sym c.1 ∙ d))) h.0)

  content_wrong : (n : ℕ) (name : List ℕ) (p : T (plain name)) (k : ℕ) → number_in member_names name ≡ k → (x : Content) →
      Suits k x → FieldsStand s n (content_fields name p x) →
      any (wrong_member s) (entries_from n (content_fields name p x)) ≡ hollow_content x
  unfolding content_fields
  content_wrong n name p k e (a_component xs b) c h = component_right name p s n k e c xs b h
  content_wrong n name p k e (a_ciphertext xs b) c h = ciphertext_right n name p k e xs b c h
  content_wrong n name p k e (a_header w j) c h = header_right name p s n k e c.0 c.1 w j h
  content_wrong n name p k e (an_array xs) c h = array_right n name p xs (e ∙ c)

  pub table_wrong : (n : ℕ) (ls : List Line) → FieldsStand s n (table_fields ls) →
      any (wrong_member s) (entries_from n (table_fields ls)) ≡ any hollow_line ls
  unfolding any table_fields entries_from
  table_wrong n [] h = refl
  table_wrong n (l ∷ ls) h =
      let F = line_fields l in
      ap (any (wrong_member s)) (entries_append n F (table_fields ls))
      ∙ any_append (wrong_member s) (entries_from n F) (entries_from (past n F) (table_fields ls))
      ∙ ap₂ ◌||◌
      (content_wrong n l.name l.known.plainly l.number l.known.numbered l.content l.suits
      (stand_front s n F (table_fields ls) h))
      (table_wrong (past n F) ls (stand_past s n F (table_fields ls) h))

  -- An element of `recipients` knows only two of the numbers.

  abbrev is_own : ℕ → Bool
  is_own k = eqb k shape.header || eqb k shape.encrypted_key

  one_own : (n : ℕ) (f : Field) → is_own (number_of f) ≡ true →
      any (wrong_in_element s) (entries_from n (f ∷ [])) ≡ any (wrong_member s) (entries_from n (f ∷ []))
  unfolding any entries_from
  one_own n f e = ap (λ z. (z && wrong_member s (entry_from n f)) || false) e

  content_own : (n : ℕ) (name : List ℕ) (p : T (plain name)) (k : ℕ) → number_in member_names name ≡ k → is_own k ≡ true →
      (x : Content) → any (wrong_in_element s) (entries_from n (content_fields name p x))
      ≡ any (wrong_member s) (entries_from n (content_fields name p x))
  unfolding any content_fields component_fields string_field header_fields entries_from
  content_own n name p k e o (a_component [] b) = refl
  content_own n name p k e o (a_component (x ∷ xs) b) = one_own n (string_field name (x ∷ xs) p b) (ap is_own e ∙ o)
  content_own n name p k e o (a_ciphertext xs b) = one_own n (string_field name xs p b) (ap is_own e ∙ o)
  content_own n name p k e o (a_header [] j) = refl
  content_own n name p k e o (a_header (c ∷ w) j) =
      one_own n (record { name = name; text = c ∷ w; plainly = p; made = given j }) (ap is_own e ∙ o)
  content_own n name p k e o (an_array xs) =
      one_own n (record { name = name; text = array_text xs; plainly = p; made = array xs }) (ap is_own e ∙ o)

  pub table_own : (n : ℕ) (ls : List Line) → Every (λ l. is_own l.number ≡ true) ls →
      any (wrong_in_element s) (entries_from n (table_fields ls)) ≡ any (wrong_member s) (entries_from n (table_fields ls))
  unfolding any table_fields entries_from
  table_own n [] o = refl
  table_own n (l ∷ ls) o =
      let F = line_fields l in
      let G = table_fields ls in
      ap (any (wrong_in_element s)) (entries_append n F G)
      ∙ any_append (wrong_in_element s) (entries_from n F) (entries_from (past n F) G)
      ∙ ap₂ ◌||◌ (content_own n l.name l.known.plainly l.number l.known.numbered o.0 l.content)
      (table_own (past n F) ls o.1)
      ∙ sym (any_append (wrong_member s) (entries_from n F) (entries_from (past n F) G))
      ∙ sym (ap (any (wrong_member s)) (entries_append n F G))
