-- The headers of a JSON message: one that is absent has no text and no entry; the protected one, where it is there and
-- has no
-- entry, passes 8 and 9, so that 10 may be asked after them.
use mathlib.Core.Path.{◌≡◌, refl, ap, ap₂, sym, ◌∙◌}
use mathlib.Core.Bool.{Bool, true, false, cond, ◌&&◌, ◌||◌, true≢false}
use mathlib.Core.List.{List, [], ◌∷◌, ◌++◌}
use Prim.Native.Nat.{ℕ, ◌*◌, ◌≤◌}
use native.Mathlib.Omega.{arith}
use native.Mathlib.Nat.{add-zero}
use lib.ListN.{length, take, drop, take-append-drop, length-map}
use lib.Dec.{eqb, ltb}
use borrow.Author.Tests.{eq-eqb, ne_eqb, le-leb, ltb-false}
use Rattle.prelude.specs.Buffer.{written}
use Rattle.base64url.specs.Base64url.{octets, decoded}
use Rattle.parts.specs.Parts.{part}
use Rattle.grammar.specs.Places.{Place, Member}
use Rattle.grammar.specs.Reader.{skip_space, members_at}
use Rattle.prelude.specs.Any.{any, any_pair}
use Rattle.rows.specs.Rows.{Entry, one_text, entry_of, entries_in, numbered, present, value_of, repeated}
use Rattle.rows.specs.Tables.{width}
use Rattle.rows.specs.Inner.Prints.{flat, collected_table}
use Rattle.jose.specs.Registered.{registered}
use Rattle.prelude.specs.Refusals.{first, stage_of}
use Rattle.headers.specs.Components.{absent}
use Rattle.headers.specs.Headers.{header_text, text_order, outermost, protected_entries, members_of}
use Rattle.headers.specs.Headers.{header_entries, object_order}
use Rattle.headers.specs.Answers.{header_buffer}
use Rattle.prelude.specs.Refusals.{Stage}
use Rattle.prelude.specs.Refusals.{Passed, Refused}
use Rattle.headers.proofs.Stages.{passed_is, refused_is}
use Rattle.shape.specs.Shape.{inner, component}
use Rattle.jwe.specs.General.{is_hollow}
use Rattle.jwe.specs.Inner.Stages.{text_tests, protected_tests}

-- Where there is no protected header

none_present : (n : ℕ) (es : List Entry) → present n es ≡ false → value_of n es ≡ record { start = 0; size = 0 }
unfolding present any value_of
none_present n [] e = refl
none_present n (x ∷ es) e = cases (numbered n x) e (none_present n es)
  where
    cases : (b : Bool) → (b || any (numbered n) es) ≡ false →
        (any (numbered n) es ≡ false → value_of n es ≡ record { start = 0; size = 0 }) →
        cond b (record { start = x.member.value_start; size = x.member.value_size }) (value_of n es)
        ≡ record { start = 0; size = 0 }
    cases true e rest = absurd (true≢false e)
    cases false e rest = rest e

pub no_component : (n : ℕ) (es : List Entry) → present n es ≡ false → component n es ≡ absent
no_component n es gone = ap inner (none_present n es gone)

no_text : (message : List ℕ) → header_text message absent ≡ []
unfolding header_text part decoded octets
no_text message = ap (λ (b : Bool). decoded (cond b (take 0 (drop 0 message)) [])) (le-leb 0 (length message) (omega arith))

-- Where one is there or not, and its place is known where it is not.
module _ (message : List ℕ) (there : Bool) (q : Place) (none : there ≡ false → q ≡ absent) where
  pub no_header : there ≡ false → header_text message q ≡ []
  no_header gone = ap (header_text message) (none gone) ∙ no_text message

  pub no_header_passes : there ≡ false →
      Passed 0 ≡ stage_of (first (text_tests there (header_text message q))) (length (header_text message q))
  unfolding stage_of text_tests first
  no_header_passes gone =
      sym (ap₂ (λ (b : Bool) (h : List ℕ). stage_of (first (text_tests b h)) (length h)) gone (no_header gone))

  pub no_header_left : there ≡ false → (text : List ℕ) → text ≡ header_buffer (header_text message q) text
  unfolding header_buffer written
  no_header_left gone text = sym (ap (λ (h : List ℕ). header_buffer h text) (no_header gone))

-- 6 and 7 on one that is there.
pub text_there : (there : Bool) (header : List ℕ) → there ≡ true →
    stage_of (first (text_order header)) (length header) ≡ stage_of (first (text_tests there header)) (length header)
unfolding text_tests
text_there there header e = sym (ap (λ (b : Bool). stage_of (first (text_tests b header)) (length header)) e)

-- The protected header's entries

hollow_is : (header : List ℕ) (ms : List Member) → is_hollow ms ≡ eqb (length (entries_in registered header 0 ms)) 0
unfolding entries_in
hollow_is header [] = refl
hollow_is header (m ∷ ms) =
    let es = entries_in registered header 0 (m ∷ ms) in
    sym (ne_eqb (length es) 0 (λ (e : length es ≡ 0). omega (arith, e)))

hollow_passes : (header : List ℕ) (ms : List Member) → length (entries_in registered header 0 ms) ≡ 0 →
    first (object_order header (entries_in registered header 0 ms)) ≡ 0
unfolding entries_in object_order first repeated any_pair
hollow_passes header [] e = refl
hollow_passes header (m ∷ ms) e = absurd (omega (arith, e))

module _ (header : List ℕ) where
  abbrev entries : List Entry
  entries = protected_entries header

  abbrev eight_nine : ℕ
  eight_nine = first (object_order header entries)

  pub entries_count : length (outermost header) ≡ length entries
  unfolding protected_entries entries_in
  entries_count = sym (length-map (outermost header) (entry_of registered header 0))

  tests_is : (there : Bool) → first (protected_tests there header) ≡ cond (there && eqb (length entries) 0) 10 eight_nine
  unfolding protected_tests first protected_entries
  tests_is true = ap (λ (b : Bool). cond b 10 eight_nine) (hollow_is header (outermost header))
  tests_is false = refl

  with_entries : (there : Bool) → (length entries ≡ 0 → ⊥) → first (protected_tests there header) ≡ eight_nine
  with_entries true h = tests_is true ∙ ap (λ (b : Bool). cond b 10 eight_nine) (ne_eqb (length entries) 0 h)
  with_entries false h = tests_is false

  none : length entries ≡ 0 → eight_nine ≡ 0
  unfolding protected_entries
  none z = hollow_passes header (outermost header) z

  -- What the object's collecting answers and leaves, by the list and the position it was given.
  module _ {names : List (List ℕ)} {at : ℕ} (n : names ≡ registered) (a : at ≡ skip_space header 0) where
    listed_is : entries_in names header 0 (members_at 12 header at) ≡ entries
    unfolding protected_entries outermost
    listed_is = ap₂ (λ (ns : List (List ℕ)) (k : ℕ). entries_in ns header 0 (members_at 12 header k)) n a

    count_is : length (members_at 12 header at) ≡ length entries
    unfolding outermost
    count_is = ap (λ (k : ℕ). length (members_at 12 header k)) a ∙ entries_count

    pub protected_stage : {answer : Stage} →
        answer
        ≡ stage_of (first (object_order header (entries_in names header 0 (members_at 12 header at))))
        (length (members_at 12 header at)) →
        answer ≡ stage_of eight_nine (length entries)
    protected_stage e =
        e ∙ ap₂ (λ (es : List Entry) (k : ℕ). stage_of (first (object_order header es)) k) listed_is count_is

    pub protected_table_lem : (last before : List ℕ) →
        last ≡ collected_table 0 header (entries_in names header 0 (members_at 12 header at)) before →
        last ≡ collected_table 0 header entries before
    protected_table_lem last before e = e ∙ ap (λ (es : List Entry). collected_table 0 header es before) listed_is

  pub protected_refused : (there : Bool) {answer : Stage} (n : ℕ) → answer ≡ stage_of eight_nine (length entries) →
      answer ≡ Refused n → answer ≡ stage_of (first (protected_tests there header)) (length entries)
  protected_refused there n a e =
      let told = refused_is n eight_nine (length entries) (sym e ∙ a) in
      let some : length entries ≡ 0 → ⊥ = λ z. omega (arith, none z, told.0, told.1) in
      a ∙ ap (λ (k : ℕ). stage_of k (length entries)) (sym (with_entries there some))

  pub protected_hollow : (there : Bool) (n : ℕ) → Passed n ≡ stage_of eight_nine (length entries) → there ≡ true → n ≡ 0 →
      Refused 10 ≡ stage_of (first (protected_tests there header)) (length entries)
  unfolding stage_of
  protected_hollow there n a t z =
      let none : eqb (length entries) 0 ≡ true =
      eq-eqb (length entries) 0 (sym (passed_is n eight_nine (length entries) a).1 ∙ z) in
      sym (ap (λ (k : ℕ). stage_of k (length entries))
      (tests_is there ∙ ap₂ (λ (x y : Bool). cond (x && y) 10 eight_nine) t none))

  pub protected_passed : (there : Bool) (n : ℕ) → Passed n ≡ stage_of eight_nine (length entries) → (n ≡ 0 → ⊥) →
      Passed n ≡ stage_of (first (protected_tests there header)) (length entries)
  protected_passed there n a h =
      let some : length entries ≡ 0 → ⊥ = λ z. h ((passed_is n eight_nine (length entries) a).1 ∙ z) in
      a ∙ ap (λ (k : ℕ). stage_of k (length entries)) (sym (with_entries there some))

  pub protected_absent : (there : Bool) (n : ℕ) → Passed n ≡ stage_of eight_nine (length entries) → there ≡ false →
      Passed n ≡ stage_of (first (protected_tests there header)) (length entries)
  protected_absent there n a t =
      a
      ∙ sym (ap (λ (k : ℕ). stage_of k (length entries))
      (ap (λ (b : Bool). first (protected_tests b header)) t ∙ tests_is false))

-- A header that stands in the message

module _ (message : List ℕ) (origin start : ℕ) where
  abbrev found : List Entry
  found = header_entries message origin start

  nowhere : start ≡ 0 → found ≡ []
  unfolding header_entries members_of entries_in
  nowhere e =
      ap (λ (b : Bool). entries_in registered message origin (cond b [] (members_at 12 message start))) (eq-eqb start 0 e)

  pub absent_passes : start ≡ 0 → Passed 0 ≡ stage_of (first (object_order message found)) (length found)
  unfolding stage_of first object_order repeated any_pair
  absent_passes e =
      sym (ap (λ (es : List Entry). stage_of (first (object_order message es)) (length es)) (nowhere e))

  pub absent_left : start ≡ 0 → (from : ℕ) (table : List ℕ) → table ≡ collected_table from message found table
  unfolding collected_table written flat
  absent_left e from table =
      let none : written (from * width) [] table ≡ table =
      ap (λ (n : ℕ). take (from * width) table ++ drop n table) (add-zero (from * width)) ∙ take-append-drop (from * width) table in
      sym (ap (λ (es : List Entry). collected_table from message es table) (nowhere e) ∙ none)

  pub stands : (start ≡ 0 → ⊥) → entries_in registered message origin (members_at 12 message start) ≡ found
  unfolding header_entries members_of
  stands h =
      sym (ap (λ (b : Bool). entries_in registered message origin (cond b [] (members_at 12 message start)))
      (ne_eqb start 0 h))

  pub stands_count : (start ≡ 0 → ⊥) → length (members_at 12 message start) ≡ length found
  unfolding entries_in
  stands_count h = sym (length-map (members_at 12 message start) (entry_of registered message origin)) ∙ ap length (stands h)

  module _ {names : List (List ℕ)} (n : names ≡ registered) (h : start ≡ 0 → ⊥) where
    listed_there : entries_in names message origin (members_at 12 message start) ≡ found
    listed_there = ap (λ (ns : List (List ℕ)). entries_in ns message origin (members_at 12 message start)) n ∙ stands h

    pub stands_stage : {answer : Stage} →
        answer
        ≡ stage_of (first (object_order message (entries_in names message origin (members_at 12 message start))))
        (length (members_at 12 message start)) →
        answer ≡ stage_of (first (object_order message found)) (length found)
    stands_stage e =
        e ∙ ap₂ (λ (es : List Entry) (k : ℕ). stage_of (first (object_order message es)) k) listed_there (stands_count h)

    pub stands_table : (from : ℕ) (last before : List ℕ) →
        last ≡ collected_table from message (entries_in names message origin (members_at 12 message start)) before →
        last ≡ collected_table from message found before
    stands_table from last before e = e ∙ ap (λ (es : List Entry). collected_table from message es before) listed_there

-- What passes 8 has at most 32.
pub few : (s : List ℕ) (es : List Entry) → first (object_order s es) ≡ 0 → length es ≤ 32
unfolding first object_order
few s es e = ltb-false 32 (length es) (cases (ltb 32 (length es)) e)
  where
    cases : (b : Bool) → ◌≡◌ {A = ℕ} (cond b 8 (cond (repeated false (one_text s) es) 9 0)) 0 → b ≡ false
    cases true e = absurd (omega (arith, e))
    cases false e = refl
