-- The top level and the recipients of a JSON message as they stand in their tables.
use mathlib.Core.Path.{◌≡◌, refl, ap, ap₂, sym, subst, ◌∙◌}
use mathlib.Core.Bool.{Bool, true, false, cond, ◌||◌}
use mathlib.Core.List.{List, [], ◌∷◌, map, flat_map}
use Prim.Native.Nat.{ℕ, ◌≤◌}
use native.Mathlib.Omega.{arith}
use lib.ListN.{length, length-map}
use lib.Dec.{ltb}
use borrow.Author.Tests.{ltb-false}
use Rattle.prelude.specs.Buffer.{written}
use Rattle.grammar.specs.Places.{Element}
use Rattle.prelude.specs.Any.{any}
use Rattle.rows.specs.Rows.{Entry, one_text, present, repeated}
use Rattle.rows.specs.Tables.{entries_of}
use Rattle.rows.specs.Inner.Prints.{flat}
use Rattle.rows.proofs.Entries.{entries_written}
use Rattle.prelude.specs.Refusals.{◌if◌, first, stage_of}
use Rattle.prelude.specs.Limits.{most_recipients}
use Rattle.headers.specs.Components.{Components, misspelled}
use Rattle.headers.specs.Headers.{unread, object_order}
use Rattle.prelude.specs.Refusals.{Passed}
use Rattle.headers.proofs.Stages.{passed_is}
use Rattle.shape.specs.Shape.{recipients, wrong_top, wrong_elements, Recipient, recipient_of}
use Rattle.shape.specs.Recipients.{top_entries, top_order, elements_in, element_entries, element_order, elements_order}
use Rattle.shape.specs.Recipients.{Top, top_of, recipients_in}
use Rattle.shape.specs.Inner.Answers.{flat_recipients}
use Rattle.jwe.specs.General.{all_places, any_misspelled}
use Rattle.jwe.specs.Inner.Stages.{recipients_of}
use Rattle.jwe.proofs.RecipientRows.{recipients_written}

-- Where two tests pass, the first does ..
passes_first : (k rest : ℕ) (a : Bool) → (k ≡ 0 → ⊥) → cond a k rest ≡ 0 → a ≡ false
passes_first k rest true h e = absurd (h e)
passes_first k rest false h e = refl

-- .. and the second.
second : (k n rest : ℕ) (a b : Bool) → (k ≡ 0 → ⊥) → (n ≡ 0 → ⊥) → cond a k (cond b n rest) ≡ 0 → b ≡ false
second k n rest true b h g e = absurd (h e)
second k n rest false true h g e = absurd (g e)
second k n rest false false h g e = refl

-- The top level

module _ (message : List ℕ) where
  top_few : first (top_order message) ≡ 0 → length (top_entries message) ≤ 32
  unfolding top_order object_order first
  top_few e =
      ltb-false 32 (length (top_entries message))
      (second 7 8 (cond (repeated false (one_text message) (top_entries message)) 9 (cond (wrong_top message (top_entries message)) 10 0))
      (unread message) (ltb 32 (length (top_entries message))) (λ (z : ◌≡◌ {A = ℕ} 7 0). omega (arith, z))
      (λ (z : ◌≡◌ {A = ℕ} 8 0). omega (arith, z)) e)

  pub top_is : (before last : List ℕ) (n : ℕ) →
      Passed n ≡ stage_of (first (top_order message)) (length (top_entries message)) →
      last ≡ written 0 (flat message (top_entries message)) before →
      (first (top_order message) ≡ 0) × ((n ≤ 32) × (entries_of n last ≡ top_entries message))
  top_is before last n a l =
      let told = passed_is n (first (top_order message)) (length (top_entries message)) a in (
        told.0,
        (
          omega (arith, told.1, top_few told.0),
          ap₂ entries_of told.1 l ∙ entries_written message (top_entries message) before,
        ),
      )

-- The recipients

-- `recipients` is refused where it is empty.
some_element : (xs : List Element) → wrong_elements xs ≡ false → 1 ≤ length xs
unfolding wrong_elements
some_element [] e = let z : true ≡ false = e in let y : ◌≡◌ {A = ℕ} 0 1 = cc in omega arith
some_element (x ∷ xs) e = omega arith

module _ (message : List ℕ) (es : List Entry) where
  abbrev xs : List Element
  xs = elements_in message es

  -- One at least, and no more than 8.
  elements_number : first (elements_order message es) ≡ 0 →
      (1 ≤ length (recipients_in message es)) × (length (recipients_in message es) ≤ 8)
  unfolding elements_order recipients_in first
  elements_number e = cases (present recipients es) e
    where
      counted : length (map (λ (x : Element). recipient_of (element_entries message x.start)) xs) ≡ length xs
      counted = length-map xs (λ (x : Element). recipient_of (element_entries message x.start))

      cases : (b : Bool) →
          first (cond b
          (10 if wrong_elements xs
          ∷ 11 if ltb most_recipients (length xs)
          ∷ flat_map (λ (x : Element). element_order message x.start) xs)
          [])
          ≡ 0 →
          let n = length (cond b (map (λ (x : Element). recipient_of (element_entries message x.start)) xs) (recipient_of es ∷ [])) in
          (1 ≤ n) × (n ≤ 8)
      cases true e =
          let there : 1 ≤ length xs =
          some_element xs
          (passes_first 10 (cond (ltb most_recipients (length xs)) 11 (first (flat_map (λ (x : Element). element_order message x.start) xs)))
          (wrong_elements xs) (λ (z : ◌≡◌ {A = ℕ} 10 0). omega (arith, z)) e) in
          let small : length xs ≤ 8 =
          ltb-false 8 (length xs)
          (second 10 11 (first (flat_map (λ (x : Element). element_order message x.start) xs)) (wrong_elements xs) (ltb most_recipients (length xs)) (λ (z : ◌≡◌ {A = ℕ} 10 0). omega (arith, z))
          (λ (z : ◌≡◌ {A = ℕ} 11 0). omega (arith, z)) e) in
          (omega (arith, counted, there), omega (arith, counted, small))
      cases false e = (omega arith, omega arith)

  module _ (fs : List Entry) (same : fs ≡ es) where
    pub elements_as : first (elements_order message fs) ≡ first (elements_order message es)
    elements_as = ap (λ (l : List Entry). first (elements_order message l)) same

    pub listed_is : (before last : List ℕ) (n : ℕ) →
        Passed n ≡ stage_of (first (elements_order message fs)) (length (recipients_in message fs)) →
        last ≡ written 0 (flat_recipients (recipients_in message fs)) before →
        (first (elements_order message es) ≡ 0) × (((1 ≤ n) × (n ≤ 8)) × (recipients_of n last ≡ recipients_in message es))
    listed_is before last n a l =
        let told = passed_is n (first (elements_order message es)) (length (recipients_in message es))
        (a ∙ ap (λ (l : List Entry). stage_of (first (elements_order message l)) (length (recipients_in message l))) same) in (
          told.0,
          (
            subst (λ (k : ℕ). (1 ≤ k) × (k ≤ 8)) (sym told.1) (elements_number told.0),
            ap₂ recipients_of told.1
                (l ∙ ap (λ (k : List Entry). written 0 (flat_recipients (recipients_in message k)) before) same)
                ∙ recipients_written (recipients_in message es) before,
          ),
        )

-- 5 on all components, by what the top level holds and the recipients as they are known.
pub misspelled_as : (message : List ℕ) (es : List Entry) (t : Top) (rs : List Recipient) → t ≡ top_of es →
    rs ≡ recipients_in message es → any (misspelled message) (all_places t.components rs) ≡ any_misspelled message es
unfolding any_misspelled
misspelled_as message es t rs e f =
    ap₂ (λ (u : Top) (k : List Recipient). any (misspelled message) (all_places u.components k)) e f

-- Where none is misspelled, the protected header is not.
pub protected_sound : (message : List ℕ) (q : Components) (rs : List Recipient) →
    any (misspelled message) (all_places q rs) ≡ false → misspelled message q.protected ≡ false
unfolding all_places any
protected_sound message q rs e = cases (misspelled message q.protected) _ e
  where
    cases : (a b : Bool) → (a || b) ≡ false → a ≡ false
    cases true b e = e
    cases false b e = refl
