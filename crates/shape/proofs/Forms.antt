-- The recipients of a flattened message, which is its own, and of a general one: those at the starts of its elements.
use mathlib.Core.Path.{◌≡◌, refl, ap, ap₂, sym, subst, ◌∙◌}
use mathlib.Core.Bool.{Bool, true, false, cond}
use mathlib.Core.List.{List, [], ◌∷◌, ◌++◌, map, flat_map}
use Prim.Native.Nat.{ℕ, ◌≤◌}
use native.Mathlib.Omega.{arith}
use lib.ListN.{length, take}
use lib.Dec.{eqb, ltb}
use borrow.Author.Tests.{ltb-false, eq-eqb, ne_eqb}
use Rattle.prelude.specs.Buffer.{written}
use Rattle.prelude.proofs.Writing.{begins}
use Rattle.grammar.specs.Places.{Element}
use Rattle.grammar.specs.Reader.{elements_at}
use Rattle.rows.specs.Rows.{Entry, present, value_of}
use Rattle.prelude.specs.Refusals.{Test, ◌if◌, first, stage_of}
use Rattle.prelude.proofs.Refusals.{nonzero}
use Rattle.prelude.specs.Refusals.{Stage}
use Rattle.prelude.specs.Refusals.{Passed, Refused}
use Rattle.headers.proofs.Stages.{passed_is, refused_is}
use Rattle.shape.specs.Shape.{Recipient, recipient_of, wrong_elements}
use Rattle.shape.specs.Recipients.{elements_in, element_entries, element_order, elements_order, recipients_in}
use Rattle.shape.specs.Inner.Answers.{three, flat_recipients, array_order, starts_of, starts_order, recipients_at, passed_at, written_in, Leaves}
use Rattle.shape.proofs.Orders.{handed_up, gone_on, both_pass}
use Rattle.shape.proofs.Reading.{element_nonzero}
use Rattle.shape.proofs.Walking.{starts_length}

-- Elements by their starts.

order_starts : (message : List ℕ) (xs : List Element) →
    flat_map (λ (x : Element). element_order message x.start) xs ≡ starts_order message (starts_of xs)
unfolding flat_map starts_order starts_of
order_starts message [] = refl
order_starts message (x ∷ xs) =
    ap (λ (l : List Test). element_order message x.start ++ l) (order_starts message xs)

recipients_starts : (message : List ℕ) (xs : List Element) →
    map (λ (x : Element). recipient_of (element_entries message x.start)) xs ≡ recipients_at message (starts_of xs)
unfolding recipients_at starts_of
recipients_starts message [] = refl
recipients_starts message (x ∷ xs) =
    ap (λ (l : List Recipient). recipient_of (element_entries message x.start) ∷ l) (recipients_starts message xs)

recipients_length : (message starts : List ℕ) → length (recipients_at message starts) ≡ length starts
unfolding recipients_at
recipients_length message [] = refl
recipients_length message (x ∷ starts) = omega (arith, recipients_length message starts)

array_nonzero : (xs : List Element) → nonzero (array_order xs) ≡ true
unfolding array_order
array_nonzero xs = refl

few : (xs : List Element) → first (array_order xs) ≡ 0 → length xs ≤ 8
unfolding first array_order
few xs e = ltb-false 8 (length xs) (cases (wrong_elements xs) (ltb 8 (length xs)) e)
  where
    cases : (a b : Bool) → ◌≡◌ {A = ℕ} (cond a 10 (cond b 11 0)) 0 → b ≡ false
    cases true b z = let absurdity : ◌≡◌ {A = ℕ} 10 0 = z in absurd (omega arith)
    cases false true z = let absurdity : ◌≡◌ {A = ℕ} 11 0 = z in absurd (omega arith)
    cases false false z = refl

-- What is written of a general message's recipients.
abbrev general_written : List ℕ → List Element → List Recipient
general_written message xs = cond (eqb (first (array_order xs)) 0) (passed_at message (starts_of xs)) []

-- All are, where none is refused.
all_passed : (message starts : List ℕ) → first (starts_order message starts) ≡ 0 →
    passed_at message starts ≡ recipients_at message starts
unfolding starts_order passed_at recipients_at
all_passed message [] e = refl
all_passed message (x ∷ starts) e =
    let here = both_pass (element_order message x) (starts_order message starts) (element_nonzero message x) e in
    ap (λ (b : Bool). cond b (recipient_of (element_entries message x) ∷ passed_at message starts) [])
    (eq-eqb (first (element_order message x)) 0 here.0)
    ∙ ap (λ (l : List Recipient). recipient_of (element_entries message x) ∷ l) (all_passed message starts here.1)

-- Flattened: there is no `recipients`.
module _ (message : List ℕ) (es : List Entry) (p : present 5 es ≡ false) where
  no_order : elements_order message es ≡ []
  unfolding elements_order
  no_order =
      ap (λ (b : Bool). cond b
      (10 if wrong_elements (elements_in message es)
      ∷ 11 if ltb 8 (length (elements_in message es))
      ∷ flat_map (λ (x : Element). element_order message x.start) (elements_in message es))
      []) p

  itself : recipients_in message es ≡ recipient_of es ∷ []
  unfolding recipients_in
  itself =
      ap (λ (b : Bool). cond b
      (map (λ (x : Element). recipient_of (element_entries message x.start)) (elements_in message es))
      (recipient_of es ∷ [])) p

  alone : written_in message es ≡ recipients_in message es
  unfolding written_in
  alone =
      ap (λ (b : Bool). cond b (general_written message (elements_in message es)) (recipient_of es ∷ [])) p ∙ sym itself

  pub flattened : Passed 1 ≡ stage_of (first (elements_order message es)) (length (recipients_in message es))
  unfolding first stage_of
  flattened =
      sym (ap₂ (λ (o : List Test) (rs : List Recipient). stage_of (first o) (length rs)) no_order itself)

  pub flattened_numbers : three (recipient_of es) ≡ flat_recipients (written_in message es)
  unfolding flat_recipients written_in
  flattened_numbers =
      sym (ap (λ (b : Bool). flat_recipients (cond b (general_written message (elements_in message es)) (recipient_of es ∷ []))) p)

-- General: xs are the elements of `recipients`.
module _ (message : List ℕ) (es : List Entry) (p : present 5 es ≡ true) (at : ℕ) (v : at ≡ (value_of 5 es).start) where
  abbrev xs : List Element
  xs = elements_at 12 message at

  all : elements_in message es ≡ elements_at 12 message at
  unfolding elements_in
  all = ap (λ (a : ℕ). elements_at 12 message a) (sym v)

  order : elements_order message es ≡ array_order xs ++ starts_order message (starts_of xs)
  unfolding elements_order array_order
  order =
      ap (λ (b : Bool). cond b
      (10 if wrong_elements (elements_in message es)
      ∷ 11 if ltb 8 (length (elements_in message es))
      ∷ flat_map (λ (x : Element). element_order message x.start) (elements_in message es))
      []) p
      ∙ ap (λ (ys : List Element). 10 if wrong_elements ys
      ∷ 11 if ltb 8 (length ys)
      ∷ flat_map (λ (x : Element). element_order message x.start) ys) all
      ∙ ap (λ (l : List Test). 10 if wrong_elements xs ∷ 11 if ltb 8 (length xs) ∷ l) (order_starts message xs)

  are : recipients_in message es ≡ recipients_at message (starts_of xs)
  unfolding recipients_in
  are =
      ap (λ (b : Bool). cond b
      (map (λ (x : Element). recipient_of (element_entries message x.start)) (elements_in message es))
      (recipient_of es ∷ [])) p
      ∙ ap (λ (ys : List Element). map (λ (x : Element). recipient_of (element_entries message x.start)) ys) all
      ∙ recipients_starts message xs

  wrote : written_in message es ≡ general_written message xs
  unfolding written_in
  wrote =
      ap (λ (b : Bool). cond b (general_written message (elements_in message es)) (recipient_of es ∷ [])) p
      ∙ ap (general_written message) all

  module _ (walked : Stage) (a : walked ≡ stage_of (first (array_order (elements_at 12 message at)))
      (length (elements_at 12 message at))) where
    -- The walk refuses.
    pub general_refused : (m : ℕ) → walked ≡ Refused m →
        walked ≡ stage_of (first (elements_order message es)) (length (recipients_in message es))
    general_refused m e =
        e ∙ handed_up (array_order xs) (starts_order message (starts_of xs)) (array_nonzero xs) m (length xs)
        (length (recipients_in message es)) (sym e ∙ a)
        ∙ ap (λ (o : List Test). stage_of (first o) (length (recipients_in message es))) (sym order)

    pub general_none : (m : ℕ) → walked ≡ Refused m → (before : List ℕ) →
        before ≡ written 0 (flat_recipients (written_in message es)) before
    unfolding written flat_recipients
    general_none m e before =
        let told = refused_is m (first (array_order xs)) (length xs) (sym e ∙ a) in
        let none : written_in message es ≡ [] =
        wrote ∙ ap (λ (b : Bool). cond b (passed_at message (starts_of xs)) [])
        (ne_eqb (first (array_order xs)) 0 (λ z. omega (arith, z, told.0, told.1))) in
        sym (ap (λ (rs : List Recipient). written 0 (flat_recipients rs) before) none)

    module _ (n : ℕ) (e : walked ≡ Passed n) where
      told : (first (array_order xs) ≡ 0) × (n ≡ length xs)
      told = passed_is n (first (array_order xs)) (length xs) (sym e ∙ a)

      -- There are no more than 8.
      pub eight : n ≤ 8
      eight = omega (arith, told.1, few xs told.0)

      -- The starts that the walk wrote.
      pub starts_count : n ≡ length (starts_of (elements_at 12 message at))
      starts_count = told.1 ∙ sym (starts_length xs)

      pub starts_are : (before last : List ℕ) → Leaves (starts_of (elements_at 12 message at)) before last walked →
          take n last ≡ starts_of (elements_at 12 message at)
      starts_are before last l =
          begins n (starts_of xs) last before (starts_length xs ∙ sym told.1)
          (subst (λ (r : Stage). Leaves (starts_of xs) before last r) e l)

      -- What reading them answers and leaves.
      module _ (starts : List ℕ) (s : starts ≡ starts_of (elements_at 12 message at)) where
        pub general : (r : Stage) → r ≡ stage_of (first (starts_order message starts)) (length starts) →
            r ≡ stage_of (first (elements_order message es)) (length (recipients_in message es))
        general r b =
            let count : length starts ≡ length (recipients_in message es) =
            ap length s ∙ sym (recipients_length message (starts_of xs)) ∙ sym (ap length are) in
            b ∙ ap₂ (λ (l : List ℕ) (k : ℕ). stage_of (first (starts_order message l)) k) s count
            ∙ sym (gone_on (array_order xs) (starts_order message (starts_of xs)) (array_nonzero xs) n (length xs)
            (length (recipients_in message es)) (sym e ∙ a))
            ∙ ap (λ (o : List Test). stage_of (first o) (length (recipients_in message es))) (sym order)

        pub general_writes : passed_at message starts ≡ written_in message es
        general_writes =
            ap (passed_at message) s
            ∙ sym (ap (λ (b : Bool). cond b (passed_at message (starts_of xs)) [])
            (eq-eqb (first (array_order xs)) 0 told.0))
            ∙ sym wrote

-- Where nothing is refused, all recipients are written.
pub all_written : (message : List ℕ) (es : List Entry) → first (elements_order message es) ≡ 0 →
    written_in message es ≡ recipients_in message es
all_written message es e = cases (present 5 es) refl
  where
    cases : (b : Bool) → present 5 es ≡ b → written_in message es ≡ recipients_in message es
    cases true p =
        let xs = elements_at 12 message (value_of 5 es).start in
        let passed = both_pass (array_order xs) (starts_order message (starts_of xs)) (array_nonzero xs)
        (sym (ap first (order message es p (value_of 5 es).start refl)) ∙ e) in
        wrote message es p (value_of 5 es).start refl
        ∙ ap (λ (b : Bool). cond b (passed_at message (starts_of xs)) [])
        (eq-eqb (first (array_order xs)) 0 passed.0)
        ∙ all_passed message (starts_of xs) passed.1
        ∙ sym (are message es p (value_of 5 es).start refl)
    cases false p = alone message es p
