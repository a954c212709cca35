-- What one turn of the loop over entries does, and how values, objects and arrays open, in the terms of code that has
-- read the octets named. These laws are for the proofs of the functions.
use mathlib.Core.Path.{◌≡◌, refl, sym, ap, ◌∙◌}
use mathlib.Core.List.{List}
use mathlib.Core.Bool.{true, false, cond}
use mathlib.Core.Option.{Option, none}
use Prim.Native.Nat.{ℕ, zero, suc, ◌+◌, ◌-◌, ◌<◌}
use native.Mathlib.Nat.{not-suc-le-zero}
use native.Mathlib.Numerals.{sub-one}
use native.Mathlib.Omega.{arith}
use lib.ListN.{length}
use lib.Dec.{eqb}
use borrow.Author.Tests.{eq-eqb, ne_eqb}
use Rattle.grammar.specs.Grammar.{quote, colon, comma, Bracket, curly, square, closing, opening, letter_t, letter_f}
use Rattle.grammar.specs.Grammar.{letter_n, letters, literal-true, literal-false, literal-null}
use Rattle.grammar.specs.Places.{kind_nested}
use Rattle.grammar.specs.Reader.{octet_at, step, skip_space, refused, ended, string_at, Answer, nothing, found}
use Rattle.grammar.specs.Reader.{colon_at, before_at, Entry, entry_of, value_after, entry_at, close_or, after_entry}
use Rattle.grammar.specs.Reader.{entries_at, rows_after, rows_at, nested_at, nested_within, is_number_start, of_kind}
use Rattle.grammar.specs.Reader.{number_at, word_at, value_with, value_at}

-- Entries: one turn of the loop

pred_suc : (n : ℕ) → 0 < n → n ≡ suc (n - 1)
pred_suc zero h = absurd (not-suc-le-zero h)
pred_suc (suc n) h = ap suc (sym (sub-one (suc n)))

-- No turn is left.
pub entries_none : (inner : ℕ → Answer) (b : Bracket) (s : List ℕ) (at : ℕ) → nothing ≡ entries_at inner b s 0 at
unfolding entries_at
entries_none inner b s at = refl

module _ (inner : ℕ → Answer) (b : Bracket) (s : List ℕ) (left at : ℕ) (h : 0 < left) where
  -- One turn, by the entry that is read.
  pub entries_turn : (o : Option Entry) → o ≡ entry_at inner b s at →
      after_entry b s (entries_at inner b s (left - 1)) o ≡ entries_at inner b s left at
  unfolding entries_at
  entries_turn o e =
      ap (after_entry b s (entries_at inner b s (left - 1))) e
      ∙ sym (ap (λ (n : ℕ). entries_at inner b s n at) (pred_suc left h))

  -- The rows of one turn.
  pub rows_turn : (o : Option Entry) → o ≡ entry_at inner b s at →
      rows_after s (rows_at inner b s (left - 1)) o ≡ rows_at inner b s left at
  unfolding rows_at
  rows_turn o e =
      ap (rows_after s (rows_at inner b s (left - 1))) e
      ∙ sym (ap (λ (n : ℕ). rows_at inner b s n at) (pred_suc left h))

-- The entry that is read, by what stands before its value.
module _ (inner : ℕ → Answer) (s : List ℕ) (at : ℕ) where
  pub element_entry : (r : Answer) → r ≡ inner at →
      entry_of (record { start = 0; size = 0 }) at r ≡ entry_at inner square s at
  unfolding entry_at before_at
  element_entry r e = ap (entry_of (record { start = 0; size = 0 }) at) e

  -- A member's name ends at e.
  module _ (e : ℕ) (he : ended e ≡ string_at s at) (c b : ℕ) (hc : c ≡ skip_space s e) (hb : b ≡ octet_at s c) where
    pub member_no_colon : (b ≡ colon → ⊥) → none ≡ entry_at inner curly s at
    unfolding entry_at before_at
    member_no_colon f = sym (rw (sym he, sym hc, sym hb, ne_eqb b colon f))

    pub member_entry : b ≡ colon → (v : ℕ) → v ≡ skip_space s (step s c) → (r : Answer) → r ≡ inner v →
        entry_of (record { start = at + 1; size = e - (at + 2) }) v r ≡ entry_at inner curly s at
    unfolding entry_at before_at
    member_entry f v hv r hr =
        sym (rw (sym he, sym hc, sym hb, eq-eqb b colon f) (simp (sym hv, sym hr)))

  pub member_no_name : refused ≡ string_at s at → none ≡ entry_at inner curly s at
  unfolding entry_at before_at
  member_no_name e = ap (λ z. value_after inner (colon_at s at z)) e

-- What follows an entry's value, as the code finds it: it stands at `after`, and c is its octet.
module _ (s : List ℕ) (b : Bracket) (others : ℕ → Answer) (after c : ℕ) (hc : c ≡ octet_at s after) where
  pub close_end : (n : ℕ) → c ≡ closing b → n ≡ step s after → found n (kind_nested b) ≡ close_or b s others after
  close_end n e p = rw (eq-eqb _ _ (sym hc ∙ e)) (ap (λ i. found i (kind_nested b)) p)

  pub close_bad : (c ≡ closing b → ⊥) → (c ≡ comma → ⊥) → nothing ≡ close_or b s others after
  close_bad e f = simp (sym hc, ne_eqb _ _ e, ne_eqb _ _ f)

  pub close_more : (n : ℕ) → (c ≡ closing b → ⊥) → c ≡ comma → n ≡ skip_space s (step s after) →
      others n ≡ close_or b s others after
  close_more n e f p = simp (sym hc, ne_eqb _ _ e, eq-eqb _ _ f, p)

-- How an object or an array opens: past its bracket, with `first` behind the space and c its octet.
module _ (s : List ℕ) (levels : ℕ) (b : Bracket) (at : ℕ) where
  pub nested_deep : levels ≡ 0 → nothing ≡ nested_within levels b s at
  unfolding nested_within
  nested_deep e = rw e

  module _ (h : levels ≡ 0 → ⊥) (first c : ℕ) (hf : first ≡ skip_space s at) (hc : c ≡ octet_at s first) where
    nested_is : nested_within levels b s at ≡ nested_at (value_at (levels - 1) s) b s at
    unfolding nested_within
    nested_is = ap (λ (n : ℕ). nested_within n b s at) (pred_suc levels (omega arith))

    pub nested_empty : (n : ℕ) → c ≡ closing b → n ≡ step s first → found n (kind_nested b) ≡ nested_within levels b s at
    unfolding nested_at
    nested_empty n e p =
        ap (λ i. found i (kind_nested b)) p ∙ sym (nested_is ∙ rw (sym hf, sym hc, eq-eqb c (closing b) e))

    pub nested_open : (c ≡ closing b → ⊥) →
        entries_at (value_at (levels - 1) s) b s (length s) first ≡ nested_within levels b s at
    unfolding nested_at
    nested_open e = sym (nested_is ∙ rw (sym hf, sym hc, ne_eqb c (closing b) e))

-- A value is what its first octet c says.
module _ (s : List ℕ) (levels at c : ℕ) (hc : c ≡ octet_at s at) where
  pub value_is : value_at levels s at ≡ value_with (λ b p. nested_within levels b s p) s at c
  unfolding value_at nested_within
  value_is = cases levels
    where
      cases : (n : ℕ) → value_at n s at ≡ value_with (λ b p. nested_within n b s p) s at c
      cases zero = ap (value_with (λ b p. nothing) s at) (sym hc)
      cases (suc n) = ap (value_with (λ b p. nested_at (value_at n s) b s p) s at) (sym hc)

  pub value_object : (first : ℕ) → c ≡ opening curly → first ≡ step s at →
      nested_within levels curly s first ≡ value_at levels s at
  unfolding value_with
  value_object first e f = sym (value_is ∙ simp (eq-eqb c (opening curly) e, sym f))

  module _ (n₁ : c ≡ opening curly → ⊥) where
    pub value_array : (first : ℕ) → c ≡ opening square → first ≡ step s at →
        nested_within levels square s first ≡ value_at levels s at
    unfolding value_with
    value_array first e f = sym (value_is ∙ simp (ne_eqb c (opening curly) n₁, eq-eqb c (opening square) e, sym f))

    module _ (n₂ : c ≡ opening square → ⊥) where
      pub value_string : c ≡ quote → of_kind 2 (string_at s at) ≡ value_at levels s at
      unfolding value_with
      value_string e =
          sym (value_is ∙ simp (ne_eqb c (opening curly) n₁, ne_eqb c (opening square) n₂, eq-eqb c quote e))

      module _ (n₃ : c ≡ quote → ⊥) where
        -- Past the brackets and the quotation mark.
        value_other : value_at levels s at
            ≡ cond (eqb c letter_t) (of_kind 4 (word_at (letters literal-true) s at))
            (cond (eqb c letter_f) (of_kind 5 (word_at (letters literal-false) s at))
            (cond (eqb c letter_n) (of_kind 6 (word_at (letters literal-null) s at))
            (cond (is_number_start c) (of_kind 3 (number_at s at)) nothing)))
        unfolding value_with
        value_other =
            value_is
            ∙ simp (ne_eqb c (opening curly) n₁, ne_eqb c (opening square) n₂, ne_eqb c quote n₃)

        pub value_true : c ≡ letter_t → of_kind 4 (word_at (letters literal-true) s at) ≡ value_at levels s at
        value_true e = sym (value_other ∙ simp (eq-eqb c letter_t e))

        module _ (n₄ : c ≡ letter_t → ⊥) where
          pub value_false : c ≡ letter_f → of_kind 5 (word_at (letters literal-false) s at) ≡ value_at levels s at
          value_false e = sym (value_other ∙ simp (ne_eqb c letter_t n₄, eq-eqb c letter_f e))

          module _ (n₅ : c ≡ letter_f → ⊥) where
            pub value_null : c ≡ letter_n → of_kind 6 (word_at (letters literal-null) s at) ≡ value_at levels s at
            value_null e = sym (value_other ∙ simp (ne_eqb c letter_t n₄, ne_eqb c letter_f n₅, eq-eqb c letter_n e))

            module _ (n₆ : c ≡ letter_n → ⊥) where
              pub value_number : is_number_start c ≡ true → of_kind 3 (number_at s at) ≡ value_at levels s at
              value_number e =
                  sym
                  (value_other ∙ simp (ne_eqb c letter_t n₄, ne_eqb c letter_f n₅, ne_eqb c letter_n n₆, e))

              pub value_none : is_number_start c ≡ false → nothing ≡ value_at levels s at
              value_none e =
                  sym
                  (value_other ∙ simp (ne_eqb c letter_t n₄, ne_eqb c letter_f n₅, ne_eqb c letter_n n₆, e))
