-- The first refusal of a compact message, stage by stage: that of the first stage that refuses.
use mathlib.Core.Path.{◌≡◌, refl, ap, sym, ◌∙◌}
use mathlib.Core.Bool.{Bool, true, false, not, cond}
use mathlib.Core.List.{List, [], ◌∷◌, ◌++◌}
use Prim.Native.Nat.{ℕ, ◌≤◌, ◌<◌}
use lib.Dec.{leb, eqb}
use borrow.Author.Tests.{le-leb, lt-leb, eqb-true, eqb-false}
use Rattle.prelude.specs.Any.{any}
use Rattle.rows.specs.Rows.{Entry, Texts, read_texts}
use Rattle.prelude.specs.Refusals.{Test, ◌if◌, first}
use Rattle.jose.specs.declared.Sizes.{Sizes}
use Rattle.jose.specs.HeaderRules.{recipient_order}
use Rattle.prelude.proofs.Refusals.{nonzero, first_append, first_fails, first_passes, first_skip}
use Rattle.headers.specs.Components.{places, misspelled, sizes_of}
use Rattle.headers.specs.Headers.{header_text, text_order, protected_entries, object_order}
use Rattle.headers.proofs.Stages.{text_nonzero, object_nonzero, stopped}
use Rattle.jwe.specs.Compact.{four_stops, compact_components, compact_spelled, compact_later, compact_order}

-- No rule has the number 0.
pub rules_nonzero : (known : List (List ℕ)) (ts : Texts) (es : List Entry) (z : Sizes) →
    nonzero (recipient_order known ts es z) ≡ true
unfolding recipient_order
rules_nonzero known ts es z = refl

-- The decoded protected header, and its parameters.

abbrev pub header : List ℕ → List ℕ
header message = header_text message (compact_components message).protected

abbrev pub entries : List ℕ → List Entry
entries message = protected_entries (header message)

-- Where nothing is refused, neither is it by a stage nor behind it.
pub both_pass : (xs ys : List Test) → nonzero xs ≡ true → first (xs ++ ys) ≡ 0 → (first xs ≡ 0) × (first ys ≡ 0)
both_pass xs ys p e = cases (eqb (first xs) 0) refl (sym (first_append xs ys p) ∙ e)
  where
    cases : (b : Bool) → eqb (first xs) 0 ≡ b → cond b (first ys) (first xs) ≡ 0 → (first xs ≡ 0) × (first ys ≡ 0)
    cases true t e = (eqb-true (first xs) 0 t, e)
    cases false t e = absurd (eqb-false (first xs) 0 t e)

module _ (message : List ℕ) (known : List (List ℕ)) (recipient : ℕ) where
  -- Its stages.
  abbrev texts : List Test
  texts = text_order (header message)

  abbrev objects : List Test
  objects = object_order (header message) (entries message)

  abbrev pub rules : List Test
  rules = recipient_order known (read_texts (header message) message) (entries message) (sizes_of (compact_components message))

  rules_numbers : nonzero rules ≡ true
  rules_numbers =
      rules_nonzero known (read_texts (header message) message) (entries message) (sizes_of (compact_components message))

  abbrev last : List Test
  last = 19 if leb 1 recipient ∷ []

  -- Where nothing is refused, 8 and 9 pass.
  pub objects_pass : first (compact_order message known recipient) ≡ 0 → first objects ≡ 0
  unfolding compact_order
  objects_pass e =
      let spelled = both_pass (compact_spelled message) (compact_later known message (compact_components message) recipient) refl e in
      let read = both_pass texts (objects ++ (rules ++ last)) (text_nonzero (header message)) spelled.1 in
      (both_pass objects (rules ++ last) (object_nonzero (header message) (entries message)) read.1).0

  pub first_4 : four_stops message ≡ false → first (compact_order message known recipient) ≡ 4
  unfolding compact_order
  first_4 e = first_fails (4 if not (four_stops message)) _ (ap not e)

  module _ (four : four_stops message ≡ true) where
    pub first_5 : any (misspelled message) (places (compact_components message)) ≡ true →
        first (compact_order message known recipient) ≡ 5
    unfolding compact_order
    first_5 e =
        first_passes (4 if not (four_stops message)) _ (ap not four)
        ∙ first_fails (5 if any (misspelled message) (places (compact_components message))) _ e

    module _ (spelled : any (misspelled message) (places (compact_components message)) ≡ false) where
      behind_5 : first (compact_order message known recipient)
          ≡ first (texts ++ (objects ++ (rules ++ last)))
      unfolding compact_order
      behind_5 =
          first_passes (4 if not (four_stops message)) _ (ap not four)
          ∙ first_passes (5 if any (misspelled message) (places (compact_components message))) _ spelled

      pub first_text : (n : ℕ) → first texts ≡ n → 0 < n →
          first (compact_order message known recipient) ≡ n
      first_text n e h =
          behind_5
          ∙ stopped texts (objects ++ (rules ++ last)) (text_nonzero (header message)) n e h

      module _ (read : first texts ≡ 0) where
        behind_7 : first (compact_order message known recipient)
            ≡ first (objects ++ (rules ++ last))
        behind_7 =
            behind_5
            ∙ first_skip texts (objects ++ (rules ++ last)) (text_nonzero (header message)) read

        pub first_object : (n : ℕ) → first objects ≡ n → 0 < n →
            first (compact_order message known recipient) ≡ n
        first_object n e h =
            behind_7 ∙ stopped objects (rules ++ last) (object_nonzero (header message) (entries message)) n e h

        module _ (few : first objects ≡ 0) where
          behind_9 : first (compact_order message known recipient) ≡ first (rules ++ last)
          behind_9 =
              behind_7 ∙ first_skip objects (rules ++ last) (object_nonzero (header message) (entries message)) few

          pub first_rule : (n : ℕ) → first rules ≡ n → 0 < n → first (compact_order message known recipient) ≡ n
          first_rule n e h =
              behind_9 ∙ stopped rules last rules_numbers n e h

          module _ (ruled : first rules ≡ 0) where
            behind_18 : first (compact_order message known recipient) ≡ first last
            behind_18 =
                behind_9 ∙ first_skip rules last rules_numbers ruled

            pub first_19 : 1 ≤ recipient → first (compact_order message known recipient) ≡ 19
            first_19 h = behind_18 ∙ first_fails (19 if leb 1 recipient) [] (le-leb 1 recipient h)

            pub first_none : recipient < 1 → first (compact_order message known recipient) ≡ 0
            unfolding first
            first_none h = behind_18 ∙ first_passes (19 if leb 1 recipient) [] (lt-leb 1 recipient h)
