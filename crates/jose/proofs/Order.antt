-- Rules asked in order: what is known of the first that is broken once those before a place have passed.
use mathlib.Core.Path.{◌≡◌, refl, ap, ap₂, sym, ◌∙◌}
use mathlib.Core.Bool.{Bool, true, false, cond, true≢false}
use mathlib.Core.List.{List, ◌∷◌, map}
use Prim.Native.Nat.{ℕ, ◌+◌, ◌≤◌, ◌<◌}
use lib.ListN.{length, drop, get_or, drop_of_length-le}
use borrow.Author.Tests.{ne_eqb}
use Rattle.prelude.specs.Refusals.{◌if◌, first, stage_of}
use Rattle.prelude.specs.Refusals.{Passed, Refused}
use Rattle.prelude.proofs.Lists.{drop_next}
use Rattle.prelude.proofs.Refusals.{first_fails, first_passes}
use Rattle.rows.specs.Rows.{Entry, Texts}
use Rattle.std.proofs.lemmas.List.{get_or-map, length-map}
use Rattle.jose.specs.HeaderRules.{breaks, tests_of, rules_order, wrong_key, mode_in}
use Rattle.jose.specs.declared.Sizes.{Sizes}
use Rattle.jose.specs.declared.judge.Rule.{Rule}
use Rattle.jose.specs.declared.judge.Rule.TheVariants.{NameInTwoHeaders}
use Rattle.jose.specs.Inner.Rules.{rule_number}

-- A number that is no rule's is not broken.
pub no_rule : (known : List (List ℕ)) (ts : Texts) (es : List Entry) (badKey : Bool) (n : ℕ) →
    (n ≡ 12 → ⊥) → (n ≡ 13 → ⊥) → (n ≡ 14 → ⊥) → (n ≡ 15 → ⊥) → (n ≡ 16 → ⊥) → (n ≡ 17 → ⊥) → (n ≡ 18 → ⊥) →
    breaks known ts es badKey n ≡ false
no_rule known ts es badKey n a b c d e f g =
    simp (ne_eqb n 12 a, ne_eqb n 13 b, ne_eqb n 14 c, ne_eqb n 15 d, ne_eqb n 16 e, ne_eqb n 17 f, ne_eqb n 18 g)

module _ (known : List (List ℕ)) (ts : Texts) (es : List Entry) (badKey : Bool) where
  abbrev pub broken : ℕ → Bool
  broken = breaks known ts es badKey

  abbrev pub ordered : List ℕ → ℕ
  ordered rules = first (tests_of known ts es badKey rules)

  module _ (rules : List ℕ) (i : ℕ) (before : ordered (drop i rules) ≡ ordered rules) where
    module _ (more : i < length rules) where
      next : ordered rules
          ≡ first (get_or rules i 0 if broken (get_or rules i 0) ∷ tests_of known ts es badKey (drop (i + 1) rules))
      next = sym before ∙ ap ordered (drop_next rules i (i + 1) refl more)

      -- The rule there is kept.
      pub rule_kept : broken (get_or rules i 0) ≡ false → ordered (drop (i + 1) rules) ≡ ordered rules
      rule_kept e = sym (next ∙ first_passes _ _ e)

      -- It is broken. Then it is a rule's number, and not 0.
      pub rule_broken : broken (get_or rules i 0) ≡ true → (mode : ℕ) → Refused (get_or rules i 0) ≡ stage_of (ordered rules) mode
      unfolding stage_of
      rule_broken e mode =
          let n = get_or rules i 0 in
          let some : n ≡ 0 → ⊥ = λ z. true≢false (sym e ∙ ap broken z) in
          sym (ap (λ (k : ℕ). stage_of k mode) (next ∙ first_fails _ _ e)
          ∙ ap (λ (b : Bool). cond b (Passed mode) (Refused n)) (ne_eqb n 0 some))

    -- None is left.
    pub rules_kept : length rules ≤ i → (mode : ℕ) → Passed mode ≡ stage_of (ordered rules) mode
    unfolding stage_of first
    rules_kept over mode =
        let none : ordered rules ≡ 0 = sym before ∙ ap ordered (drop_of_length-le rules over) in
        sym (ap (λ (k : ℕ). stage_of k mode) none)

  -- The same of rules by their names.
  module _ (rules : List Rule) (i : ℕ) (before : ordered (drop i (map rule_number rules)) ≡ ordered (map rule_number rules)) where
    module _ (more : i < length rules) where
      numbered : get_or (map rule_number rules) i 0 ≡ rule_number (get_or rules i NameInTwoHeaders)
      numbered = get_or-map rule_number rules i NameInTwoHeaders 0 more

      pub named_kept : broken (rule_number (get_or rules i NameInTwoHeaders)) ≡ false →
          ordered (drop (i + 1) (map rule_number rules)) ≡ ordered (map rule_number rules)
      named_kept e = rule_kept (map rule_number rules) i before (rw length-map more) (ap broken numbered ∙ e)

      pub named_broken : broken (rule_number (get_or rules i NameInTwoHeaders)) ≡ true → (mode : ℕ) →
          Refused (rule_number (get_or rules i NameInTwoHeaders)) ≡ stage_of (ordered (map rule_number rules)) mode
      named_broken e mode =
          ap (λ n. Refused n) (sym numbered)
          ∙ rule_broken (map rule_number rules) i before (rw length-map more) (ap broken numbered ∙ e) mode

    pub names_kept : length rules ≤ i → (mode : ℕ) → Passed mode ≡ stage_of (ordered (map rule_number rules)) mode
    names_kept over mode = rules_kept (map rule_number rules) i before (rw length-map over) mode

-- The rules are asked with the mode, and with the key's fault by it.
pub asked_so : (known : List (List ℕ)) (ts : Texts) (es : List Entry) (z : Sizes) (bad : Bool) (mode : ℕ) (ns : List ℕ) →
    bad ≡ wrong_key mode z → mode ≡ mode_in ts es →
    stage_of (first (tests_of known ts es bad ns)) mode ≡ stage_of (first (rules_order known ts es z ns)) (mode_in ts es)
asked_so known ts es z bad mode ns b m =
    ap₂ (λ bad mode. stage_of (first (tests_of known ts es bad ns)) mode) (b ∙ ap (λ (m : ℕ). wrong_key m z) m) m
