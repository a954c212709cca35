-- `sole` finds the first `enc` and seeks the next behind it: one that is alone, and a string, is where the definition has it.
use mathlib.Core.Path.{◌≡◌, ap, ap₂, sym, ◌∙◌}
use mathlib.Core.Bool.{true, false}
use mathlib.Core.List.{List, ◌∷◌}
use Prim.Native.Nat.{ℕ, ◌+◌, ◌-◌}
use Rattle.std.specs.Prelude.{Option, Some, None, is_some, MatchOption}
use Rattle.grammar.specs.Places.{Member}
use Rattle.rows.specs.Rows.{Entry}
use Rattle.rows.specs.Tables.{first_of}
use Rattle.rows.proofs.Values.{entry}
use Rattle.jose.proofs.ContentAlgorithm.{none_named, two_named, other_named, string_named}
use Rattle.jose.proofs.content.sole.Goals as goal

-- What is known of what was found, and of what was not.

found : (o : Option ℕ) (P : Type 0) (Q : ℕ → Type 0) → true ≡ is_some o → MatchOption o P Q → (i : ℕ) × Q i
found (Some i) P Q e h = (i, h)
found None P Q e h = cc

not_found : (o : Option ℕ) (P : Type 0) (Q : ℕ → Type 0) → false ≡ is_some o → MatchOption o P Q → P
not_found (Some i) P Q e h = cc
not_found None P Q e h = h

pub returns-in_err-at : goal.returns-in_err-at
returns-in_err-at c = c.from_residual.ensures ∙ none_named _ c.in_err-at.ensures

pub returns-then-is_some : goal.returns-then-is_some
returns-then-is_some c =
    let e = entry c.args.entries.table.now c.in_ok-at.at in
    let next = found _ _ _ c.if-is_some.ensures c.next-2.ensures in
    two_named _ (c.in_ok-at.ensures.1.1 ∙ ap (λ (rest : List Entry). e ∷ rest) next.1.1.1)

pub returns-then-kind-ne-STRING : goal.returns-then-kind-ne-STRING
returns-then-kind-ne-STRING c =
    let e = entry c.args.entries.table.now c.in_ok-at.at in
    let none = not_found _ _ _ c.if-is_some.ensures c.next-2.ensures in
    let kind = c.kind.ensures ∙ ap (λ (t : List ℕ). (first_of t).member.kind) c.at-e.ensures in
    other_named _ {e = e} (c.in_ok-at.ensures.1.1 ∙ ap (λ (rest : List Entry). e ∷ rest) none) (λ is. c.if-kind-ne-STRING.true (kind ∙ is))

pub returns : goal.returns
returns c =
    let e = entry c.args.entries.table.now c.in_ok-at.at in
    let none = not_found _ _ _ c.if-is_some.ensures c.next-2.ensures in
    let member = ap (λ (t : List ℕ). (first_of t).member) c.at-e.ensures in
    let kind = c.kind.ensures ∙ ap (λ (m : Member). m.kind) member in
    let place = c.value_place-value.ensures in
    ap₂ (λ (a b : ℕ). Some (record { start = a; len = b }))
    (ap (λ (n : ℕ). n + 1) (place.start_value ∙ ap (λ (m : Member). m.value_start) member))
    (c.minus.ensures ∙ ap (λ (n : ℕ). n - 2) (place.len_value ∙ ap (λ (m : Member). m.value_size) member))
    ∙ string_named _ {e = e} (c.in_ok-at.ensures.1.1 ∙ ap (λ (rest : List Entry). e ∷ rest) none) (sym kind ∙ c.if-kind-ne-STRING.false)
