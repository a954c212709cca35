-- Members paired by name, as many on either side: where the left names are distinct, so are the right ones, and each
-- right member is paired with a left one. `Counting` has the reason, in which nothing depends on names.
use mathlib.Core.Path.{◌≡◌, sym}
use mathlib.Core.List.{List, [], ◌∷◌}
use mathlib.Core.Logic.{◌↔◌}
use Prim.Native.Nat.{ℕ}
use lib.ListN.{length}
use Rattle.grammar.specs.Grammar.{Value}
use Rattle.grammar.specs.Strings.{says, SayAlike}
use Rattle.grammar.specs.Bounds.{Every}
use Rattle.meets.specs.Members.{Member, names_of, Some, Distinct}
use Rattle.meets.proofs.Deciding.{every_map, some_map}
use Rattle.same_values.specs.Same.{ByName}
use Rattle.same_values.proofs.Counting.{Apart, AllApart, counted}

-- What a member's name says.
abbrev said : Member → List ℕ
said m = says m.name

apart_names : (ms : List Member) → Distinct (names_of ms) ↔ AllApart said ms
apart_names [] = ((λ d. tt), (λ d. tt))
apart_names (m ∷ ms) =
    let r = apart_names ms in
    let o = others ms in
    ((λ d. (o.0 d.0, r.0 d.1)), (λ d. (o.1 d.0, r.1 d.1)))
  where
    others : (ns : List Member) → Every (λ y. SayAlike m.name y → ⊥) (names_of ns) ↔ Apart said (said m) ns
    others [] = ((λ h. tt), (λ h. tt))
    others (n ∷ ns) =
        let r = others ns in
        ((λ h. (h.0, r.0 h.1)), (λ h. (h.0, r.1 h.1)))

module _ (R : Value → Value → Type 0) (ms ns : List Member) (e : length ms ≡ length ns) (d : Distinct (names_of ms))
    (h : ByName R ms ns) where
  abbrev Pair : Member → Member → Type 0
  Pair m n = SayAlike m.name n.name × R m.value n.value

  both : AllApart said ns × Every (λ n. Some (λ m. Pair m n) ms) ns
  both = counted said said Pair (λ m n p. p.0) ms ns ((apart_names ms).0 d) h e

  pub right_distinct : Distinct (names_of ns)
  right_distinct = (apart_names ns).1 both.0

  pub right_paired : ByName (λ c d. R d c) ns ms
  right_paired =
      every_map (λ n. Some (λ m. Pair m n) ms)
      (λ n. Some (λ m. SayAlike n.name m.name × R m.value n.value) ms)
      (λ n. some_map (λ m. Pair m n) (λ m. SayAlike n.name m.name × R m.value n.value)
      (λ m p. (sym p.0, p.1)) ms)
      ns both.1
