-- Refusal 10 on one value: the test on a component decides that it is a string without a backslash, and not empty where
-- that is asked; the test on a header that it is an object with a member.
use mathlib.Core.Path.{◌≡◌, refl, ap, sym, subst, ◌∙◌}
use mathlib.Core.Bool.{Bool, true, false, ◌||◌, not, ◌&&◌, true≢false}
use mathlib.Core.Logic.{◌↔◌}
use mathlib.Core.List.{List, [], ◌∷◌, ◌++◌}
use Prim.Native.Nat.{ℕ, ◌+◌, ◌-◌}
use native.Mathlib.Omega.{arith}
use lib.ListN.{length}
use lib.Dec.{eqb, leb}
use borrow.Author.Tests.{eqb-true, eq-eqb}
use Rattle.parts.specs.Parts.{part, holds}
use Rattle.grammar.specs.Grammar.{quote, backslash, among, Octet, is_unescaped, Char, unescaped, escape, unicode}
use Rattle.grammar.specs.Grammar.{leaves_char, Str, leaves_chars, curly, Value, string}
use Rattle.grammar.specs.Places.{kind}
use Rattle.grammar.specs.Bounds.{Every}
use Rattle.grammar.proofs.Scan.{both_T, false_of}
use Rattle.shape.specs.Shape.{hollow}
use Rattle.meets.specs.Meets.{Unescaped, Plain, Filled, Header}
use Rattle.meets.proofs.Standing.{Stands, string_stands, kind_string, is_string}
use Rattle.meets.proofs.Rows.{hollow_stands}
use Rattle.meets.proofs.Saying.{refuted}
use Rattle.meets.proofs.Deciding.{TrueWhere, FalseWhere, not_where, not_none_where, neither}
use Rattle.meets.proofs.Deciding.{where_asked, or_false}

-- Characters

-- An unescaped octet is no backslash.
no_backslash : (o : Octet is_unescaped) → eqb o.code backslash ≡ false
no_backslash o =
    let c = o.code in
    let t = (both_T (leb 32 c && leb c 255) (not (among (quote ∷ backslash ∷ []) c)) o.fits).1 in
    let h = (or_false (eqb c quote) (eqb c backslash || false)).0 (false_of (among (quote ∷ backslash ∷ []) c) t) in
    ((or_false (eqb c backslash) false).0 h.1).0

pub escaped_where : (cs : List Char) → FalseWhere (holds backslash (leaves_chars cs)) (Every Unescaped cs)
unfolding leaves_chars leaves_char holds
escaped_where [] = ((λ e. tt), (λ h. refl))
escaped_where (unescaped o ∷ cs) =
    let t = escaped_where cs in
    let n = no_backslash o in (
      (λ e. (tt, t.0 ((or_false (eqb o.code backslash) (holds backslash (leaves_chars cs))).0 e).1)),
      (λ h. (or_false (eqb o.code backslash) (holds backslash (leaves_chars cs))).1 (n, t.1 h.1)),
    )
escaped_where (escape o ∷ cs) = ((λ e. absurd (true≢false e)), (λ h. absurd h.0))
escaped_where (unicode a b c d ∷ cs) = ((λ e. absurd (true≢false e)), (λ h. absurd h.0))

-- A character has an octet.
char_octet : (c : Char) (w : List ℕ) → length (leaves_char c ++ w) ≡ 0 → ⊥
unfolding leaves_char
char_octet (unescaped o) w e = omega arith
char_octet (escape o) w e = omega arith
char_octet (unicode a b c d) w e = omega arith

pub no_octets_lem : (cs : List Char) → (length (leaves_chars cs) ≡ 0) ↔ (cs ≡ [])
unfolding leaves_chars
no_octets_lem [] = ((λ e. refl), (λ e. refl))
no_octets_lem (c ∷ cs) = (
  (λ e. absurd (char_octet c (leaves_chars cs) e)),
  (λ e. absurd (omega (arith, ap length e))),
)

-- A component is a string.
plain_kind : (v : Value) → Plain v → kind v ≡ 2
unfolding kind
plain_kind v p = let (x, i, u) = (is_string (λ x. Every Unescaped x.chars) v).0 p in ap kind i

-- A value that stands in the message

module _ (message : List ℕ) (v : Value) (at size k : ℕ) (kinds : k ≡ kind v) (h : Stands message v at size) where
  of_kind_lem : (n : ℕ) → FalseWhere (not (eqb k n)) (kind v ≡ n)
  of_kind_lem n =
      not_where (eqb k n) ((λ e. sym kinds ∙ eqb-true k n e), (λ e. eq-eqb k n (kinds ∙ e)))

  -- A header.
  pub header_where : FalseWhere (not (eqb k 0) || hollow curly message at) (Header v)
  header_where = cases (not (eqb k 0)) (of_kind_lem 0)
    where
      cases : (b : Bool) → FalseWhere b (kind v ≡ 0) → FalseWhere (b || hollow curly message at) (Header v)
      cases true w = ((λ e. absurd (true≢false e)), (λ x. w.1 x.0))
      cases false w =
          let t = refuted (hollow curly message at) (hollow_stands message v at size h (w.0 refl)) in
          ((λ e. (w.0 refl, t.0 e)), (λ x. t.1 x.1))

  module _ {C : Type 0} (c : Bool) (asked : TrueWhere c C) where
    abbrev Component : Value → Type 0
    Component u = Plain u × ((C → ⊥) → Filled u)

    -- A component: a string of which only one in C may be empty.
    pub component_where :
        FalseWhere (not (eqb k 2) || (holds backslash (part message (at + 1) (size - 2)) || (not c && eqb size 2)))
        (Component v)
    component_where = cases (not (eqb k 2)) (of_kind_lem 2)
      where
        rest : Bool
        rest = holds backslash (part message (at + 1) (size - 2)) || (not c && eqb size 2)

        inside : (x : Str) → v ≡ string x → FalseWhere rest (Component v)
        inside x i =
            let t = string_stands message x at size (subst (λ (u : Value). Stands message u at size) i h) in
            let empty : TrueWhere (eqb size 2) (x.chars ≡ []) = (
              (λ e. (no_octets_lem x.chars).0 (omega (arith, t.2, eqb-true size 2 e))),
              (λ e. eq-eqb size 2 (omega (arith, t.2, (no_octets_lem x.chars).1 e))),
            ) in
            subst (λ (u : Value). FalseWhere rest (Component u)) (sym i)
            (neither (holds backslash (part message (at + 1) (size - 2))) (not c && eqb size 2)
            (subst (λ (w : List ℕ). FalseWhere (holds backslash w) (Every Unescaped x.chars)) (sym t.0)
            (escaped_where x.chars))
            (where_asked (not c) (eqb size 2) (not_none_where c asked)
            (λ n. refuted (eqb size 2) empty)))

        cases : (b : Bool) → FalseWhere b (kind v ≡ 2) → FalseWhere (b || rest) (Component v)
        cases true w = ((λ e. absurd (true≢false e)), (λ x. w.1 (plain_kind v x.0)))
        cases false w =
            let (x, i) = kind_string v (w.0 refl) in inside x i
