-- Values by their kinds, and what one level of the comparison says of values of each kind: only one of its clauses, or
-- for objects two of them, can hold there.
use mathlib.Core.Path.{◌≡◌, refl, sym, ap, subst, ◌∙◌}
use mathlib.Core.Logic.{◌⊎◌, inl, inr}
use Prim.Native.Nat.{◌≤◌}
use native.Mathlib.Omega.{arith}
use lib.ListN.{length}
use Rattle.grammar.specs.Grammar.{Str, Num, Literal, literal-true, literal-false, literal-null, Bracket, curly, square}
use Rattle.grammar.specs.Grammar.{Value, nested, empty, string, number, literal}
use Rattle.grammar.specs.Places.{kind, kind_nested, kind_literal}
use Rattle.grammar.specs.Strings.{SayAlike}
use Rattle.meets.specs.Members.{members_of, elements_of, OneForOne, IsString}
use Rattle.same_values.specs.Same.{own, NamesDistinct, ByName, SameWith, strings, numbers, literals, arrays}
use Rattle.same_values.specs.Same.{objects, repeating}

pub bracket_low : (b : Bracket) → kind_nested b ≤ 1
bracket_low curly = omega arith
bracket_low square = omega arith

pub literal_high : (x : Literal) → 4 ≤ kind_literal x
literal_high literal-true = omega arith
literal_high literal-false = omega arith
literal_high literal-null = omega arith

pub kind_number : (v : Value) → kind v ≡ 3 → (x : Num) × (v ≡ number x)
unfolding kind
kind_number (nested b x es y) e = absurd (omega (arith, bracket_low b))
kind_number (empty b x y) e = absurd (omega (arith, bracket_low b))
kind_number (string x) e = absurd (omega arith)
kind_number (number x) e = (x, refl)
kind_number (literal x) e = absurd (omega (arith, literal_high x))

one_literal : (x y : Literal) → kind_literal x ≡ kind_literal y → x ≡ y
one_literal literal-true literal-true e = refl
one_literal literal-true literal-false e = absurd (omega arith)
one_literal literal-true literal-null e = absurd (omega arith)
one_literal literal-false literal-true e = absurd (omega arith)
one_literal literal-false literal-false e = refl
one_literal literal-false literal-null e = absurd (omega arith)
one_literal literal-null literal-true e = absurd (omega arith)
one_literal literal-null literal-false e = absurd (omega arith)
one_literal literal-null literal-null e = refl

pub kind_literal_lem : (v : Value) (y : Literal) → kind v ≡ kind_literal y → v ≡ literal y
unfolding kind
kind_literal_lem (nested b x es y) z e = absurd (omega (arith, bracket_low b, literal_high z))
kind_literal_lem (empty b x y) z e = absurd (omega (arith, bracket_low b, literal_high z))
kind_literal_lem (string x) z e = absurd (omega (arith, literal_high z))
kind_literal_lem (number x) z e = absurd (omega (arith, literal_high z))
kind_literal_lem (literal x) z e = ap literal (one_literal x z e)

-- Two objects: no name repeats in either, or one repeats and the octets are the same.
abbrev pub ObjectsSame : (Value → Value → Type 0) → Value → Value → Type 0
ObjectsSame R v w =
    (NamesDistinct v × NamesDistinct w × (length (members_of v) ≡ length (members_of w))
    × ByName R (members_of v) (members_of w))
    ⊎ ((NamesDistinct v → ⊥) × (own v ≡ own w))

module _ (R : Value → Value → Type 0) (v w : Value) where
  pub with_kind : SameWith R v w → kind v ≡ kind w
  unfolding kind
  with_kind (strings x y e f h) = ap kind e ∙ sym (ap kind f)
  with_kind (numbers x y e f h) = ap kind e ∙ sym (ap kind f)
  with_kind (literals x e f) = ap kind (e ∙ sym f)
  with_kind (arrays e f h) = e ∙ sym f
  with_kind (objects e f d g n h) = e ∙ sym f
  with_kind (repeating e f d h) = e ∙ sym f

  pub with_object : kind v ≡ 0 → SameWith R v w → ObjectsSame R v w
  unfolding kind
  with_object k (strings x y e f h) = absurd (omega (arith, ap kind e))
  with_object k (numbers x y e f h) = absurd (omega (arith, ap kind e))
  with_object k (literals x e f) = absurd (omega (arith, ap kind e, literal_high x))
  with_object k (arrays e f h) = absurd (omega arith)
  with_object k (objects e f d g n h) = inl (d, g, n, h)
  with_object k (repeating e f d h) = inr (d, h)

  pub with_array : kind v ≡ 1 → SameWith R v w → OneForOne R (elements_of v) (elements_of w)
  unfolding kind
  with_array k (strings x y e f h) = absurd (omega (arith, ap kind e))
  with_array k (numbers x y e f h) = absurd (omega (arith, ap kind e))
  with_array k (literals x e f) = absurd (omega (arith, ap kind e, literal_high x))
  with_array k (arrays e f h) = h
  with_array k (objects e f d g n h) = absurd (omega arith)
  with_array k (repeating e f d h) = absurd (omega arith)

  pub with_string : (x : Str) → v ≡ string x → SameWith R v w → IsString (SayAlike x) w
  unfolding kind
  with_string x i (strings y z e f h) =
      subst (IsString (SayAlike x)) (sym f) (subst (IsString (λ a. SayAlike a z)) (sym e ∙ i) h)
  with_string x i (numbers y z e f h) = absurd (omega (arith, ap kind e, ap kind i))
  with_string x i (literals y e f) = absurd (omega (arith, ap kind e, ap kind i, literal_high y))
  with_string x i (arrays e f h) = absurd (omega (arith, ap kind i))
  with_string x i (objects e f d g n h) = absurd (omega (arith, ap kind i))
  with_string x i (repeating e f d h) = absurd (omega (arith, ap kind i))

  -- Numbers, true, false and null.
  pub with_octets : 3 ≤ kind v → SameWith R v w → own v ≡ own w
  unfolding kind own
  with_octets k (strings x y e f h) = absurd (omega (arith, ap kind e))
  with_octets k (numbers x y e f h) = ap own e ∙ h ∙ sym (ap own f)
  with_octets k (literals x e f) = ap own (e ∙ sym f)
  with_octets k (arrays e f h) = absurd (omega arith)
  with_octets k (objects e f d g n h) = absurd (omega arith)
  with_octets k (repeating e f d h) = h
