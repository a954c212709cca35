-- A value without the space around it: its leaves are the value's own octets, and one level of the comparison sees no
-- difference between the two.
use mathlib.Core.Path.{◌≡◌, refl, sym, ap, subst, subst₂, ◌∙◌}
use mathlib.Core.List.{[], ◌++◌, append-nil}
use Prim.Native.Nat.{◌≤◌}
use native.Mathlib.Omega.{arith}
use lib.ListN.{length}
use Rattle.grammar.specs.Grammar.{octets, Literal, Value, nested, empty, string, number, literal, leaves_value}
use Rattle.grammar.specs.Places.{kind, leading, trailing}
use Rattle.meets.specs.Members.{members_of, elements_of, names_of, Distinct, OneForOne}
use Rattle.same_values.specs.Same.{own, ByName, SameWith, strings, numbers, literals, arrays, objects, repeating}
use Rattle.same_values.proofs.EachKind.{bracket_low, literal_high}
use Rattle.same_values.proofs.Sitting.{leaves_own}

unfoldable pub trim : Value → Value
trim (nested b x es y) =
    nested b (record { before = []; after = x.after }) es (record { before = y.before; after = [] })
trim (empty b x y) = empty b (record { before = []; after = x.after }) (record { before = y.before; after = [] })
trim (string x) = string x
trim (number x) = number x
trim (literal x) = literal x

trimmed : (v : Value) → octets (leading (trim v)) ++ (own (trim v) ++ octets (trailing (trim v))) ≡ own v
unfolding trim own leading trailing octets
trimmed (nested b x es y) = append-nil (own (nested b x es y))
trimmed (empty b x y) = append-nil (own (empty b x y))
trimmed (string x) = append-nil (own (string x))
trimmed (number x) = append-nil (own (number x))
trimmed (literal x) = append-nil (own (literal x))

pub trim_leaves : (v : Value) → leaves_value (trim v) ≡ own v
trim_leaves v = leaves_own (trim v) ∙ trimmed v

-- Nothing that is compared is lost.
trim_members : (v : Value) → members_of (trim v) ≡ members_of v
unfolding trim members_of
trim_members (nested b x es y) = refl
trim_members (empty b x y) = refl
trim_members (string x) = refl
trim_members (number x) = refl
trim_members (literal x) = refl

trim_elements : (v : Value) → elements_of (trim v) ≡ elements_of v
unfolding trim elements_of
trim_elements (nested b x es y) = refl
trim_elements (empty b x y) = refl
trim_elements (string x) = refl
trim_elements (number x) = refl
trim_elements (literal x) = refl

trim_kind : (v : Value) → kind (trim v) ≡ kind v
unfolding trim kind
trim_kind (nested b x es y) = refl
trim_kind (empty b x y) = refl
trim_kind (string x) = refl
trim_kind (number x) = refl
trim_kind (literal x) = refl

trim_own : (v : Value) → own (trim v) ≡ own v
unfolding trim own
trim_own (nested b x es y) = refl
trim_own (empty b x y) = refl
trim_own (string x) = refl
trim_own (number x) = refl
trim_own (literal x) = refl

-- What is no object and no array has no space around it.
trim_scalar : (v : Value) → 2 ≤ kind v → v ≡ trim v
unfolding trim kind
trim_scalar (nested b x es y) h = absurd (omega (arith, bracket_low b))
trim_scalar (empty b x y) h = absurd (omega (arith, bracket_low b))
trim_scalar (string x) h = refl
trim_scalar (number x) h = refl
trim_scalar (literal x) h = refl

trim_is : (v c : Value) → 2 ≤ kind c → trim v ≡ c → v ≡ c
trim_is v c h e = trim_scalar v (omega (arith, trim_kind v, ap kind e)) ∙ e

literal_kind : (x : Literal) → 2 ≤ kind (literal x)
unfolding kind
literal_kind x = omega (arith, literal_high x)

pub untrimmed : (R : Value → Value → Type 0) (v w : Value) → SameWith R (trim v) (trim w) → SameWith R v w
unfolding kind
untrimmed R v w (strings x y e f h) =
    strings x y (trim_is v (string x) (omega arith) e) (trim_is w (string y) (omega arith) f) h
untrimmed R v w (numbers x y e f h) =
    numbers x y (trim_is v (number x) (omega arith) e) (trim_is w (number y) (omega arith) f) h
untrimmed R v w (literals x e f) =
    literals x (trim_is v (literal x) (literal_kind x) e) (trim_is w (literal x) (literal_kind x) f)
untrimmed R v w (arrays e f h) =
    arrays (sym (trim_kind v) ∙ e) (sym (trim_kind w) ∙ f)
    (subst₂ (OneForOne R) (trim_elements v) (trim_elements w) h)
untrimmed R v w (objects e f d g n h) =
    objects (sym (trim_kind v) ∙ e) (sym (trim_kind w) ∙ f)
    (subst (λ ms. Distinct (names_of ms)) (trim_members v) d) (subst (λ ms. Distinct (names_of ms)) (trim_members w) g)
    (sym (ap length (trim_members v)) ∙ n ∙ ap length (trim_members w))
    (subst₂ (ByName R) (trim_members v) (trim_members w) h)
untrimmed R v w (repeating e f d h) =
    repeating (sym (trim_kind v) ∙ e) (sym (trim_kind w) ∙ f)
    (λ g. d (subst (λ ms. Distinct (names_of ms)) (sym (trim_members v)) g)) (sym (trim_own v) ∙ h ∙ trim_own w)
