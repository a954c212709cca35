-- The first octet of a value, past the space before it, tells its constructor.
use mathlib.Core.Path.{◌≡◌, refl, sym, ap, subst, ◌∙◌}
use mathlib.Core.List.{List, [], ◌∷◌, ◌++◌, append_assoc}
use mathlib.Core.Bool.{Bool, true, false, not}
use Prim.Native.Nat.{ℕ, suc}
use native.Mathlib.Omega.{arith}
use lib.Dec.{T}
use Rattle.grammar.specs.Grammar.{quote, is_space, octets, Sign, leaves_sign, leaves_str, leaves_num, Literal}
use Rattle.grammar.specs.Grammar.{literal-true, literal-false, literal-null, letters, Bracket, curly, square}
use Rattle.grammar.specs.Grammar.{opening, Value, nested, empty, string, number, literal, leaves_value}
use Rattle.grammar.specs.Places.{kind}
use Rattle.grammar.proofs.Parse.{At, at, scan, Lead, lead, lead_nested, lead-string, lead-number, lead_literal}
use Rattle.grammar.proofs.Parse.{lead_none}
use Rattle.grammar.proofs.Scan.{among_all, halts, scan_octets, scan_halts}
use Rattle.grammar.proofs.Numbers.{number_head}
use Rattle.grammar.proofs.Complete.{sign_onto, number_lead}

abbrev pub lead_of : Value → Lead
lead_of (nested b x es y) = lead_nested b
lead_of (empty b x y) = lead_nested b
lead_of (string x) = lead-string
lead_of (number x) = lead-number
lead_of (literal x) = lead_literal x

pub record FirstOctet (v : Value) (st : At) : Type 0 where
  pub code : ℕ
  pub rest : List ℕ
  pub is : st.rest ≡ code ∷ rest
  pub leads : lead code ≡ lead_of v

pub open_skip : (b : Bracket) (m : ℕ) (Z : List ℕ) → scan is_space m (opening b ∷ Z) ≡ at m (opening b ∷ Z)
unfolding scan
open_skip curly m Z = refl
open_skip square m Z = refl

open_lead : (b : Bracket) → lead (opening b) ≡ lead_nested b
unfolding lead
open_lead curly = refl
open_lead square = refl

open_first : (v : Value) (b : Bracket) (x : Sign) (Y : List ℕ) (n : ℕ) → lead_of v ≡ lead_nested b →
    FirstOctet v (scan is_space n (leaves_sign (opening b) x ++ Y))
open_first v b x Y n e = record {
  code = opening b;
  rest = octets x.after ++ Y;
  is =
      ap (λ s. (scan is_space n s).rest) (sign_onto (opening b) x Y)
      ∙ ap (λ (st : At). st.rest) (scan_octets is_space n x.before (opening b ∷ (octets x.after ++ Y)))
      ∙ ap (λ (st : At). st.rest) (open_skip b _ (octets x.after ++ Y));
  leads = open_lead b ∙ sym e;
}

literal_first : (x : Literal) (n : ℕ) (r : List ℕ) → FirstOctet (literal x) (scan is_space n (letters x ++ r))
unfolding scan lead
literal_first literal-true n r = record { code = 116; rest = _; is = refl; leads = refl }
literal_first literal-false n r = record { code = 102; rest = _; is = refl; leads = refl }
literal_first literal-null n r = record { code = 110; rest = _; is = refl; leads = refl }

pub first_octet : (v : Value) (n : ℕ) (r : List ℕ) → FirstOctet v (scan is_space n (leaves_value v ++ r))
unfolding leaves_value leaves_str scan lead
first_octet (nested b x es y) n r =
    rw (append_assoc (leaves_sign (opening b) x)) (open_first (nested b x es y) b x _ n refl)
first_octet (empty b x y) n r = rw (append_assoc (leaves_sign (opening b) x)) (open_first (empty b x y) b x _ n refl)
first_octet (string x) n r = record { code = quote; rest = _; is = refl; leads = refl }
first_octet (number x) n r =
    let y = number_head x r in
    let t : T (halts is_space (leaves_num x ++ r)) =
    subst (λ z. T (halts is_space z)) (sym y.is)
    (among_all (λ c. not (is_space c)) (45 ∷ 48 ∷ 49 ∷ 50 ∷ 51 ∷ 52 ∷ 53 ∷ 54 ∷ 55 ∷ 56 ∷ 57 ∷ []) y.code tt
    y.starts) in
    record {
      code = y.code;
      rest = y.rest;
      is = ap (λ (st : At). st.rest) (scan_halts is_space n (leaves_num x ++ r) t) ∙ y.is;
      leads = number_lead y.code y.starts;
    }
first_octet (literal x) n r = literal_first x n r

-- An object is what begins with its bracket.

abbrev pub is_curly : Lead → Bool
is_curly (lead_nested curly) = true
is_curly (lead_nested square) = false
is_curly lead-string = false
is_curly lead-number = false
is_curly (lead_literal x) = false
is_curly lead_none = false

pub object_kind : (v : Value) → T (is_curly (lead_of v)) → kind v ≡ 0
unfolding kind
object_kind (nested curly x es y) t = refl
object_kind (nested square x es y) t = absurd t
object_kind (empty curly x y) t = refl
object_kind (empty square x y) t = absurd t
object_kind (string x) t = absurd t
object_kind (number x) t = absurd t
object_kind (literal x) t = absurd t

no_kind : {n : ℕ} → ◌≡◌ {A = ℕ} (suc n) 0 → ⊥
no_kind e = omega arith

pub kind_object : (v : Value) → kind v ≡ 0 → lead_of v ≡ lead_nested curly
unfolding kind
kind_object (nested curly x es y) e = refl
kind_object (nested square x es y) e = absurd (no_kind e)
kind_object (empty curly x y) e = refl
kind_object (empty square x y) e = absurd (no_kind e)
kind_object (string x) e = absurd (no_kind e)
kind_object (number x) e = absurd (no_kind e)
kind_object (literal literal-true) e = absurd (no_kind e)
kind_object (literal literal-false) e = absurd (no_kind e)
kind_object (literal literal-null) e = absurd (no_kind e)
