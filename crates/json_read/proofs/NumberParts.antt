-- Parts of a number as the code reads them, one test or one call after the other.
use mathlib.Core.Path.{◌≡◌, refl, ap, sym, ◌∙◌}
use mathlib.Core.Bool.{Bool, true, false, ◌||◌, cond}
use mathlib.Core.List.{List}
use Prim.Native.Nat.{ℕ}
use native.Mathlib.Omega.{arith}
use lib.Dec.{eqb}
use Rattle.grammar.specs.Grammar.{is_digit, is_nonzero, is_minus, is_point, is_e, is_plus_minus}
use Rattle.grammar.specs.Reader.{End, refused, ended, and_then, octet_at, step, skip, perhaps_at, digits_at, int_at}
use Rattle.grammar.specs.Reader.{fraction_at, exponent_at, number_at}
use Rattle.json_read.specs.Inner.Ends.{ends_at, ends_of}
use Rattle.json_read.specs.declared.Position.{Position}
use Rattle.std.specs.Prelude.{Some, None}

-- what an answer of the code says of the reader's

pub same_found : {A : Type 0} {x y : A} → Some x ≡ Some y → x ≡ y
same_found e = cc

pub is_ended : (x : End) (p : Position) → Some p ≡ ends_of x → x ≡ ended p.at
is_ended refused p e = let z : ◌≡◌ {A = ℕ} 0 1 = cc in absurd (omega arith)
is_ended (ended n) p e = ap ended (let q : n ≡ p.at = cc in q)

pub is_refused : (x : End) → None ≡ ends_of x → x ≡ refused
is_refused refused e = refl
is_refused (ended n) e = let z : ◌≡◌ {A = ℕ} 0 1 = cc in absurd (omega arith)

module _ (s : List ℕ) (at : ℕ) where
  pub perhaps_yes : (p : ℕ → Bool) (r : ℕ) → p (octet_at s at) ≡ true → r ≡ step s at → r ≡ perhaps_at p s at
  unfolding perhaps_at
  perhaps_yes p r t e = e ∙ sym (ap (λ (b : Bool). cond b (step s at) at) t)

  pub perhaps_no : (p : ℕ → Bool) → p (octet_at s at) ≡ false → at ≡ perhaps_at p s at
  unfolding perhaps_at
  perhaps_no p t = sym (ap (λ (b : Bool). cond b (step s at) at) t)

  pub digits_yes : (p : ℕ → Bool) (q r : ℕ) → p (octet_at s at) ≡ true → q ≡ step s at → r ≡ skip is_digit s q
      → ends_at r ≡ ends_of (digits_at p s at)
  unfolding digits_at
  digits_yes p q r t e f =
      ap (λ (n : ℕ). ends_at n) (f ∙ ap (skip is_digit s) e)
      ∙ sym (ap (λ (b : Bool). ends_of (cond b (ended (skip is_digit s (step s at))) refused)) t)

  pub digits_no : (p : ℕ → Bool) → p (octet_at s at) ≡ false → None ≡ ends_of (digits_at p s at)
  unfolding digits_at
  digits_no p t = sym (ap (λ (b : Bool). ends_of (cond b (ended (skip is_digit s (step s at))) refused)) t)

  pub int_zero : (r : ℕ) → eqb (octet_at s at) 48 ≡ true → r ≡ step s at → ends_at r ≡ ends_of (int_at s at)
  unfolding int_at
  int_zero r t e =
      ap (λ (n : ℕ). ends_at n) e
      ∙ sym (ap (λ (b : Bool). ends_of (cond b (ended (step s at)) (digits_at is_nonzero s at))) t)

  pub int_other : eqb (octet_at s at) 48 ≡ false → ends_of (digits_at is_digit s at) ≡ ends_of (int_at s at)
  unfolding int_at digits_at
  int_other t =
      let first : is_digit (octet_at s at) ≡ is_nonzero (octet_at s at) = ap (λ (b : Bool). b || is_nonzero (octet_at s at)) t in
      ap (λ (b : Bool). ends_of (cond b (ended (skip is_digit s (step s at))) refused)) first
      ∙ sym (ap (λ (b : Bool). ends_of (cond b (ended (step s at)) (digits_at is_nonzero s at))) t)

  pub fraction_yes : (q : ℕ) → is_point (octet_at s at) ≡ true → q ≡ step s at
      → ends_of (digits_at is_digit s q) ≡ ends_of (fraction_at s at)
  unfolding fraction_at
  fraction_yes q t e =
      ap (λ (n : ℕ). ends_of (digits_at is_digit s n)) e
      ∙ sym (ap (λ (b : Bool). ends_of (cond b (digits_at is_digit s (step s at)) (ended at))) t)

  pub fraction_no : is_point (octet_at s at) ≡ false → ends_at at ≡ ends_of (fraction_at s at)
  unfolding fraction_at
  fraction_no t = sym (ap (λ (b : Bool). ends_of (cond b (digits_at is_digit s (step s at)) (ended at))) t)

  pub exponent_yes : (q r : ℕ) → is_e (octet_at s at) ≡ true → q ≡ step s at → r ≡ perhaps_at is_plus_minus s q
      → ends_of (digits_at is_digit s r) ≡ ends_of (exponent_at s at)
  unfolding exponent_at
  exponent_yes q r t e f =
      ap (λ (n : ℕ). ends_of (digits_at is_digit s n)) (f ∙ ap (perhaps_at is_plus_minus s) e)
      ∙ sym (ap (λ (b : Bool). ends_of (cond b (digits_at is_digit s (perhaps_at is_plus_minus s (step s at))) (ended at))) t)

  pub exponent_no : is_e (octet_at s at) ≡ false → ends_at at ≡ ends_of (exponent_at s at)
  unfolding exponent_at
  exponent_no t =
      sym (ap (λ (b : Bool). ends_of (cond b (digits_at is_digit s (perhaps_at is_plus_minus s (step s at))) (ended at))) t)

  -- a number, by where its parts end
  number_from : End → End
  number_from x = and_then x (λ e. and_then (fraction_at s e) (λ f. exponent_at s f))

  module _ (m : ℕ) (minus : m ≡ perhaps_at is_minus s at) where
    whole : (x : End) → int_at s m ≡ x → number_at s at ≡ number_from x
    unfolding number_at number_from
    whole x e = ap number_from (ap (int_at s) (sym minus) ∙ e)

    pub number_no_int : int_at s m ≡ refused → None ≡ ends_of (number_at s at)
    unfolding number_from
    number_no_int e = sym (ap ends_of (whole refused e))

    module _ (n : ℕ) (int : int_at s m ≡ ended n) where
      pub number_no_fraction : fraction_at s n ≡ refused → None ≡ ends_of (number_at s at)
      unfolding number_from
      number_no_fraction e =
          sym (ap ends_of (whole (ended n) int ∙ ap (λ (x : End). and_then x (λ f. exponent_at s f)) e))

      pub number_exponent : (k : ℕ) → fraction_at s n ≡ ended k → ends_of (exponent_at s k) ≡ ends_of (number_at s at)
      unfolding number_from
      number_exponent k e =
          sym (ap ends_of (whole (ended n) int ∙ ap (λ (x : End). and_then x (λ f. exponent_at s f)) e))
