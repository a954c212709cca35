-- Numbers: the parser reads a number's leaves back as that number, and what it reads as a number has those leaves.
use mathlib.Core.Path.{◌≡◌, refl, ap, ◌∙◌}
use mathlib.Core.List.{List, [], ◌∷◌, ◌++◌, append_assoc}
use mathlib.Core.Bool.{Bool, true, false, not}
use mathlib.Core.Option.{Option, none, some}
use Prim.Native.Nat.{ℕ, suc, ◌+◌}
use native.Mathlib.Omega.{arith}
use lib.ListN.{length, length-append}
use lib.Dec.{T, eqb, eqb→eq}
use Rattle.grammar.specs.Grammar.{digit_zero, is_digit, is_nonzero, is_minus, is_point, is_e, is_plus_minus, Octet, octets}
use Rattle.grammar.specs.Grammar.{optional, Digits, Int, int_zero, int, Fraction, Exponent, Num, leaves_digits}
use Rattle.grammar.specs.Grammar.{leaves_int, leaves_fraction, leaves_exponent, leaves_num}
use Rattle.grammar.specs.Reader.{is_number_start}
use Rattle.grammar.proofs.Parse.{At, at, Got, got, true→T, run, one, opt, digits, digits_of, read_int}
use Rattle.grammar.proofs.Parse.{fraction_after, exponent_after, read_fraction, read_exponent, read_num}
use Rattle.grammar.proofs.Scan.{false_of, all, among_all, halts, is_number_lem, number_halts, digit_halts, scan_octets}
use Rattle.grammar.proofs.Scan.{scan_halts, run_octets, scanned, no_got, then_inv, Spelled, spelled_then}
use Rattle.grammar.proofs.Scan.{spelled_as, one_read, one_inv, opt_none, opt_some, opt_inv}

digits_read : {A : Type 0} (p : ℕ → Bool) (f : Octet p → List (Octet is_digit) → A) (n : ℕ) (o : Octet p)
    (os : List (Octet is_digit)) (r : List ℕ) → T (halts is_digit r) →
    digits p f n (o.code ∷ (octets os ++ r)) ≡ got (f o os) (at (n + suc (length (octets os))) r)
unfolding digits
digits_read p f n o os r h =
    rw (one_read p n o, run_octets is_digit os r h, scan_octets is_digit (suc n) os r, scan_halts is_digit _ r h)
    (ap (λ m. got (f o os) (at m r)) (omega arith))

-- What stands before an exponent and what stands after.

exponent_halts : (p : ℕ → Bool) (x : Option Exponent) (r : List ℕ) → T (all (λ c. not (p c)) (101 ∷ 69 ∷ [])) →
    T (halts p r) → T (halts p (leaves_exponent x ++ r))
unfolding leaves_exponent
exponent_halts p none r a h = h
exponent_halts p (some x) r a h = among_all (λ c. not (p c)) (101 ∷ 69 ∷ []) x.mark.code a x.mark.fits

fraction_halts : (f : Option Fraction) (x : Option Exponent) (r : List ℕ) → T (halts is_number_lem r) →
    T (halts is_digit (leaves_fraction f ++ (leaves_exponent x ++ r)))
unfolding leaves_fraction
fraction_halts none x r h = exponent_halts is_digit x r tt (digit_halts r h)
fraction_halts (some f) x r h = among_all (λ c. not (is_digit c)) (46 ∷ []) f.mark.code tt f.mark.fits

int_read : (i : Int) (n : ℕ) (r : List ℕ) → T (halts is_digit r) →
    read_int n (leaves_int i ++ r) ≡ got i (at (n + length (leaves_int i)) r)
unfolding leaves_int read_int
int_read int_zero n r h = ap (λ m. got int_zero (at m r)) (omega arith)
int_read (int o os) n r h =
    rw (
      false_of (eqb o.code digit_zero)
          (among_all (λ c. not (eqb c digit_zero)) (49 ∷ 50 ∷ 51 ∷ 52 ∷ 53 ∷ 54 ∷ 55 ∷ 56 ∷ 57 ∷ []) o.code tt
          o.fits),
      read_int,
    )
    (digits_read is_nonzero int n o os r h)

fraction_read : (f : Option Fraction) (n : ℕ) (r : List ℕ) → T (halts is_point r) → T (halts is_digit r) →
    read_fraction n (leaves_fraction f ++ r) ≡ got f (at (n + length (leaves_fraction f)) r)
unfolding leaves_fraction leaves_digits read_fraction fraction_after
fraction_read none n r g h = rw (opt_none is_point n r g) (ap (λ m. got none (at m r)) (omega arith))
fraction_read (some x) n r g h =
    rw (opt_some is_point n x.mark, digits_read is_digit digits_of (suc n) x.digits.first x.digits.others r h)
    (ap (λ m. got (some x) (at m r)) (omega arith))

sign_read : (g : Option (Octet is_plus_minus)) (x : Digits) (n : ℕ) (r : List ℕ) →
    opt is_plus_minus n (optional g ++ (leaves_digits x ++ r)) ≡ got g (at (n + length (optional g)) (leaves_digits x ++ r))
unfolding optional leaves_digits
sign_read none x n r =
    opt_none is_plus_minus n _
    (among_all (λ c. not (is_plus_minus c)) (48 ∷ 49 ∷ 50 ∷ 51 ∷ 52 ∷ 53 ∷ 54 ∷ 55 ∷ 56 ∷ 57 ∷ []) x.first.code tt
    x.first.fits)
    ∙ ap (λ m. got none (at m (leaves_digits x ++ r))) (omega arith)
sign_read (some o) x n r =
    opt_some is_plus_minus n o (leaves_digits x ++ r) ∙ ap (λ m. got (some o) (at m (leaves_digits x ++ r))) (omega arith)

exponent_read : (e : Option Exponent) (n : ℕ) (r : List ℕ) → T (halts is_e r) → T (halts is_digit r) →
    read_exponent n (leaves_exponent e ++ r) ≡ got e (at (n + length (leaves_exponent e)) r)
unfolding leaves_exponent leaves_digits read_exponent exponent_after
exponent_read none n r g h = rw (opt_none is_e n r g) (ap (λ m. got none (at m r)) (omega arith))
exponent_read (some x) n r g h =
    let A = length-append (optional x.sign) (leaves_digits x.digits) in
    rw (
      opt_some is_e n x.mark,
      append_assoc (optional x.sign),
      sign_read x.sign x.digits (suc n) r,
      digits_read is_digit digits_of _ x.digits.first x.digits.others r h,
    )
    (ap (λ m. got (some x) (at m r)) (omega arith))

minus_read : (m : Option (Octet is_minus)) (i : Int) (n : ℕ) (r : List ℕ) →
    opt is_minus n (optional m ++ (leaves_int i ++ r)) ≡ got m (at (n + length (optional m)) (leaves_int i ++ r))
unfolding optional leaves_int opt
minus_read none int_zero n r = ap (λ m. got none (at m (digit_zero ∷ r))) (omega arith)
minus_read none (int o os) n r =
    opt_none is_minus n _
    (among_all (λ c. not (is_minus c)) (49 ∷ 50 ∷ 51 ∷ 52 ∷ 53 ∷ 54 ∷ 55 ∷ 56 ∷ 57 ∷ []) o.code tt o.fits)
    ∙ ap (λ m. got none (at m (leaves_int (int o os) ++ r))) (omega arith)
minus_read (some o) i n r =
    opt_some is_minus n o (leaves_int i ++ r) ∙ ap (λ m. got (some o) (at m (leaves_int i ++ r))) (omega arith)

pub num_read : (x : Num) (n : ℕ) (r : List ℕ) → T (halts is_number_lem r) →
    read_num n (leaves_num x ++ r) ≡ got x (at (n + length (leaves_num x)) r)
unfolding leaves_num read_num
num_read x n r h =
    let M = optional x.negative in
    let I = leaves_int x.whole in
    let F = leaves_fraction x.fraction in
    let E = leaves_exponent x.exponent in
    let A = length-append M (I ++ (F ++ E)) in
    let B = length-append I (F ++ E) in
    let C = length-append F E in
    rw (
      append_assoc M,
      append_assoc I,
      append_assoc F,
      minus_read x.negative x.whole n,
      int_read x.whole _ (F ++ (E ++ r)) (fraction_halts x.fraction x.exponent r h),
      fraction_read x.fraction _ (E ++ r)
          (exponent_halts is_point x.exponent r tt (number_halts (46 ∷ []) tt r h))
          (exponent_halts is_digit x.exponent r tt (digit_halts r h)),
      exponent_read x.exponent _ r (number_halts (101 ∷ 69 ∷ []) tt r h) (digit_halts r h),
    )
    (ap (λ m. got x (at m r)) (omega arith))

-- A number's first octet.

pub record NumberHead (s : List ℕ) : Type 0 where
  pub code : ℕ
  pub rest : List ℕ
  pub is : s ≡ code ∷ rest
  pub starts : T (is_number_start code)

minus_head : (m : Option (Octet is_minus)) (i : Int) (r : List ℕ) → NumberHead (optional m ++ (leaves_int i ++ r))
unfolding optional leaves_int
minus_head none int_zero r = record { code = digit_zero; rest = r; is = refl; starts = tt }
minus_head none (int o os) r = record {
  code = o.code;
  rest = octets os ++ r;
  is = refl;
  starts = among_all is_number_start (49 ∷ 50 ∷ 51 ∷ 52 ∷ 53 ∷ 54 ∷ 55 ∷ 56 ∷ 57 ∷ []) o.code tt o.fits;
}
minus_head (some o) i r = record {
  code = o.code;
  rest = leaves_int i ++ r;
  is = refl;
  starts = among_all is_number_start (45 ∷ []) o.code tt o.fits;
}

pub number_head : (x : Num) (r : List ℕ) → NumberHead (leaves_num x ++ r)
unfolding leaves_num
number_head x r =
    rw (append_assoc (optional x.negative), append_assoc (leaves_int x.whole))
    (minus_head x.negative x.whole _)

-- And back

digits_sound : {A : Type 0} (leaves : A → List ℕ) (p : ℕ → Bool) (f : Octet p → List (Octet is_digit) → A) →
    ((o : Octet p) (os : List (Octet is_digit)) → leaves (f o os) ≡ o.code ∷ octets os) →
    (n : ℕ) (s : List ℕ) {a : A} {st : At} → digits p f n s ≡ got a st → Spelled (leaves a) n s st
unfolding digits
digits_sound leaves p f g n s e =
    let t = then_inv (one p n s) _ e in
    let a = one_inv p n s t.first in
    let w = scanned is_digit t.here.pos t.here.rest in
    spelled_as leaves t.second
    (rw (g t.mid (run is_digit t.here.rest)) (record {
      text = ap (λ z. t.mid.code ∷ z) w.text ∙ a.0;
      ends = w.ends ∙ omega (arith, a.1);
    }))

pub int_sound : (n : ℕ) (s : List ℕ) {i : Int} {st : At} → read_int n s ≡ got i st → Spelled (leaves_int i) n s st
unfolding read_int leaves_int
int_sound n [] e = absurd (no_got e)
int_sound n (c ∷ s) {i} {st} e = go (eqb c digit_zero) refl e
  where
    go : (b : Bool) → eqb c digit_zero ≡ b →
        elim b as (λ x. Got Int) [ true ↦ got int_zero (at (suc n) s) | false ↦ digits is_nonzero int n (c ∷ s) ]
        ≡ got i st →
        Spelled (leaves_int i) n (c ∷ s) st
    go true q h =
        spelled_as leaves_int h
        (record { text = rw (eqb→eq c digit_zero (true→T (eqb c digit_zero) q)); ends = omega arith })
    go false q h = digits_sound leaves_int is_nonzero int (λ o os. refl) n (c ∷ s) h

digit_list : (n : ℕ) (s : List ℕ) {x : Digits} {st : At} → digits is_digit digits_of n s ≡ got x st →
    Spelled (leaves_digits x) n s st
unfolding leaves_digits
digit_list n s h = digits_sound leaves_digits is_digit digits_of (λ o os. refl) n s h

fraction_after_lem : (o : Option (Octet is_point)) (here : At) (n : ℕ) (s : List ℕ) {f : Option Fraction} {st : At} →
    Spelled (optional o) n s here → fraction_after o here ≡ got f st → Spelled (leaves_fraction f) n s st
unfolding fraction_after leaves_fraction optional
fraction_after_lem none here n s a h = spelled_as leaves_fraction h a
fraction_after_lem (some o) here n s a h =
    let t = then_inv (digits is_digit digits_of here.pos here.rest) _ h in
    let d = digit_list here.pos here.rest t.first in
    spelled_as leaves_fraction {a = some (record { mark = o; digits = t.mid })} t.second (spelled_then a d)

exponent_after_lem : (o : Option (Octet is_e)) (here : At) (n : ℕ) (s : List ℕ) {x : Option Exponent} {st : At} →
    Spelled (optional o) n s here → exponent_after o here ≡ got x st → Spelled (leaves_exponent x) n s st
unfolding exponent_after leaves_exponent optional
exponent_after_lem none here n s a h = spelled_as leaves_exponent h a
exponent_after_lem (some o) here n s a h =
    let t = then_inv (opt is_plus_minus here.pos here.rest) _ h in
    let g = opt_inv is_plus_minus here.pos here.rest t.first in
    let u = then_inv (digits is_digit digits_of t.here.pos t.here.rest) _ t.second in
    let d = digit_list t.here.pos t.here.rest u.first in
    spelled_as leaves_exponent {a = some (record { mark = o; sign = t.mid; digits = u.mid })} u.second
    (spelled_then a (spelled_then g d))

pub fraction_sound : (n : ℕ) (s : List ℕ) {f : Option Fraction} {st : At} → read_fraction n s ≡ got f st →
    Spelled (leaves_fraction f) n s st
unfolding read_fraction
fraction_sound n s e =
    let u = then_inv (opt is_point n s) fraction_after e in
    fraction_after_lem u.mid u.here n s (opt_inv is_point n s u.first) u.second

exponent_sound : (n : ℕ) (s : List ℕ) {x : Option Exponent} {st : At} → read_exponent n s ≡ got x st →
    Spelled (leaves_exponent x) n s st
unfolding read_exponent
exponent_sound n s e =
    let u = then_inv (opt is_e n s) exponent_after e in
    exponent_after_lem u.mid u.here n s (opt_inv is_e n s u.first) u.second

pub num_sound : (n : ℕ) (s : List ℕ) {x : Num} {st : At} → read_num n s ≡ got x st → Spelled (leaves_num x) n s st
unfolding read_num leaves_num
num_sound n s e =
    let t₁ = then_inv (opt is_minus n s) _ e in
    let t₂ = then_inv (read_int t₁.here.pos t₁.here.rest) _ t₁.second in
    let t₃ = then_inv (read_fraction t₂.here.pos t₂.here.rest) _ t₂.second in
    let t₄ = then_inv (read_exponent t₃.here.pos t₃.here.rest) _ t₃.second in
    let m = opt_inv is_minus n s t₁.first in
    let i = int_sound t₁.here.pos t₁.here.rest t₂.first in
    let f = fraction_sound t₂.here.pos t₂.here.rest t₃.first in
    let x = exponent_sound t₃.here.pos t₃.here.rest t₄.first in
    spelled_as leaves_num
    {a = record { negative = t₁.mid; whole = t₂.mid; fraction = t₃.mid; exponent = t₄.mid }}
    t₄.second
    (spelled_then m (spelled_then i (spelled_then f x)))
