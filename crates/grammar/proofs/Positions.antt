-- Positions in a text: what the reader sees at a position is what the parser has as the rest of the text from there,
-- and over runs of octets, words and numbers the two end alike.
use mathlib.Core.Path.{◌≡◌, refl, sym, ap, ◌∙◌}
use mathlib.Core.List.{List, [], ◌∷◌, ◌++◌}
use mathlib.Core.Bool.{Bool, true, false, not, cond}
use mathlib.Core.Option.{Option, none, some}
use Prim.Native.Nat.{ℕ, suc, ◌+◌, ◌<◌}
use native.Mathlib.Numerals.{add-one}
use native.Mathlib.Omega.{arith}
use lib.ListN.{length, drop, length-drop, get_or-eq_default}
use lib.Seq.{drop-cons, drop-drop, drop-append_seam}
use lib.Dec.{T, eqb}
use borrow.Author.Tests.{lt-ltb}
use Rattle.grammar.specs.Grammar.{digit_zero, is_digit, is_nonzero, is_minus, is_point, is_e, is_plus_minus, Octet, Int}
use Rattle.grammar.specs.Grammar.{int_zero, int, Exponent, Num}
use Rattle.grammar.specs.Reader.{octet_at, step, pass_over, skip, End, refused, ended, and_then, digits_at, int_at}
use Rattle.grammar.specs.Reader.{perhaps_at, fraction_at, exponent_at, number_at, word_at}
use Rattle.grammar.proofs.Parse.{At, at, Got, failed, got, then, true→T, scan, run, one, octet, opt, perhaps}
use Rattle.grammar.proofs.Parse.{word, digits, digits_of, read_int, fraction_after, exponent_after, read_fraction}
use Rattle.grammar.proofs.Parse.{read_exponent, read_num}
use Rattle.grammar.proofs.Scan.{Spelled, scanned, all, both_T, false_of}
use Rattle.grammar.proofs.Numbers.{int_sound, fraction_sound}

-- The rest of a text

-- From position n on stands t.
pub record Rest (s : List ℕ) (n : ℕ) (t : List ℕ) : Type 0 where
  pub is : drop n s ≡ t

pub rest_here : (s : List ℕ) (n : ℕ) → Rest s n (drop n s)
rest_here s n = record { is = refl }

pub octet_nil : {s : List ℕ} {n : ℕ} → Rest s n [] → octet_at s n ≡ 256
octet_nil {s} {n} h =
    let e = length-drop n s in
    let f = ap length h.is in
    get_or-eq_default s 256 (omega arith)

module _ {s : List ℕ} {n c : ℕ} {t : List ℕ} (h : Rest s n (c ∷ t)) where
  pub inside : n < length s
  inside =
      let e = length-drop n s in
      let f = ap length h.is in
      omega arith

  both_parts : c ∷ t ≡ octet_at s n ∷ drop (suc n) s
  both_parts = sym h.is ∙ drop-cons s n 256 inside

  pub octet_cons : octet_at s n ≡ c
  octet_cons = let e = both_parts in cc

  pub rest_next : Rest s (suc n) t
  rest_next = record { is = let e = both_parts in cc }

  pub step_cons : step s n ≡ suc n
  step_cons = rw (lt-ltb n (length s) inside) (add-one n)

pub rest_along : {s : List ℕ} {n : ℕ} (w : List ℕ) {t : List ℕ} → Rest s n (w ++ t) → Rest s (n + length w) t
rest_along {s} {n} w {t} h = record {
  is = sym (drop-drop (length w) n s) ∙ ap (drop (length w)) h.is ∙ drop-append_seam w t;
}

-- What was read leaves the rest of the text from where it ended.
pub stays : {leaves s : List ℕ} {n : ℕ} {t : List ℕ} {st : At} → Rest s n t → Spelled leaves n t st →
    Rest s st.pos st.rest
stays {leaves} {s} {n} {t} {st} h x =
    let r = rest_along leaves (record { is = h.is ∙ sym x.text }) in
    record { is = ap (λ m. drop m s) x.ends ∙ r.is }

-- Runs

pass_scan : (p : ℕ → Bool) (t : List ℕ) (n : ℕ) → pass_over p t n ≡ (scan p n t).pos
unfolding pass_over scan
pass_scan p [] n = refl
pass_scan p (c ∷ t) n = go (p c) (pass_scan p t (n + 1) ∙ ap (λ m. (scan p m t).pos) (add-one n))
  where
    go : (b : Bool) → pass_over p t (n + 1) ≡ (scan p (suc n) t).pos →
        cond b (pass_over p t (n + 1)) n
        ≡ (elim b as (λ x. At) [ true ↦ scan p (suc n) t | false ↦ at n (c ∷ t) ]).pos
    go true e = e
    go false e = refl

pub skip_scan : (p : ℕ → Bool) {s : List ℕ} {n : ℕ} {t : List ℕ} → Rest s n t → skip p s n ≡ (scan p n t).pos
unfolding skip
skip_scan p {s} {n} {t} h = ap (λ z. pass_over p z n) h.is ∙ pass_scan p t n

pub rest_scan : (p : ℕ → Bool) {s : List ℕ} {n : ℕ} {t : List ℕ} → Rest s n t →
    Rest s (scan p n t).pos (scan p n t).rest
rest_scan p {s} {n} {t} h = stays h (scanned p n t)

-- Where a parser's answer ends

abbrev pub end_of : {A : Type 0} → Got A → End
end_of failed = refused
end_of (got a st) = ended st.pos

-- One reader after another, each ending as the parser does.
pub then_ends : {A B : Type 0} (g : Got A) (f : A → At → Got B) {e : End} (k : ℕ → End) → e ≡ end_of g →
    ((a : A) (st : At) → g ≡ got a st → k st.pos ≡ end_of (f a st)) → and_then e k ≡ end_of (then g f)
then_ends failed f k p q = ap (λ z. and_then z k) p
then_ends (got a st) f k p q = ap (λ z. and_then z k) p ∙ q a st refl

-- What is made of the answer does not change where it ends.
pub ends_same : {A B : Type 0} (g : Got A) (f : A → B) → end_of g ≡ end_of (then g (λ a st. got (f a) st))
ends_same failed f = refl
ends_same (got a st) f = refl

-- Words

pub word_ends : (w : List ℕ) {s : List ℕ} {n : ℕ} {t : List ℕ} → T (all (λ c. not (eqb 256 c)) w) → Rest s n t →
    word_at w s n ≡ end_of (word w n t)
unfolding word_at word
word_ends [] a h = refl
word_ends (c ∷ w) {s} {n} {t = []} a h =
    rw (octet_nil h, false_of (eqb 256 c) (both_T (not (eqb 256 c)) (all (λ d. not (eqb 256 d)) w) a).0)
word_ends (c ∷ w) {s} {n} {t = d ∷ t} a h =
    rw (octet_cons h, step_cons h)
    (go (eqb d c) (word_ends w (both_T (not (eqb 256 c)) (all (λ x. not (eqb 256 x)) w) a).1 (rest_next h)))
  where
    go : (b : Bool) → word_at w s (suc n) ≡ end_of (word w (suc n) t) →
        cond b (word_at w s (suc n)) refused
        ≡ end_of {A = Unit {0}} (elim b as (λ x. Got (Unit {0})) [ true ↦ word w (suc n) t | false ↦ failed ])
    go true e = e
    go false e = refl

-- Numbers

digits_ends : {A : Type 0} (p : ℕ → Bool) (f : Octet p → List (Octet is_digit) → A) {s : List ℕ} {n : ℕ} {t : List ℕ} →
    p 256 ≡ false → Rest s n t → digits_at p s n ≡ end_of (digits p f n t)
unfolding digits_at digits one
digits_ends p f {s} {n} {t = []} z h = rw (octet_nil h, z)
digits_ends p f {s} {n} {t = c ∷ t} z h = rw (octet_cons h, step_cons h) (go (p c) refl)
  where
    go : (b : Bool) (e : p c ≡ b) → cond b (ended (skip is_digit s (suc n))) refused
        ≡ end_of (then (octet p c b e (at (suc n) t)) (λ o st.
        got (f o (run is_digit st.rest)) (scan is_digit st.pos st.rest)))
    go true e = ap ended (skip_scan is_digit (rest_next h))
    go false e = refl

int_ends : {s : List ℕ} {n : ℕ} {t : List ℕ} → Rest s n t → int_at s n ≡ end_of (read_int n t)
unfolding int_at read_int digits one
int_ends {s} {n} {t = []} h = rw (octet_nil h) (digits_ends is_nonzero int refl h)
int_ends {s} {n} {t = c ∷ t} h =
    rw (octet_cons h) (go (eqb c digit_zero) (digits_ends is_nonzero int refl h))
  where
    go : (b : Bool) → digits_at is_nonzero s n ≡ end_of (digits is_nonzero int n (c ∷ t)) →
        cond b (ended (step s n)) (digits_at is_nonzero s n)
        ≡ end_of {A = Int} (elim b as (λ x. Got Int) [
          | true ↦ got int_zero (at (suc n) t)
          | false ↦ digits is_nonzero int n (c ∷ t)
        ])
    go true e = ap ended (step_cons h)
    go false e = e

-- An octet that may be absent.
opt_ends : {B : Type 0} (p : ℕ → Bool) (f : Option (Octet p) → At → Got B) {s : List ℕ} {n : ℕ} {t : List ℕ}
    {yes no : End} → p 256 ≡ false → Rest s n t →
    ((o : Octet p) (t' : List ℕ) → Rest s n (o.code ∷ t') → yes ≡ end_of (f (some o) (at (suc n) t'))) →
    no ≡ end_of (f none (at n t)) → cond (p (octet_at s n)) yes no ≡ end_of (then (opt p n t) f)
unfolding opt
opt_ends p f {t = []} z h y q = rw (octet_nil h, z) q
opt_ends {B} p f {s} {n} {t = c ∷ t} {yes} {no} z h y q = rw (octet_cons h) (go (p c) refl)
  where
    go : (b : Bool) (e : p c ≡ b) → cond b yes no ≡ end_of (then (perhaps p c b e n t) f)
    go true e = y (record { code = c; fits = true→T (p c) e }) t h
    go false e = q

fraction_ends : {s : List ℕ} {n : ℕ} {t : List ℕ} → Rest s n t → fraction_at s n ≡ end_of (read_fraction n t)
unfolding fraction_at read_fraction fraction_after
fraction_ends {s} {n} h =
    opt_ends is_point fraction_after refl h
    (λ o t' r. ap (digits_at is_digit s) (step_cons r) ∙ digits_ends is_digit digits_of refl (rest_next r)
    ∙ ends_same (digits is_digit digits_of (suc n) t') (λ d. some (record { mark = o; digits = d })))
    refl

cond_ap : {A B : Type 0} (k : A → B) (b : Bool) (x y : A) → k (cond b x y) ≡ cond b (k x) (k y)
cond_ap k true x y = refl
cond_ap k false x y = refl

exponent_ends : {s : List ℕ} {n : ℕ} {t : List ℕ} → Rest s n t → exponent_at s n ≡ end_of (read_exponent n t)
unfolding exponent_at read_exponent exponent_after perhaps_at
exponent_ends {s} {n} h =
    opt_ends is_e exponent_after refl h
    (λ o t' r.
    ap (λ m. digits_at is_digit s (perhaps_at is_plus_minus s m)) (step_cons r)
    ∙ cond_ap (digits_at is_digit s) (is_plus_minus (octet_at s (suc n))) (step s (suc n)) (suc n)
    ∙ opt_ends is_plus_minus (signed o) refl (rest_next r)
    (λ g t'' r'. ap (digits_at is_digit s) (step_cons r') ∙ digits_ends is_digit digits_of refl (rest_next r')
    ∙ ends_same (digits is_digit digits_of (suc (suc n)) t'') (λ d. some (record { mark = o; sign = some g; digits = d })))
    (digits_ends is_digit digits_of refl (rest_next r)
    ∙ ends_same (digits is_digit digits_of (suc n) t') (λ d. some (record { mark = o; sign = none; digits = d }))))
    refl
  where
    signed : Octet is_e → Option (Octet is_plus_minus) → At → Got (Option Exponent)
    signed o g st =
        then (digits is_digit digits_of st.pos st.rest)
        (λ d st'. got (some (record { mark = o; sign = g; digits = d })) st')

-- A number ends where the parser's does.
pub number_ends : {s : List ℕ} {n : ℕ} {t : List ℕ} → Rest s n t → number_at s n ≡ end_of (read_num n t)
unfolding number_at read_num perhaps_at
number_ends {s} {n} {t} h =
    cond_ap (λ m. and_then (int_at s m) (λ e. and_then (fraction_at s e) (λ f. exponent_at s f)))
    (is_minus (octet_at s n)) (step s n) n
    ∙ opt_ends is_minus parts refl h
    (λ o t' r. ap (λ m. and_then (int_at s m) (λ e. and_then (fraction_at s e) (λ f. exponent_at s f))) (step_cons r)
    ∙ from_int (some o) (rest_next r))
    (from_int none h)
  where
    parts : Option (Octet is_minus) → At → Got Num
    parts m st₁ =
        then (read_int st₁.pos st₁.rest) (λ i st₂.
        then (read_fraction st₂.pos st₂.rest) (λ f st₃.
        then (read_exponent st₃.pos st₃.rest) (λ e st₄.
        got (record { negative = m; whole = i; fraction = f; exponent = e }) st₄)))

    from_int : (m : Option (Octet is_minus)) {k : ℕ} {u : List ℕ} → Rest s k u →
        and_then (int_at s k) (λ e. and_then (fraction_at s e) (λ f. exponent_at s f)) ≡ end_of (parts m (at k u))
    from_int m {k} {u} r =
        then_ends (read_int k u) _ (λ e. and_then (fraction_at s e) (λ f. exponent_at s f)) (int_ends r) (λ i st₂ q.
        let r₂ = stays r (int_sound k u q) in
        then_ends (read_fraction st₂.pos st₂.rest) _ (λ f. exponent_at s f) (fraction_ends r₂) (λ f st₃ q₃.
        let r₃ = stays r₂ (fraction_sound st₂.pos st₂.rest q₃) in
        exponent_ends r₃
        ∙ ends_same (read_exponent st₃.pos st₃.rest)
        (λ e. record { negative = m; whole = i; fraction = f; exponent = e })))
