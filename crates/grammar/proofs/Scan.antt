-- Laws of classes of octets and of passing over them: what the parser passes is the octets of the class, all of them.
use mathlib.Core.Path.{◌≡◌, refl, sym, ap, subst, subst₂, ◌∙◌}
use mathlib.Core.List.{List, [], ◌∷◌, ◌++◌, append_assoc}
use mathlib.Core.Bool.{Bool, true, false, not, ◌&&◌, ◌||◌}
use mathlib.Core.Option.{Option, none, some}
use Prim.Native.Nat.{ℕ, suc, ◌+◌}
use native.Mathlib.Omega.{arith}
use lib.ListN.{length, length-append}
use lib.Dec.{T, T_prop, eqb, eqb→eq, T_not, not_T}
use Rattle.grammar.specs.Grammar.{among, is_digit, Octet, octets, optional, Space}
use Rattle.grammar.proofs.Parse.{At, at, Got, failed, got, then, true→T, scan, run, extend, one, octet, opt}
use Rattle.grammar.proofs.Parse.{perhaps, word}

pub T→true : (b : Bool) → T b → b ≡ true
T→true true t = refl
T→true false t = absurd t

pub false_of : (b : Bool) → T (not b) → b ≡ false
false_of true t = absurd t
false_of false t = refl

pub both_T : (a b : Bool) → T (a && b) → T a × T b
both_T true b t = (tt, t)
both_T false b t = absurd t

-- A fact about a class that is a list of octets is computed over the list.

abbrev pub all : (ℕ → Bool) → List ℕ → Bool
all q [] = true
all q (x ∷ xs) = q x && all q xs

pub among_all : (q : ℕ → Bool) (xs : List ℕ) (c : ℕ) → T (all q xs) → T (among xs c) → T (q c)
among_all q [] c a t = absurd t
among_all q (x ∷ xs) c a t = go (eqb c x) refl (among_all q xs c (both_T (q x) (all q xs) a).1) t
  where
    go : (b : Bool) → eqb c x ≡ b → (T (among xs c) → T (q c)) → T (b || among xs c) → T (q c)
    go true e ih u = subst (λ y. T (q y)) (sym (eqb→eq c x (true→T (eqb c x) e))) (both_T (q x) (all q xs) a).0
    go false e ih u = ih u

-- What a step gave.

pub record Then {A B : Type 0} (g : Got A) (f : A → At → Got B) (b : B) (st : At) : Type 0 where
  pub mid : A
  pub here : At
  pub first : g ≡ got mid here
  pub second : f mid here ≡ got b st

pub no_got : {A : Type 0} {a : A} {st : At} → ◌≡◌ {A = Got A} failed (got a st) → ⊥
no_got e = let z : ◌≡◌ {A = ℕ} 0 1 = cc in omega arith

pub got_val : {A : Type 0} {a b : A} {s t : At} → got a s ≡ got b t → a ≡ b
got_val e = cc

pub got_at : {A : Type 0} {a b : A} {s t : At} → got a s ≡ got b t → s ≡ t
got_at e = cc

pub then_inv : {A B : Type 0} (g : Got A) (f : A → At → Got B) {b : B} {st : At} → then g f ≡ got b st → Then g f b st
then_inv failed f e = absurd (no_got e)
then_inv (got a st') f e = record { mid = a; here = st'; first = refl; second = e }

-- What was read: the leaves of what was given, up to where it ended.
pub record Spelled (leaves : List ℕ) (n : ℕ) (s : List ℕ) (st : At) : Type 0 where
  pub text : leaves ++ st.rest ≡ s
  pub ends : st.pos ≡ n + length leaves

pub spelled_then : {A B : List ℕ} {n : ℕ} {s : List ℕ} {mid st : At} →
    Spelled A n s mid → Spelled B mid.pos mid.rest st → Spelled (A ++ B) n s st
spelled_then {A} {B} x y = record {
  text = rw (append_assoc A, y.text) x.text;
  ends = y.ends ∙ omega (arith, x.ends, length-append A B);
}

pub spelled_nothing : {n : ℕ} {s : List ℕ} → Spelled [] n s (at n s)
spelled_nothing = record { text = refl; ends = omega arith }

-- What was spelled by one name for the answer is so by the other.
pub spelled_as : {A : Type 0} (leaves : A → List ℕ) {n : ℕ} {s : List ℕ} {a b : A} {x y : At} → got a x ≡ got b y →
    Spelled (leaves a) n s x → Spelled (leaves b) n s y
spelled_as leaves {n} {s} e h = subst₂ (λ z st. Spelled (leaves z) n s st) (got_val e) (got_at e) h

-- Runs of octets

-- A text that does not go on with an octet of the class.
abbrev pub halts : (ℕ → Bool) → List ℕ → Bool
halts p [] = true
halts p (c ∷ s) = not (p c)

pub scan_octets : (p : ℕ → Bool) (n : ℕ) (w : List (Octet p)) (r : List ℕ) →
    scan p n (octets w ++ r) ≡ scan p (n + length (octets w)) r
unfolding scan octets
scan_octets p n [] r = ap (λ x. scan p x r) (omega arith)
scan_octets p n (o ∷ os) r =
    rw (T→true (p o.code) o.fits, scan) (scan_octets p (suc n) os r ∙ ap (λ x. scan p x r) (omega arith))

pub scan_halts : (p : ℕ → Bool) (n : ℕ) (r : List ℕ) → T (halts p r) → scan p n r ≡ at n r
unfolding scan
scan_halts p n [] h = refl
scan_halts p n (c ∷ s) h = rw (false_of (p c) h, scan)

extend_yes : (p : ℕ → Bool) (o : Octet p) (b : Bool) (e : p o.code ≡ b) (w : List (Octet p)) →
    extend p o.code b e w ≡ o ∷ w
extend_yes p o true e w = ap (λ f. record { code = o.code; fits = f } ∷ w) (T_prop (p o.code) _ _)
extend_yes p o false e w = absurd (subst T e o.fits)

extend_no : (p : ℕ → Bool) (c : ℕ) (b : Bool) (e : p c ≡ b) (w : List (Octet p)) → T (not b) → extend p c b e w ≡ []
extend_no p c true e w t = absurd t
extend_no p c false e w t = refl

pub run_halts : (p : ℕ → Bool) (r : List ℕ) → T (halts p r) → run p r ≡ []
unfolding run
run_halts p [] h = refl
run_halts p (c ∷ s) h = extend_no p c (p c) refl (run p s) h

pub run_octets : (p : ℕ → Bool) (w : List (Octet p)) (r : List ℕ) → T (halts p r) → run p (octets w ++ r) ≡ w
unfolding run octets
run_octets p [] r h = run_halts p r h
run_octets p (o ∷ os) r h =
    extend_yes p o (p o.code) refl (run p (octets os ++ r)) ∙ ap (λ w. o ∷ w) (run_octets p os r h)

pub scanned : (p : ℕ → Bool) (n : ℕ) (s : List ℕ) → Spelled (octets (run p s)) n s (scan p n s)
unfolding scan run octets
scanned p n [] = record { text = refl; ends = omega arith }
scanned p n (c ∷ s) = go (p c) refl (scanned p (suc n) s)
  where
    go : (b : Bool) (e : p c ≡ b) → Spelled (octets (run p s)) (suc n) s (scan p (suc n) s) →
        Spelled (octets (extend p c b e (run p s))) n (c ∷ s)
        (elim b as (λ x. At) [ true ↦ scan p (suc n) s | false ↦ at n (c ∷ s) ])
    go true e h = record { text = ap (λ x. c ∷ x) h.text; ends = h.ends ∙ omega arith }
    go false e h = record { text = refl; ends = omega arith }

-- One octet

octet_yes : (p : ℕ → Bool) (o : Octet p) (b : Bool) (e : p o.code ≡ b) (st : At) → octet p o.code b e st
    ≡ got o st
octet_yes p o true e st = ap (λ f. got (record { code = o.code; fits = f }) st) (T_prop (p o.code) _ _)
octet_yes p o false e st = absurd (subst T e o.fits)

pub one_read : (p : ℕ → Bool) (n : ℕ) (o : Octet p) (r : List ℕ) → one p n (o.code ∷ r) ≡ got o (at (suc n) r)
unfolding one
one_read p n o r = octet_yes p o (p o.code) refl (at (suc n) r)

pub one_inv : (p : ℕ → Bool) (n : ℕ) (s : List ℕ) {o : Octet p} {st : At} → one p n s ≡ got o st →
    (o.code ∷ st.rest ≡ s) × (st.pos ≡ suc n)
unfolding one
one_inv p n [] e = absurd (no_got e)
one_inv p n (c ∷ s) {o} {st} h = go (p c) refl h
  where
    go : (b : Bool) (e : p c ≡ b) → octet p c b e (at (suc n) s) ≡ got o st →
        (o.code ∷ st.rest ≡ c ∷ s) × (st.pos ≡ suc n)
    go true e k =
        let x = ap (λ z. z.code) (got_val k) in
        let y = got_at k in
        (rw (← x, ← y), ap (λ z. z.pos) (sym y))
    go false e k = absurd (no_got k)

-- One octet, if it is there

perhaps_yes : (p : ℕ → Bool) (o : Octet p) (b : Bool) (e : p o.code ≡ b) (n : ℕ) (s : List ℕ) →
    perhaps p o.code b e n s ≡ got (some o) (at (suc n) s)
perhaps_yes p o true e n s =
    ap (λ f. got (some (record { code = o.code; fits = f })) (at (suc n) s)) (T_prop (p o.code) _ _)
perhaps_yes p o false e n s = absurd (subst T e o.fits)

perhaps_no : (p : ℕ → Bool) (c : ℕ) (b : Bool) (e : p c ≡ b) (n : ℕ) (s : List ℕ) → T (not b) →
    perhaps p c b e n s ≡ got none (at n (c ∷ s))
perhaps_no p c true e n s t = absurd t
perhaps_no p c false e n s t = refl

pub opt_none : (p : ℕ → Bool) (n : ℕ) (r : List ℕ) → T (halts p r) → opt p n r ≡ got none (at n r)
unfolding opt
opt_none p n [] h = refl
opt_none p n (c ∷ s) h = perhaps_no p c (p c) refl n s h

pub opt_some : (p : ℕ → Bool) (n : ℕ) (o : Octet p) (r : List ℕ) → opt p n (o.code ∷ r) ≡ got (some o) (at (suc n) r)
unfolding opt
opt_some p n o r = perhaps_yes p o (p o.code) refl n r

pub opt_inv : (p : ℕ → Bool) (n : ℕ) (s : List ℕ) {x : Option (Octet p)} {st : At} → opt p n s ≡ got x st →
    Spelled (optional x) n s st
unfolding opt optional
opt_inv p n [] h = spelled_as optional h spelled_nothing
opt_inv p n (c ∷ s) {x} {st} h = go (p c) refl h
  where
    go : (b : Bool) (e : p c ≡ b) → perhaps p c b e n s ≡ got x st → Spelled (optional x) n (c ∷ s) st
    go true e k = spelled_as optional k (record { text = refl; ends = omega arith })
    go false e k = spelled_as optional k spelled_nothing

-- Words

pub word_inv : (cs : List ℕ) (n : ℕ) (s : List ℕ) {u : Unit {0}} {st : At} → word cs n s ≡ got u st → Spelled cs n s st
unfolding word
word_inv [] n s e = subst (Spelled [] n s) (got_at e) (record { text = refl; ends = omega arith })
word_inv (c ∷ cs) n [] e = absurd (no_got e)
word_inv (c ∷ cs) n (d ∷ s) {u} {st} e = go (eqb d c) refl e (λ h. word_inv cs (suc n) s h)
  where
    go : (b : Bool) → eqb d c ≡ b →
        elim b as (λ x. Got (Unit {0})) [ true ↦ word cs (suc n) s | false ↦ failed ] ≡ got u st →
        (word cs (suc n) s ≡ got u st → Spelled cs (suc n) s st) → Spelled (c ∷ cs) n (d ∷ s) st
    go true q h ih =
        let t = eqb→eq d c (true→T (eqb d c) q) in
        let r = ih h in
        record { text = rw t (ap (λ x. c ∷ x) r.text); ends = r.ends ∙ omega arith }
    go false q h ih = absurd (no_got h)

-- Where a number ends

-- The octets that a number could go on with: 0 to 9, the point, E and e.
abbrev pub is_number_lem : ℕ → Bool
is_number_lem = among (48 ∷ 49 ∷ 50 ∷ 51 ∷ 52 ∷ 53 ∷ 54 ∷ 55 ∷ 56 ∷ 57 ∷ 46 ∷ 69 ∷ 101 ∷ [])

pub halts_mono : (p q : ℕ → Bool) → ((c : ℕ) → T (p c) → T (q c)) → (r : List ℕ) → T (halts q r) → T (halts p r)
halts_mono p q f [] h = tt
halts_mono p q f (c ∷ s) h = not_T (p c) (λ t. T_not (q c) h (f c t))

pub number_halts : (xs : List ℕ) → T (all is_number_lem xs) → (r : List ℕ) → T (halts is_number_lem r) → T (halts (among xs) r)
number_halts xs a = halts_mono (among xs) is_number_lem (λ c t. among_all is_number_lem xs c a t)

pub digit_halts : (r : List ℕ) → T (halts is_number_lem r) → T (halts is_digit r)
digit_halts = number_halts (48 ∷ 49 ∷ 50 ∷ 51 ∷ 52 ∷ 53 ∷ 54 ∷ 55 ∷ 56 ∷ 57 ∷ []) tt

-- A number ends before space.
pub space_halts : (w : Space) (r : List ℕ) → T (halts is_number_lem r) → T (halts is_number_lem (octets w ++ r))
unfolding octets
space_halts [] r h = h
space_halts (o ∷ os) r h = among_all (λ c. not (is_number_lem c)) (32 ∷ 9 ∷ 10 ∷ 13 ∷ []) o.code tt o.fits
