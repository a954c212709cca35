-- The rules on a recipient's parameters depend only on what each entry shows: its origin, its number, its kind, the octets of its
-- name and of its value, and of a protected `crit` the octets of its elements; and on the sizes. Outside protection the elements of
-- `crit` do not matter: 16 refuses it before 17 asks them.
use mathlib.Core.Path.{◌≡◌, refl, ap, ap₂, sym, ◌∙◌}
use mathlib.Core.Bool.{Bool, true, false, not, ◌&&◌, ◌||◌, true≢false}
use mathlib.Core.List.{List, [], ◌∷◌, ◌++◌, map}
use Prim.Native.Nat.{ℕ}
use lib.Dec.{eqb}
use borrow.Author.Tests.{eqb-true, not-false}
use Rattle.names.specs.Names.{number_in}
use Rattle.grammar.specs.Places.{Element}
use Rattle.grammar.specs.Reader.{elements_at}
use Rattle.grammar.specs.Spellings.{alike}
use Rattle.prelude.specs.Any.{any, any_pair}
use Rattle.prelude.specs.Refusals.{Test, ◌if◌, first}
use Rattle.rows.specs.Rows.{Entry, Texts, text_of, name_in, value_in, name_says, numbered, present, apart, same, repeated}
use Rattle.algorithms.specs.Algorithms.{alg_names, enc_names, zip_names}
use Rattle.jose.specs.Registered.{registered, alg, enc, zip, crit, string, any_kind, kind_asked}
use Rattle.jose.specs.HeaderRules.{levels, incomplete, wrong_kind, unlisted, unprotected, spelled_element}
use Rattle.jose.specs.HeaderRules.{is_empty, wrong_crit, critical, wrong_key, mode_in, breaks}
use Rattle.jose.specs.HeaderRules.{tests_of, rules_order, recipient_rules, recipient_order}
use Rattle.jose.specs.declared.Sizes.{Sizes}

-- What an element shows: its kind, and what stands between its first and its last octet.
pub record Shown : Type 0 where
  pub kind : ℕ
  pub spelled : List ℕ

abbrev pub shown : List ℕ → Element → Shown
shown s x = record { kind = x.kind; spelled = spelled_element s x }

-- What the elements of the array at an entry's value show.
abbrev pub elements_shown : Texts → Entry → List Shown
elements_shown ts e =
    let s = text_of ts e.origin in map (shown s) (elements_at levels s e.member.value_start)

-- Two entries, each in its own texts, that show the same.
pub record Alike (ts us : Texts) (e f : Entry) : Type 0 where
  pub origin : e.origin ≡ f.origin
  pub number : e.number ≡ f.number
  pub kind : e.member.kind ≡ f.member.kind
  pub name : name_in ts e ≡ name_in us f
  pub value : value_in ts e ≡ value_in us f
  pub elements : e.number ≡ crit → e.origin ≡ 0 → elements_shown ts e ≡ elements_shown us f

-- Two lists of which each of one is in a relation to that of the other.
abbrev pub Beside : {A B : Type 0} → (A → B → Type 0) → List A → List B → Type 0
Beside R [] [] = Unit {0}
Beside R [] (y ∷ ys) = ⊥
Beside R (x ∷ xs) [] = ⊥
Beside R (x ∷ xs) (y ∷ ys) = R x y × Beside R xs ys

-- Questions on lists

any_same : {A : Type 0} (f g : A → Bool) → ((x : A) → f x ≡ g x) → (xs : List A) → any f xs ≡ any g xs
unfolding any
any_same f g e [] = refl
any_same f g e (x ∷ xs) = ap₂ ◌||◌ (e x) (any_same f g e xs)

pub any_made : {A B : Type 0} (h : A → B) (f : B → Bool) (xs : List A) → any (λ x. f (h x)) xs ≡ any f (map h xs)
unfolding any
any_made h f [] = refl
any_made h f (x ∷ xs) = ap (◌||◌ (f (h x))) (any_made h f xs)

pair_made : {A B : Type 0} (h : A → B) (f : B → B → Bool) (xs : List A) →
    any_pair (λ x y. f (h x) (h y)) xs ≡ any_pair f (map h xs)
unfolding any_pair
pair_made h f [] = refl
pair_made h f (x ∷ xs) = ap₂ ◌||◌ (any_made h (f (h x)) xs) (pair_made h f xs)

none_of : (a b : Bool) → (a || b) ≡ false → (a ≡ false) × (b ≡ false)
none_of true b e = absurd (true≢false e)
none_of false b e = (refl, e)

module _ {A B : Type 0} (R : A → B → Type 0) where
  any_beside : (f : A → Bool) (g : B → Bool) → ((x : A) (y : B) → R x y → f x ≡ g y) → (xs : List A) (ys : List B) →
      Beside R xs ys → any f xs ≡ any g ys
  unfolding any
  any_beside f g e [] [] z = refl
  any_beside f g e [] (y ∷ ys) z = absurd z
  any_beside f g e (x ∷ xs) [] z = absurd z
  any_beside f g e (x ∷ xs) (y ∷ ys) z = ap₂ ◌||◌ (e x y z.0) (any_beside f g e xs ys z.1)

  -- Where a third question is answered by no of all.
  any_beside_where : (u f : A → Bool) (g : B → Bool) → ((x : A) (y : B) → R x y → u x ≡ false → f x ≡ g y) →
      (xs : List A) (ys : List B) → Beside R xs ys → any u xs ≡ false → any f xs ≡ any g ys
  unfolding any
  any_beside_where u f g e [] [] z n = refl
  any_beside_where u f g e [] (y ∷ ys) z n = absurd z
  any_beside_where u f g e (x ∷ xs) [] z n = absurd z
  any_beside_where u f g e (x ∷ xs) (y ∷ ys) z n =
      let no = none_of (u x) (any u xs) n in
      ap₂ ◌||◌ (e x y z.0 no.0) (any_beside_where u f g e xs ys z.1 no.1)

  pub pair_beside : (f : A → A → Bool) (g : B → B → Bool) →
      ((x x' : A) (y y' : B) → R x y → R x' y' → f x x' ≡ g y y') → (xs : List A) (ys : List B) →
      Beside R xs ys → any_pair f xs ≡ any_pair g ys
  unfolding any_pair
  pair_beside f g e [] [] z = refl
  pair_beside f g e [] (y ∷ ys) z = absurd z
  pair_beside f g e (x ∷ xs) [] z = absurd z
  pair_beside f g e (x ∷ xs) (y ∷ ys) z =
      ap₂ ◌||◌ (any_beside (f x) (g y) (λ x' y' r. e x x' y y' z.0 r) xs ys z.1) (pair_beside f g e xs ys z.1)

neither : {a b : Bool} (x y : Bool) → a ≡ false → b ≡ false → (a && x) ≡ (b && y)
neither {a} {b} x y p q = ap (λ (c : Bool). c && x) p ∙ sym (ap (λ (c : Bool). c && y) q)

-- 17, by what the elements show and whether a name is one of the headers'

is_none : List Shown → Bool
is_none [] = true
is_none (y ∷ ys) = false

none_made : (s : List ℕ) (xs : List Element) → is_empty xs ≡ is_none (map (shown s) xs)
unfolding is_none
none_made s [] = refl
none_made s (x ∷ xs) = refl

abbrev misplaced_shown : (List ℕ → Bool) → Shown → Bool
misplaced_shown named y = not (eqb (number_in registered y.spelled) 0) || not (named y.spelled)

abbrev wrong_shown : List (List ℕ) → (List ℕ → Bool) → List Shown → Bool
wrong_shown known named ys =
    is_none ys
    || (any (λ y. not (eqb y.kind string) || eqb (number_in known y.spelled) 0) ys
    || (any_pair (λ x y. alike x.spelled y.spelled) ys || any (misplaced_shown named) ys))

wrong_shown_lem : (known : List (List ℕ)) (ts : Texts) (es : List Entry) (s : List ℕ) (xs : List Element) →
    wrong_crit known ts es s xs ≡ wrong_shown known (λ w. any (name_says ts w) es) (map (shown s) xs)
unfolding wrong_crit
wrong_shown_lem known ts es s xs =
    ap₂ ◌||◌ (none_made s xs)
    (ap₂ ◌||◌
    (any_made (shown s) (λ y. not (eqb y.kind string) || eqb (number_in known y.spelled) 0) xs)
    (ap₂ ◌||◌ (pair_made (shown s) (λ x y. alike x.spelled y.spelled) xs)
    (any_made (shown s) (misplaced_shown (λ w. any (name_says ts w) es)) xs)))

wrong_named : (known : List (List ℕ)) (f g : List ℕ → Bool) → ((w : List ℕ) → f w ≡ g w) → (ys : List Shown) →
    wrong_shown known f ys ≡ wrong_shown known g ys
wrong_named known f g e ys =
    ap (λ (b : Bool).
    is_none ys
    || (any (λ y. not (eqb y.kind string) || eqb (number_in known y.spelled) 0) ys
    || (any_pair (λ x y. alike x.spelled y.spelled) ys || b)))
    (any_same (misplaced_shown f) (misplaced_shown g)
    (λ y. ap (λ (b : Bool). not (eqb (number_in registered y.spelled) 0) || not b) (e y.spelled)) ys)

-- A `crit` that 16 does not refuse is protected.
protected_crit : (a b z : Bool) → b ≡ true → ((a || b) && not z) ≡ false → z ≡ true
protected_crit true b z n e = not-false z e
protected_crit false true z n e = not-false z e
protected_crit false false z n e = absurd (true≢false (sym n))

-- The rules

module _ (ts us : Texts) (es fs : List Entry) (z : Beside (Alike ts us) es fs) where
  numbered_same : (n : ℕ) (e f : Entry) → Alike ts us e f → numbered n e ≡ numbered n f
  numbered_same n e f r = ap (λ (k : ℕ). eqb k n) r.number

  present_same : (n : ℕ) → present n es ≡ present n fs
  unfolding present
  present_same n = any_beside (Alike ts us) (numbered n) (numbered n) (numbered_same n) es fs z

  pub repeated_same : (across : Bool) → repeated across ts es ≡ repeated across us fs
  unfolding repeated
  repeated_same across =
      pair_beside (Alike ts us) (same across ts) (same across us)
      (λ e e' f f' r r'. ap₂ ◌&&◌ (ap₂ (apart across) r.origin r'.origin) (ap₂ alike r.name r'.name)) es fs z

  incomplete_same : incomplete es ≡ incomplete fs
  unfolding incomplete
  incomplete_same = ap₂ (λ (a b : Bool). not a || not b) (present_same alg) (present_same enc)

  kinds_same : any wrong_kind es ≡ any wrong_kind fs
  kinds_same =
      any_beside (Alike ts us) wrong_kind wrong_kind
      (λ e f r. ap₂ (λ (n k : ℕ). not (eqb (kind_asked n) any_kind) && not (eqb (kind_asked n) k)) r.number r.kind) es fs z

  listed_same : any (unlisted ts) es ≡ any (unlisted us) fs
  listed_same =
      any_beside (Alike ts us) (unlisted ts) (unlisted us)
      (λ e f r.
      ap₂ (λ (n : ℕ) (w : List ℕ).
      (eqb n alg && eqb (number_in alg_names w) 0)
      || ((eqb n enc && eqb (number_in enc_names w) 0) || (eqb n zip && eqb (number_in zip_names w) 0)))
      r.number r.value) es fs z

  protected_same : any unprotected es ≡ any unprotected fs
  protected_same =
      any_beside (Alike ts us) unprotected unprotected
      (λ e f r. ap₂ (λ (n o : ℕ). (eqb n zip || eqb n crit) && not (eqb o 0)) r.number r.origin) es fs z

  says_same : (w : List ℕ) → any (name_says ts w) es ≡ any (name_says us w) fs
  says_same w =
      any_beside (Alike ts us) (name_says ts w) (name_says us w) (λ e f r. ap (λ (v : List ℕ). alike v w) r.name) es fs z

  module _ (known : List (List ℕ)) where
    -- The contents of an entry that is a `crit`.
    crit_same : (e f : Entry) → elements_shown ts e ≡ elements_shown us f →
        let s = text_of ts e.origin in
        let t = text_of us f.origin in
        wrong_crit known ts es s (elements_at levels s e.member.value_start)
        ≡ wrong_crit known us fs t (elements_at levels t f.member.value_start)
    crit_same e f same =
        let s = text_of ts e.origin in
        let t = text_of us f.origin in
        wrong_shown_lem known ts es s (elements_at levels s e.member.value_start)
        ∙ wrong_named known (λ w. any (name_says ts w) es) (λ w. any (name_says us w) fs) says_same (elements_shown ts e)
        ∙ ap (wrong_shown known (λ w. any (name_says us w) fs)) same
        ∙ sym (wrong_shown_lem known us fs t (elements_at levels t f.member.value_start))

    critical_one : (e f : Entry) → Alike ts us e f → unprotected e ≡ false → critical known ts es e ≡ critical known us fs f
    critical_one e f r guarded = cases (numbered crit e) refl (numbered_same crit e f r)
      where
        cases : (b : Bool) → numbered crit e ≡ b → numbered crit e ≡ numbered crit f →
            (numbered crit e && wrong_crit known ts es (text_of ts e.origin)
            (elements_at levels (text_of ts e.origin) e.member.value_start))
            ≡ (numbered crit f && wrong_crit known us fs (text_of us f.origin)
            (elements_at levels (text_of us f.origin) f.member.value_start))
        cases true is both =
            let inside = protected_crit (numbered zip e) (numbered crit e) (eqb e.origin 0) is guarded in
            ap₂ ◌&&◌ both (crit_same e f (r.elements (eqb-true e.number crit is) (eqb-true e.origin 0 inside)))
        cases false is both =
            neither
            (wrong_crit known ts es (text_of ts e.origin)
            (elements_at levels (text_of ts e.origin) e.member.value_start))
            (wrong_crit known us fs (text_of us f.origin)
            (elements_at levels (text_of us f.origin) f.member.value_start))
            is (sym both ∙ is)

    critical_same : any unprotected es ≡ false → any (critical known ts es) es ≡ any (critical known us fs) fs
    critical_same =
        any_beside_where (Alike ts us) unprotected (critical known ts es) (critical known us fs) critical_one es fs z

    breaks_same : any unprotected es ≡ false → (badKey : Bool) (n : ℕ) →
        breaks known ts es badKey n ≡ breaks known us fs badKey n
    breaks_same guarded badKey n =
        rw (repeated_same true, incomplete_same, kinds_same, listed_same, protected_same, critical_same guarded)

    tests_same : any unprotected es ≡ false → (badKey : Bool) (rules : List ℕ) →
        tests_of known ts es badKey rules ≡ tests_of known us fs badKey rules
    tests_same guarded badKey [] = refl
    tests_same guarded badKey (n ∷ rules) =
        ap₂ (λ (b : Bool) (l : List Test). n if b ∷ l) (breaks_same guarded badKey n) (tests_same guarded badKey rules)

    -- Where 16 fails, nothing behind it is asked.
    sixteen_stops : any unprotected es ≡ true → (sizes : Sizes) (behind : List Test) →
        first (recipient_order known ts es sizes ++ behind) ≡ first (recipient_order known us fs sizes ++ behind)
    unfolding first recipient_order
    sixteen_stops bare sizes behind =
        let there : any unprotected fs ≡ true = sym protected_same ∙ bare in
        rw (repeated_same true, incomplete_same, kinds_same, listed_same, bare, there)

-- The mode, the tests of any list of rules where 16 does not fail, and the refusal of a recipient, whatever is asked behind.

pub mode_same : (ts us : Texts) (es fs : List Entry) → Beside (Alike ts us) es fs → mode_in ts es ≡ mode_in us fs
unfolding mode_in
mode_same ts us [] [] z = refl
mode_same ts us [] (f ∷ fs) z = absurd z
mode_same ts us (e ∷ es) [] z = absurd z
mode_same ts us (e ∷ es) (f ∷ fs) z =
    let later = mode_same ts us es fs z.1 in
    rw (z.0.number, z.0.value, later)

pub rules_same : (known : List (List ℕ)) (ts us : Texts) (es fs : List Entry) (sizes : Sizes) →
    Beside (Alike ts us) es fs → any unprotected es ≡ false → (rules : List ℕ) →
    rules_order known ts es sizes rules ≡ rules_order known us fs sizes rules
rules_same known ts us es fs sizes z guarded rules =
    ap (λ (m : ℕ). tests_of known ts es (wrong_key m sizes) rules) (mode_same ts us es fs z)
    ∙ tests_same ts us es fs z known guarded (wrong_key (mode_in us fs) sizes) rules

pub order_same : (known : List (List ℕ)) (ts us : Texts) (es fs : List Entry) (sizes : Sizes) →
    Beside (Alike ts us) es fs → (behind : List Test) →
    first (recipient_order known ts es sizes ++ behind) ≡ first (recipient_order known us fs sizes ++ behind)
unfolding recipient_order
order_same known ts us es fs sizes z behind = cases (any unprotected es) refl
  where
    cases : (b : Bool) → any unprotected es ≡ b →
        first (recipient_order known ts es sizes ++ behind) ≡ first (recipient_order known us fs sizes ++ behind)
    cases true bare = sixteen_stops ts us es fs z known bare sizes behind
    cases false guarded =
        ap (λ (tests : List Test). first (tests ++ behind)) (rules_same known ts us es fs sizes z guarded recipient_rules)
