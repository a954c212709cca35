-- The search goes over what the reader passes: from the start of a run, a string, a number or a word it comes to the
-- same end as from behind it, however many brackets are open.
use mathlib.Core.Path.{◌≡◌, refl, ap, sym, subst, ◌∙◌}
use mathlib.Core.Bool.{Bool, true, false, not, ◌&&◌, ◌||◌}
use mathlib.Core.List.{List, [], ◌∷◌}
use Prim.Native.Nat.{ℕ, zero, suc, ◌+◌, ◌-◌, ◌≤◌, ◌<◌}
use native.Mathlib.Omega.{arith}
use lib.ListN.{length, drop, get_or}
use lib.Dec.{T, eqb, ltb}
use borrow.Author.Tests.{ltb-true, ltb-false, eqb-true}
use Rattle.grammar.specs.Grammar.{quote, backslash, digit_zero, among, is_space, is_digit, is_nonzero, is_minus, is_point}
use Rattle.grammar.specs.Grammar.{is_e, is_plus_minus, is_unescaped, is_escape, is_hex, letter_u}
use Rattle.grammar.specs.Strings.{hex_more, is_low}
use Rattle.grammar.specs.Reader.{octet_at, step, skip, End, refused, ended, and_then, Scan, between, escaping, digit}
use Rattle.grammar.specs.Reader.{Turn, broken, closed, go_on, after_char, after_unit, turn, scan_string, string_at}
use Rattle.grammar.specs.Reader.{digits_at, int_at, perhaps_at, fraction_at, exponent_at, number_at, word_at}
use Rattle.grammar.proofs.Parse.{true→T}
use Rattle.grammar.proofs.Scan.{false_of, both_T, all, among_all}
use Rattle.grammar.proofs.ScanStrings.{after_turn}
use Rattle.grammar.proofs.Endings.{either}
use Rattle.grammar.proofs.Here.{octet_here, step_inside, step_end, class_inside, skip_end, skip_next, skip_stop}
use Rattle.grammar.proofs.Steps.{scan_end, scan_here}
use Rattle.skip.specs.Inner.Past.{is_mark, State, outside, inside, escaped, past_from}
use Rattle.skip.specs.Inner.Past as past
use Rattle.skip.proofs.Steps.{alike_one, past_goes, past_quote}

-- A class of octets without a mark.
abbrev pub Clear : (ℕ → Bool) → Type 0
Clear p = (c : ℕ) → p c ≡ true → is_mark c ≡ false

listed_clear : (xs : List ℕ) → T (all (λ c. not (is_mark c)) xs) → Clear (among xs)
listed_clear xs a c e = false_of (is_mark c) (among_all (λ x. not (is_mark x)) xs c a (true→T (among xs c) e))

pub one_clear : (x : ℕ) → is_mark x ≡ false → Clear (λ c. eqb c x)
one_clear x h c e = ap is_mark (eqb-true c x e) ∙ h

pub space_clear : Clear is_space
space_clear = listed_clear (32 ∷ 9 ∷ 10 ∷ 13 ∷ []) tt

digit_clear : Clear is_digit
digit_clear = listed_clear (48 ∷ 49 ∷ 50 ∷ 51 ∷ 52 ∷ 53 ∷ 54 ∷ 55 ∷ 56 ∷ 57 ∷ []) tt

nonzero_clear : Clear is_nonzero
nonzero_clear = listed_clear (49 ∷ 50 ∷ 51 ∷ 52 ∷ 53 ∷ 54 ∷ 55 ∷ 56 ∷ 57 ∷ []) tt

minus_clear : Clear is_minus
minus_clear = listed_clear (45 ∷ []) tt

point_clear : Clear is_point
point_clear = listed_clear (46 ∷ []) tt

e_clear : Clear is_e
e_clear = listed_clear (101 ∷ 69 ∷ []) tt

sign_clear : Clear is_plus_minus
sign_clear = listed_clear (43 ∷ 45 ∷ []) tt

-- What stands in a string and is neither its end nor a backslash.

abbrev neither : ℕ → Bool
neither c = not (eqb c quote) && not (eqb c backslash)

Inner : ℕ → Type 0
Inner c = (eqb c quote ≡ false) × (eqb c backslash ≡ false)

inner : (c : ℕ) → T (neither c) → Inner c
unfolding Inner
inner c t =
    let u = both_T (not (eqb c quote)) (not (eqb c backslash)) t in
    (false_of (eqb c quote) u.0, false_of (eqb c backslash) u.1)

hex_inner : (c : ℕ) → is_hex c ≡ true → Inner c
hex_inner c e = cases (is_digit c) refl e
  where
    cases : (b : Bool) → is_digit c ≡ b →
        (b || among (65 ∷ 66 ∷ 67 ∷ 68 ∷ 69 ∷ 70 ∷ 97 ∷ 98 ∷ 99 ∷ 100 ∷ 101 ∷ 102 ∷ []) c) ≡ true → Inner c
    cases true b e =
        inner c
        (among_all neither (48 ∷ 49 ∷ 50 ∷ 51 ∷ 52 ∷ 53 ∷ 54 ∷ 55 ∷ 56 ∷ 57 ∷ []) c tt (true→T (is_digit c) b))
    cases false b e =
        inner c
        (among_all neither (65 ∷ 66 ∷ 67 ∷ 68 ∷ 69 ∷ 70 ∷ 97 ∷ 98 ∷ 99 ∷ 100 ∷ 101 ∷ 102 ∷ []) c tt (true→T _ e))

-- Where the search is when the reader is in a string.
abbrev mode : Scan → ℕ → State
mode (between h) d = inside d
mode (escaping h) d = escaped d
mode (digit h n x) d = inside d

-- An octet leads both on alike.
abbrev Led : Scan → ℕ → Turn → Type 0
Led x c broken = Unit {0}
Led x c closed = (d : ℕ) → past.turn (mode x d) c ≡ past.go_on (outside d)
Led x c (go_on y) = (d : ℕ) → past.turn (mode x d) c ≡ past.go_on (mode y d)

module _ (c : ℕ) (i : Inner c) where
  stays : (d : ℕ) → past.turn (inside d) c ≡ past.go_on (inside d)
  unfolding past.turn Inner
  stays d = rw (i.0, i.1)

  unit_led : (h k : Bool) (n x u : ℕ) → Led (digit h n x) c (after_unit k u)
  unit_led h false n x u =
      either (Led (digit h n x) c) (is_low u) (λ _. tt) (λ _. stays)
  unit_led h true n x u = either (Led (digit h n x) c) (is_low u) (λ _. stays) (λ _. tt)

led : (x : Scan) (c : ℕ) → Led x c (turn x c)
unfolding turn past.turn Inner
led (between h) c =
    let P = Led (between h) c in
    either P (eqb c quote) (λ q. either P h (λ _. tt) (λ _ d. rw q)) λ q.
    either P (eqb c backslash) (λ b d. rw (q, b)) λ b.
    either P (is_unescaped c) (λ _. plain h (stays c (q, b))) (λ _. tt)
  where
    plain : (k : Bool) → ((d : ℕ) → past.turn (inside d) c ≡ past.go_on (inside d)) → Led (between h) c (after_char k)
    plain false f = f
    plain true f = tt
led (escaping h) c =
    let P = Led (escaping h) c in
    either P (eqb c letter_u) (λ _ d. refl) λ _.
    either P (is_escape c) (λ _. plain h) (λ _. tt)
  where
    plain : (k : Bool) → Led (escaping h) c (after_char k)
    plain false = λ d. refl
    plain true = tt
led (digit h zero x) c =
    either (Led (digit h zero x) c) (is_hex c) (λ e. unit_led c (hex_inner c e) h h zero x (hex_more x c)) (λ _. tt)
led (digit h (suc n) x) c =
    either (Led (digit h (suc n) x) c) (is_hex c) (λ e. stays c (hex_inner c e)) (λ _. tt)

module _ (s : List ℕ) where
  -- From both positions the search comes to the same end.
  pub record Through (at e : ℕ) : Type 0 where
    pub same : (d : ℕ) → past_from (outside d) s at ≡ past_from (outside d) s e

  abbrev pub Passed : ℕ → End → Type 0
  Passed at refused = Unit {0}
  Passed at (ended e) = Through at e

  pub through_same : {at e : ℕ} → at ≡ e → Through at e
  through_same p = record { same = λ d. ap (past_from (outside d) s) p }

  pub through_then : {a b c : ℕ} → Through a b → Through b c → Through a c
  through_then x y = record { same = λ d. x.same d ∙ y.same d }

  pub passed_from : {at from : ℕ} (x : End) → Through at from → Passed from x → Passed at x
  passed_from refused g h = tt
  passed_from (ended e) g h = through_then g h

  and_then_lem : (at : ℕ) (x : End) (f : ℕ → End) → Passed at x → ((e : ℕ) → Passed e (f e)) → Passed at (and_then x f)
  and_then_lem at refused f h g = tt
  and_then_lem at (ended e) f h g = passed_from (f e) h (g e)

  -- Octets and runs of a class without a mark.
  module _ (p : ℕ → Bool) (none : Clear p) where
    one_over : (at : ℕ) → at < length s → p (get_or s at 0) ≡ true → Through at (at + 1)
    one_over at h e = record { same = λ d. sym ((alike_one s at h (none (get_or s at 0) e)).out d) }

    pub step_over : (at : ℕ) → p (octet_at s at) ≡ true → Through at (step s at)
    step_over at e = cases (ltb at (length s)) refl
      where
        cases : (b : Bool) → ltb at (length s) ≡ b → Through at (step s at)
        cases true b =
            let h = ltb-true at (length s) b in
            through_then (one_over at h (ap p (octet_here s at h) ∙ e)) (through_same (step_inside s at h))
        cases false b = through_same (step_end s at (ltb-false at (length s) b))

    skip_over_in : (n at : ℕ) → length s - at ≤ n → Through at (skip p s at)
    skip_over_in zero at l = through_same (sym (skip_end p s at (omega arith)))
    skip_over_in (suc n) at l = cases (ltb at (length s)) refl (p (get_or s at 0)) refl (skip_over_in n (at + 1))
      where
        cases : (b : Bool) → ltb at (length s) ≡ b → (u : Bool) → p (get_or s at 0) ≡ u →
            (length s - (at + 1) ≤ n → Through (at + 1) (skip p s (at + 1))) → Through at (skip p s at)
        cases false b u e later = through_same (sym (skip_end p s at (ltb-false at (length s) b)))
        cases true b false e later = through_same (sym (skip_stop p s at (ltb-true at (length s) b) e))
        cases true b true e later =
            let h = ltb-true at (length s) b in
            through_then (one_over at h e)
            (through_then (later (omega arith)) (through_same (sym (skip_next p s at h e))))

    pub skip_over : (at : ℕ) → Through at (skip p s at)
    skip_over at = skip_over_in (length s) at (omega arith)

    pub perhaps_over : (at : ℕ) → Through at (perhaps_at p s at)
    unfolding perhaps_at
    perhaps_over at = either (Through at) (p (octet_at s at)) (step_over at) (λ _. through_same refl)

  -- Strings

  abbrev Scanned : Scan → ℕ → End → Type 0
  Scanned x at refused = Unit {0}
  Scanned x at (ended e) = (d : ℕ) → past_from (mode x d) s at ≡ past_from (outside d) s e

  scan_over : (n : ℕ) (x : Scan) (at : ℕ) → length s - at ≤ n → Scanned x at (scan_string x (drop at s) at)
  scan_over zero x at l = subst (Scanned x at) (sym (scan_end s at x (omega arith))) tt
  scan_over (suc n) x at l = cases (ltb at (length s)) refl (λ y. scan_over n y (at + 1))
    where
      goes : at < length s → (u : Turn) → Led x (get_or s at 0) u →
          ((y : Scan) → Scanned y (at + 1) (scan_string y (drop (at + 1) s) (at + 1))) →
          Scanned x at (after_turn u (drop (at + 1) s) (at + 1))
      goes h broken f later = tt
      goes h closed f later = λ d. past_goes s at h (mode x d) (outside d) (f d)
      goes h (go_on y) f later = on (scan_string y (drop (at + 1) s) (at + 1)) (later y)
        where
          on : (r : End) → Scanned y (at + 1) r → Scanned x at r
          on refused g = tt
          on (ended e) g = λ d. past_goes s at h (mode x d) (mode y d) (f d) ∙ g d

      cases : (b : Bool) → ltb at (length s) ≡ b →
          ((y : Scan) → length s - (at + 1) ≤ n → Scanned y (at + 1) (scan_string y (drop (at + 1) s) (at + 1))) →
          Scanned x at (scan_string x (drop at s) at)
      cases true b later =
          let h = ltb-true at (length s) b in
          subst (Scanned x at) (sym (scan_here s at x h))
          (goes h (turn x (get_or s at 0)) (led x (get_or s at 0)) (λ y. later y (omega arith)))
      cases false b later = subst (Scanned x at) (sym (scan_end s at x (ltb-false at (length s) b))) tt

  pub string_over : (at : ℕ) → Passed at (string_at s at)
  unfolding string_at
  string_over at =
      either (Passed at) (eqb (octet_at s at) quote)
      (λ q. opened (scan_string (between false) (drop (step s at) s) (step s at))
      (scan_over (length s) (between false) (step s at) (omega arith))
      (class_inside (λ c. eqb c quote) s at refl q) q)
      (λ _. tt)
    where
      opened : (r : End) → Scanned (between false) (step s at) r → at < length s → eqb (octet_at s at) quote ≡ true →
          Passed at r
      opened refused g h q = tt
      opened (ended e) g h q =
          let c = octet_here s at h ∙ eqb-true (octet_at s at) quote q in
          record { same = λ d. past_quote s at h d c ∙ ap (past_from (inside d) s) (step_inside s at h) ∙ g d }

  -- Numbers

  digits_over : (p : ℕ → Bool) → Clear p → (at : ℕ) → Passed at (digits_at p s at)
  unfolding digits_at
  digits_over p none at =
      either (Passed at) (p (octet_at s at))
      (λ h. through_then (step_over p none at h) (skip_over is_digit digit_clear (step s at)))
      (λ _. tt)

  int_over : (at : ℕ) → Passed at (int_at s at)
  unfolding int_at
  int_over at =
      either (Passed at) (eqb (octet_at s at) digit_zero)
      (step_over (λ c. eqb c digit_zero) (one_clear digit_zero refl) at)
      (λ _. digits_over is_nonzero nonzero_clear at)

  fraction_over : (at : ℕ) → Passed at (fraction_at s at)
  unfolding fraction_at
  fraction_over at =
      either (Passed at) (is_point (octet_at s at))
      (λ h. passed_from (digits_at is_digit s (step s at)) (step_over is_point point_clear at h)
      (digits_over is_digit digit_clear (step s at)))
      (λ _. through_same refl)

  exponent_over : (at : ℕ) → Passed at (exponent_at s at)
  unfolding exponent_at
  exponent_over at =
      either (Passed at) (is_e (octet_at s at))
      (λ h.
      let q = perhaps_at is_plus_minus s (step s at) in
      passed_from (digits_at is_digit s q)
      (through_then (step_over is_e e_clear at h) (perhaps_over is_plus_minus sign_clear (step s at)))
      (digits_over is_digit digit_clear q))
      (λ _. through_same refl)

  pub number_over : (at : ℕ) → Passed at (number_at s at)
  unfolding number_at
  number_over at =
      let q = perhaps_at is_minus s at in
      passed_from (and_then (int_at s q) (λ e. and_then (fraction_at s e) (λ f. exponent_at s f)))
      (perhaps_over is_minus minus_clear at)
      (and_then_lem q (int_at s q) (λ e. and_then (fraction_at s e) (λ f. exponent_at s f)) (int_over q)
      (λ e. and_then_lem e (fraction_at s e) (λ f. exponent_at s f) (fraction_over e) exponent_over))

  -- Words

  pub word_over : (w : List ℕ) → T (all (λ c. not (is_mark c)) w) → (at : ℕ) → Passed at (word_at w s at)
  unfolding word_at
  word_over [] a at = through_same refl
  word_over (c ∷ w) a at =
      let b = both_T (not (is_mark c)) (all (λ c. not (is_mark c)) w) a in
      let r = word_over w b.1 (step s at) in
      either (Passed at) (eqb (octet_at s at) c)
      (λ h. passed_from (word_at w s (step s at))
      (step_over (λ x. eqb x c) (one_clear c (false_of (is_mark c) b.0)) at h) r)
      (λ _. tt)
