-- Every part that the reader passes ends within the text, whatever the text: what it passes it has seen, and the octet
-- at the text's end is in no class that is passed.
use mathlib.Core.Path.{◌≡◌, refl}
use mathlib.Core.Bool.{Bool, true, false, cond}
use mathlib.Core.List.{List, [], ◌∷◌}
use Prim.Native.Nat.{ℕ, suc, ◌+◌, ◌≤◌, ◌<◌}
use native.Mathlib.Omega.{arith}
use lib.ListN.{length, drop, length-drop}
use lib.Dec.{eqb, ltb}
use borrow.Author.Tests.{ltb-true}
use Rattle.grammar.specs.Grammar.{quote, digit_zero, is_digit, is_nonzero, is_minus, is_point, is_e, is_plus_minus}
use Rattle.grammar.specs.Reader.{octet_at, step, pass_over, skip, End, refused, ended, and_then, Scan, between, Turn}
use Rattle.grammar.specs.Reader.{broken, closed, go_on, turn, scan_string, string_at, digits_at, int_at, perhaps_at}
use Rattle.grammar.specs.Reader.{fraction_at, exponent_at, number_at, word_at}
use Rattle.grammar.proofs.Here.{step_inside, class_inside}

-- What holds of both outcomes of a test holds of its choice.
pub either : {A : Type 0} (P : A → Type 0) (b : Bool) {x y : A} → (b ≡ true → P x) → (b ≡ false → P y) → P (cond b x y)
either P true f g = f refl
either P false f g = g refl

-- Where a part ends: past a position, and within n octets.
abbrev pub Ended : ℕ → ℕ → End → Type 0
Ended n at refused = Unit {0}
Ended n at (ended e) = (at < e) × (e ≤ n)

pub ended_wider : (n m at from : ℕ) (x : End) → n ≤ m → at ≤ from → Ended n from x → Ended m at x
ended_wider n m at from refused g h i = tt
ended_wider n m at from (ended e) g h i = (omega arith, omega arith)

pub and_then_lem : (n at : ℕ) (x : End) (f : ℕ → End) → Ended n at x → ((e : ℕ) → at < e → e ≤ n → Ended n at (f e)) →
    Ended n at (and_then x f)
and_then_lem n at refused f h g = tt
and_then_lem n at (ended e) f h g = g e h.0 h.1

-- Runs of octets

pub pass_in : (p : ℕ → Bool) (t : List ℕ) (at : ℕ) → (at ≤ pass_over p t at) × (pass_over p t at ≤ at + length t)
unfolding pass_over
pass_in p [] at = (omega arith, omega arith)
pass_in p (c ∷ t) at =
    let r = pass_in p t (at + 1) in
    either (λ e. (at ≤ e) × (e ≤ at + suc (length t))) (p c)
    (λ _. (omega arith, omega arith)) (λ _. (omega arith, omega arith))

pub scan_in : (x : Scan) (t : List ℕ) (at : ℕ) → Ended (at + length t) at (scan_string x t at)
unfolding scan_string
scan_in x [] at = tt
scan_in x (c ∷ t) at = cases (turn x c) (λ y. scan_in y t (at + 1))
  where
    cases : (u : Turn) → ((y : Scan) → Ended (at + 1 + length t) (at + 1) (scan_string y t (at + 1))) →
        Ended (at + suc (length t)) at
        (elim u as (λ _. End) [ broken ↦ refused | closed ↦ ended (at + 1) | go_on y ↦ scan_string y t (at + 1) ])
    cases broken f = tt
    cases closed f = (omega arith, omega arith)
    cases (go_on y) f =
        ended_wider (at + 1 + length t) (at + suc (length t)) at (at + 1) (scan_string y t (at + 1))
        (omega arith) (omega arith) (f y)

module _ (s : List ℕ) where
  pub step_on : (at : ℕ) → at ≤ step s at
  step_on at = either (λ e. at ≤ e) (ltb at (length s)) (λ _. omega arith) (λ _. omega arith)

  pub step_in : (at : ℕ) → at ≤ length s → step s at ≤ length s
  step_in at h =
      either (λ e. e ≤ length s) (ltb at (length s)) (λ t. omega (arith, ltb-true at (length s) t)) (λ _. h)

  pub skip_on : (p : ℕ → Bool) (at : ℕ) → at ≤ skip p s at
  unfolding skip
  skip_on p at = (pass_in p (drop at s) at).0

  pub skip_in : (p : ℕ → Bool) (at : ℕ) → at ≤ length s → skip p s at ≤ length s
  unfolding skip
  skip_in p at h = omega (arith, (pass_in p (drop at s) at).1, length-drop at s)

  -- Behind an octet of a class.
  module _ (p : ℕ → Bool) (never : p 256 ≡ false) (at : ℕ) (here : p (octet_at s at) ≡ true) where
    pub seen : at < length s
    seen = class_inside p s at never here

    pub behind : step s at ≡ suc at
    behind = omega (arith, step_inside s at seen)

  -- Strings: two quotation marks.
  pub string_in : (at : ℕ) → Ended (length s) (at + 1) (string_at s at)
  unfolding string_at
  string_in at =
      either (Ended (length s) (at + 1)) (eqb (octet_at s at) quote)
      (λ h.
      let i = seen (λ c. eqb c quote) refl at h in
      let e = behind (λ c. eqb c quote) refl at h in
      let q = step s at in
      ended_wider (q + length (drop q s)) (length s) (at + 1) q (scan_string (between false) (drop q s) q)
      (omega (arith, e, length-drop q s)) (omega (arith, e)) (scan_in (between false) (drop q s) q))
      (λ _. tt)

  -- Numbers

  pub digits_in : (p : ℕ → Bool) → p 256 ≡ false → (at : ℕ) → Ended (length s) at (digits_at p s at)
  unfolding digits_at
  digits_in p never at =
      either (Ended (length s) at) (p (octet_at s at))
      (λ h.
      let i = seen p never at h in
      let e = behind p never at h in
      let q = step s at in
      (omega (arith, e, skip_on is_digit q), skip_in is_digit q (omega (arith, e))))
      (λ _. tt)

  pub int_in : (at : ℕ) → Ended (length s) at (int_at s at)
  unfolding int_at
  int_in at =
      either (Ended (length s) at) (eqb (octet_at s at) digit_zero)
      (λ h.
      let i = seen (λ c. eqb c digit_zero) refl at h in
      let e = behind (λ c. eqb c digit_zero) refl at h in
      (omega (arith, e), omega (arith, e)))
      (λ _. digits_in is_nonzero refl at)

  pub perhaps_on : (p : ℕ → Bool) (at : ℕ) → at ≤ perhaps_at p s at
  unfolding perhaps_at
  perhaps_on p at = either (λ e. at ≤ e) (p (octet_at s at)) (λ _. step_on at) (λ _. omega arith)

  pub fraction_in : (at e : ℕ) → at < e → e ≤ length s → Ended (length s) at (fraction_at s e)
  unfolding fraction_at
  fraction_in at e h i =
      either (Ended (length s) at) (is_point (octet_at s e))
      (λ _. ended_wider (length s) (length s) at (step s e) (digits_at is_digit s (step s e)) (omega arith)
      (omega (arith, step_on e)) (digits_in is_digit refl (step s e)))
      (λ _. (h, i))

  pub exponent_in : (at e : ℕ) → at < e → e ≤ length s → Ended (length s) at (exponent_at s e)
  unfolding exponent_at
  exponent_in at e h i =
      either (Ended (length s) at) (is_e (octet_at s e))
      (λ _.
      let q = perhaps_at is_plus_minus s (step s e) in
      ended_wider (length s) (length s) at q (digits_at is_digit s q) (omega arith)
      (omega (arith, step_on e, perhaps_on is_plus_minus (step s e))) (digits_in is_digit refl q))
      (λ _. (h, i))

  pub number_in_lem : (at : ℕ) → Ended (length s) at (number_at s at)
  unfolding number_at
  number_in_lem at =
      let q = perhaps_at is_minus s at in
      and_then_lem (length s) at (int_at s q) (λ e. and_then (fraction_at s e) (λ f. exponent_at s f))
      (ended_wider (length s) (length s) at q (int_at s q) (omega arith) (perhaps_on is_minus at) (int_in q))
      (λ e h i.
      and_then_lem (length s) at (fraction_at s e) (λ f. exponent_at s f) (fraction_in at e h i) (λ f. exponent_in at f))

  -- Words

  pub word_in : (w : List ℕ) (at q : ℕ) → at < q → q ≤ length s → Ended (length s) at (word_at w s q)
  unfolding word_at
  word_in [] at q h i = (h, i)
  word_in (c ∷ w) at q h i =
      let r = word_in w at (step s q) (omega (arith, step_on q)) (step_in q i) in
      either (Ended (length s) at) (eqb (octet_at s q) c) (λ _. r) (λ _. tt)

  pub letters_in : (c : ℕ) (w : List ℕ) (at : ℕ) → at < length s → Ended (length s) at (word_at (c ∷ w) s at)
  unfolding word_at
  letters_in c w at h =
      let e = step_inside s at h in
      either (Ended (length s) at) (eqb (octet_at s at) c)
      (λ _. word_in w at (step s at) (omega (arith, e)) (omega (arith, e))) (λ _. tt)
