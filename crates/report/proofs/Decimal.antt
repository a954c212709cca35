-- Decimal digits. Those of a number from ten on are those of its tenth and the last one; so they read back as the number,
-- the first is no zero, and there are as many as the powers of ten below it say. By induction on the divisions.
use mathlib.Core.Path.{◌≡◌, refl, ap, sym, ◌∙◌}
use mathlib.Core.Bool.{Bool, true, false, cond}
use mathlib.Core.List.{List, [], ◌∷◌, ◌++◌}
use Prim.Native.Nat.{ℕ, zero, suc, ◌+◌, ◌-◌, ◌*◌, ◌/◌, ◌%◌, ◌≤◌, ◌<◌}
use native.Mathlib.Omega.{arith}
use lib.ListN.{length, get_or, length-append}
use lib.Dec.{ltb}
use borrow.Author.Tests.{lt-ltb, le-ltb, ltb-true, ltb-false}
use Rattle.report.specs.Text.{digit, digits, decimal}
use Rattle.prelude.specs.Limits.{number_limit}

-- A number is below ten, or it is not.
by_size : {P : Type 0} (n : ℕ) → (n < 10 → P) → (10 ≤ n → P) → P
by_size {P} n one more = cases (ltb n 10) refl
  where
    cases : (b : Bool) → ltb n 10 ≡ b → P
    cases true e = one (ltb-true n 10 e)
    cases false e = more (ltb-false n 10 e)

-- Where a division is left, the digits by the number's tenth.

divided_one : (k n : ℕ) → n < 10 → digits (suc k) n ≡ digit n ∷ []
unfolding digits
divided_one k n h =
    ap (λ (b : Bool). cond b (digit n ∷ []) (digits k (n / 10) ++ (digit (n % 10) ∷ []))) (lt-ltb n 10 h)

divided_more : (k n : ℕ) → 10 ≤ n → digits (suc k) n ≡ digits k (n / 10) ++ (digit (n % 10) ∷ [])
unfolding digits
divided_more k n h =
    ap (λ (b : Bool). cond b (digit n ∷ []) (digits k (n / 10) ++ (digit (n % 10) ∷ []))) (le-ltb n 10 h)

-- More divisions than enough change nothing.
enough : (k j n : ℕ) → n ≤ k → n ≤ j → digits k n ≡ digits j n
unfolding digits
enough zero zero n h l = refl
enough zero (suc j) n h l = sym (divided_one j n (omega arith))
enough (suc k) zero n h l = divided_one k n (omega arith)
enough (suc k) (suc j) n h l =
    by_size n (λ one. divided_one k n one ∙ sym (divided_one j n one))
    (λ more.
    divided_more k n more
    ∙ ap (λ (ds : List ℕ). ds ++ (digit (n % 10) ∷ [])) (enough k j (n / 10) (omega arith) (omega arith))
    ∙ sym (divided_more j n more))

-- The digits, by the number's tenth

pub decimal_one : (n : ℕ) → n < 10 → decimal n ≡ digit n ∷ []
unfolding decimal digits
decimal_one zero h = refl
decimal_one (suc m) h = divided_one m (suc m) h

pub decimal_more : (n : ℕ) → 10 ≤ n → decimal n ≡ decimal (n / 10) ++ (digit (n % 10) ∷ [])
unfolding decimal
decimal_more zero h = absurd (omega arith)
decimal_more (suc m) h =
    divided_more m (suc m) h
    ∙ ap (λ (ds : List ℕ). ds ++ (digit (suc m % 10) ∷ []))
    (enough m (suc m / 10) (suc m / 10) (omega arith) (omega arith))

-- What holds of the numbers below ten, and of a number where it holds of its tenth, holds of every number.
module _ (P : ℕ → Type 0) (one : (n : ℕ) → n < 10 → P n) (more : (n : ℕ) → 10 ≤ n → P (n / 10) → P n) where
  within : (k n : ℕ) → n ≤ k → P n
  within zero n h = one n (omega arith)
  within (suc k) n h = by_size n (one n) (λ ten. more n ten (within k (n / 10) (omega arith)))

  by_tenths : (n : ℕ) → P n
  by_tenths n = within n n (omega arith)

-- The number that decimal digits are read as, behind a number.
abbrev pub read_from : ℕ → List ℕ → ℕ
read_from n [] = n
read_from n (d ∷ ds) = read_from (n * 10 + (d - 48)) ds

read_last : (n : ℕ) (ds : List ℕ) (d : ℕ) → read_from n (ds ++ (d ∷ [])) ≡ read_from n ds * 10 + (d - 48)
read_last n [] d = refl
read_last n (e ∷ ds) d = read_last (n * 10 + (e - 48)) ds d

-- The digits of a number read back as the number ..
pub decimal_reads : (n : ℕ) → read_from 0 (decimal n) ≡ n
decimal_reads =
    by_tenths (λ n. read_from 0 (decimal n) ≡ n)
    (λ n h. ap (read_from 0) (decimal_one n h) ∙ omega arith)
    (λ n h e.
    ap (read_from 0) (decimal_more n h) ∙ read_last 0 (decimal (n / 10)) (digit (n % 10))
    ∙ omega (arith, e))

some_digit : (n : ℕ) → 1 ≤ length (decimal n)
some_digit =
    by_tenths (λ n. 1 ≤ length (decimal n)) (λ n h. omega (arith, ap length (decimal_one n h)))
    (λ n h e. omega (arith, ap length (decimal_more n h), length-append (decimal (n / 10)) (digit (n % 10) ∷ [])))

first_kept : (ds : List ℕ) (d : ℕ) → 1 ≤ length ds → get_or (ds ++ (d ∷ [])) 0 0 ≡ get_or ds 0 0
first_kept [] d h = absurd (omega arith)
first_kept (e ∷ ds) d h = refl

-- .. and the first is no zero, but that of 0.
pub decimal_leads : (n : ℕ) → 1 ≤ n → 49 ≤ get_or (decimal n) 0 0
decimal_leads =
    by_tenths (λ n. 1 ≤ n → 49 ≤ get_or (decimal n) 0 0)
    (λ n h l. omega (arith, ap (λ (ds : List ℕ). get_or ds 0 0) (decimal_one n h)))
    (λ n h e l.
    omega (
      arith,
      e (omega arith),
      ap (λ (ds : List ℕ). get_or ds 0 0) (decimal_more n h),
      first_kept (decimal (n / 10)) (digit (n % 10)) (some_digit (n / 10)),
    ))

-- A one and so many zeros, with one more behind.
abbrev tens : ℕ → ℕ
tens zero = 10
tens (suc k) = tens k * 10

short : (k n : ℕ) → n < tens k → length (decimal n) ≤ suc k
short zero n h = omega (arith, ap length (decimal_one n h))
short (suc k) n h =
    by_size n (λ one. omega (arith, ap length (decimal_one n one)))
    (λ ten.
    omega (
      arith,
      short k (n / 10) (omega arith),
      ap length (decimal_more n ten),
      length-append (decimal (n / 10)) (digit (n % 10) ∷ []),
    ))

-- A number that 32 bits hold has at most ten digits.
pub decimal_short : (n : ℕ) → n < number_limit → length (decimal n) ≤ 10
decimal_short n h = short 9 n (omega arith)
