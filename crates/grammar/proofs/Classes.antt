-- Classes of octets as ranges: what a listed class says in comparisons, as the code tests it.
use mathlib.Core.Path.{◌≡◌, refl, sym, ap, ap₂, ◌∙◌}
use mathlib.Core.List.{List, [], ◌∷◌, ◌++◌}
use mathlib.Core.Bool.{Bool, true, false, ◌&&◌, ◌||◌, or_assoc}
use Prim.Native.Nat.{ℕ, zero, suc, ◌+◌, ◌≤◌, ◌<◌}
use native.Mathlib.Omega.{arith}
use lib.Dec.{eqb, leb}
use borrow.Author.Tests.{eq-eqb, ne_eqb}
use Rattle.grammar.specs.Grammar.{quote, backslash, among, is_digit, is_nonzero, is_hex, is_unescaped}
use Rattle.grammar.proofs.Points.{leb_true, leb_false}
use Rattle.grammar.proofs.Encoded.{split}

-- The numbers from l on, n of them.
abbrev from : ℕ → ℕ → List ℕ
from l zero = []
from l (suc n) = l ∷ from (suc l) n

-- Whether a number is from l to h.
abbrev pub between : ℕ → ℕ → ℕ → Bool
between l h c = leb l c && leb c h

among_none : (n l c : ℕ) → c < l → among (from l n) c ≡ false
among_none zero l c h = refl
among_none (suc n) l c h =
    rw (ne_eqb c l (λ e. omega arith)) (among_none n (suc l) c (omega arith))

among_yes : (n l c : ℕ) → l ≤ c → c < l + n → among (from l n) c ≡ true
among_yes zero l c a b = absurd (omega arith)
among_yes (suc n) l c a b =
    split (suc l) c
    (λ x. rw (ne_eqb c l (λ e. omega arith)) (among_yes n (suc l) c x (omega arith)))
    (λ x. rw (eq-eqb c l (omega arith)))

among_no : (n l c : ℕ) → l + n ≤ c → among (from l n) c ≡ false
among_no zero l c h = refl
among_no (suc n) l c h = rw (ne_eqb c l (λ e. omega arith)) (among_no n (suc l) c (omega arith))

-- A list of numbers in a row is a range.
among_range : (n l c : ℕ) → among (from l (suc n)) c ≡ between l (l + n) c
among_range n l c =
    split l c
    (λ x. split c (l + n)
    (λ y. among_yes (suc n) l c x (omega arith) ∙ sym (rw (leb_true l c x, leb_true c (l + n) y)))
    (λ y. among_no (suc n) l c (omega arith) ∙ sym (rw (leb_true l c x, leb_false c (l + n) y))))
    (λ x. among_none (suc n) l c x ∙ sym (rw (leb_false l c x)))

-- 0 to 9
pub digit_range : (c : ℕ) → is_digit c ≡ between 48 57 c
digit_range c = among_range 9 48 c

-- 1 to 9
pub nonzero_range : (c : ℕ) → is_nonzero c ≡ between 49 57 c
nonzero_range c = among_range 8 49 c

among_append : (xs ys : List ℕ) (c : ℕ) → among (xs ++ ys) c ≡ (among xs c || among ys c)
among_append [] ys c = refl
among_append (x ∷ xs) ys c =
    ap (λ z. eqb c x || z) (among_append xs ys c) ∙ sym (or_assoc (eqb c x) (among xs c) (among ys c))

-- 0 to 9, A to F, a to f
pub hex_range : (c : ℕ) → is_hex c ≡ (between 48 57 c || (between 65 70 c || between 97 102 c))
hex_range c =
    ap₂ (λ x y. x || y) (digit_range c)
    (among_append (from 65 6) (from 97 6) c ∙ ap₂ (λ x y. x || y) (among_range 5 65 c) (among_range 5 97 c))

-- Unescaped octets

pub unescaped_low : (c : ℕ) → c < 32 → is_unescaped c ≡ false
unescaped_low c h = rw (leb_false 32 c h)

pub unescaped_quote : (c : ℕ) → c ≡ quote → is_unescaped c ≡ false
unescaped_quote c e = ap is_unescaped e

pub unescaped_backslash : (c : ℕ) → c ≡ backslash → is_unescaped c ≡ false
unescaped_backslash c e = ap is_unescaped e

pub unescaped_yes : (c : ℕ) → 32 ≤ c → c ≤ 255 → (c ≡ quote → ⊥) → (c ≡ backslash → ⊥) → is_unescaped c ≡ true
unescaped_yes c l h q b = rw (leb_true 32 c l, leb_true c 255 h, ne_eqb c quote q, ne_eqb c backslash b)
