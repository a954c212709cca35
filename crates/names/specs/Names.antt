-- Lists of names, contents first: one octet n, n length octets, then the names one after another. The caller's list of
-- extension names has this form (document 01, 'Sizes'), and so have our own tables of names.
use mathlib.Core.List.{List, [], ◌∷◌, ◌++◌, map, flatten}
use Rattle.std.specs.Prelude.{Bool, true, false, ◌&&◌, cond, ℕ, zero, suc, ◌+◌, ◌≤◌, length, take, drop, eqb, leb}
use Rattle.grammar.specs.Spellings.{has}

-- The list of some names.
unfoldable pub list_of : List (List ℕ) → List ℕ
list_of ns = length ns ∷ (map length ns ++ flatten ns)

-- And back: what stands behind the length octets, cut into parts of these lengths ..
unfoldable pub cut : List ℕ → List ℕ → List (List ℕ)
cut [] s = []
cut (k ∷ ks) s = take k s ∷ cut ks (drop k s)

-- .. is the names of the list.
unfoldable pub names : List ℕ → List (List ℕ)
names [] = []
names (n ∷ rest) = cut (take n rest) (drop n rest)

-- How many octets names of these lengths have.
unfoldable pub total : List ℕ → ℕ
total [] = 0
total (k ∷ ks) = k + total ks

-- Whether octets are a list of names: the length octets are there, and the names fill the rest exactly.
unfoldable pub filled : List ℕ → Bool
filled [] = false
filled (n ∷ rest) = leb n (length rest) && eqb (total (take n rest)) (length (drop n rest))

-- Whether each length is 1 to 64.
unfoldable pub limited : List ℕ → Bool
limited [] = true
limited (k ∷ ks) = leb 1 k && (leb k 64 && limited ks)

-- Whether they are a list that the caller may lend: at most 16 names, each of 1 to 64 octets.
unfoldable pub sound : List ℕ → Bool
sound [] = false
sound (n ∷ rest) = leb n 16 && (limited (take n rest) && filled (n ∷ rest))

-- Each of some names has 1 to 64 octets.
abbrev pub Limited : List (List ℕ) → Type 0
Limited [] = Unit {0}
Limited (w ∷ ws) = ((1 ≤ length w) × (length w ≤ 64)) × Limited ws

-- A number among the names from the second on, as one among all.
abbrev pub up : ℕ → ℕ
up zero = 0
up (suc n) = suc (suc n)

-- The number of the first of the names that a spelling has, counted from 1; 0 where it has none.
unfoldable pub number_in : List (List ℕ) → List ℕ → ℕ
number_in [] v = 0
number_in (w ∷ ws) v = let r = up (number_in ws v) in cond (has v w) 1 r

-- Whether one of the names passes a test.
unfoldable pub any : (List ℕ → Bool) → List (List ℕ) → Bool
any test [] = false
any test (w ∷ ws) = let r = any test ws in cond (test w) true r
