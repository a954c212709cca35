-- Text: numbers in decimal digits, words chosen by a number, and lines.
use Rattle.std.specs.Prelude.{List, [], ◌∷◌, ◌++◌, map, cond, ℕ, zero, suc, ◌+◌, ◌/◌, ◌%◌, ltb}
use Rattle.std.specs.Borrow.{Bor}

-- The octet of a digit: `0` is 48.
abbrev pub digit : ℕ → ℕ
digit d = 48 + d

-- A number's decimal digits, found in at most so many divisions by ten ..
unfoldable pub digits : ℕ → ℕ → List ℕ
digits zero n = digit n ∷ []
digits (suc k) n = cond (ltb n 10) (digit n ∷ []) (digits k (n / 10) ++ (digit (n % 10) ∷ []))

-- .. of which n are enough for n. That the digits read back as the number, and that none begins with a zero but the number
-- 0, stands in proofs/Decimal.
unfoldable pub decimal : ℕ → List ℕ
decimal n = digits n n

-- The n-th of some words, counted from 1; the first for 0, and the last where there are fewer.
unfoldable pub word : ℕ → List (List ℕ) → List ℕ
word n [] = []
word n (w ∷ []) = w
word zero (w ∷ v ∷ ws) = w
word (suc zero) (w ∷ v ∷ ws) = w
word (suc (suc n)) (w ∷ v ∷ ws) = word (suc n) (v ∷ ws)

-- What some texts say.
abbrev pub said : List (Bor (List ℕ)) → List (List ℕ)
said ts = map (λ t. t.now) ts

abbrev pub space : ℕ
space = 32

abbrev pub line_feed : ℕ
line_feed = 10

-- A word and the octet behind it.
abbrev pub ended : List ℕ → ℕ → List ℕ
ended w end = w ++ (end ∷ [])

-- A line of words: a space behind each but the last, a line feed behind that.
abbrev pub line : List (List ℕ) → List ℕ
line [] = []
line (w ∷ []) = ended w line_feed
line (w ∷ v ∷ ws) = ended w space ++ line (v ∷ ws)
