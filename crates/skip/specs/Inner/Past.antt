-- Where an object or an array ends, told by its brackets alone: those in strings do not count, and a backslash in a
-- string takes the octet behind it along. Nothing else is looked at, so that the answer is an end only in a text that
-- reads: proofs/Law.antt says so.
use Rattle.std.specs.Prelude.{List, [], ◌∷◌, Bool, cond, ◌≡◌, ℕ, zero, suc, ◌+◌, drop, eqb}
use Rattle.grammar.specs.Grammar.{quote, backslash, among}

-- [ {
abbrev pub is_opening : ℕ → Bool
is_opening = among (91 ∷ 123 ∷ [])

-- ] }
abbrev pub is_closing : ℕ → Bool
is_closing = among (93 ∷ 125 ∷ [])

-- What is looked at, in strings or outside of them: " \ [ ] { }
abbrev pub is_mark : ℕ → Bool
is_mark = among (34 ∷ 92 ∷ 91 ∷ 93 ∷ 123 ∷ 125 ∷ [])

-- Where the search is: outside of strings, in one, or behind a backslash in one; so many brackets are open besides the
-- one whose partner is sought.
pub data State : Type 0 where
  outside inside escaped : ℕ → State

-- What an octet does: it is the partner, or the search goes on.
pub data Turn : Type 0 where
  partner : Turn
  go_on : State → Turn

-- A closing bracket.
abbrev pub closes : ℕ → Turn
closes zero = partner
closes (suc d) = go_on (outside d)

unfoldable pub turn : State → ℕ → Turn
turn (outside d) c =
    cond (eqb c quote) (go_on (inside d))
    (cond (is_opening c) (go_on (outside (suc d))) (cond (is_closing c) (closes d) (go_on (outside d))))
turn (inside d) c =
    cond (eqb c quote) (go_on (outside d)) (cond (eqb c backslash) (go_on (escaped d)) (go_on (inside d)))
turn (escaped d) c = go_on (inside d)

-- Behind the partner, t being what stands in the text from a position on; t's end where there is none.
unfoldable pub past_in : State → List ℕ → ℕ → ℕ
past_in x [] at = at
past_in x (c ∷ t) at = elim (turn x c) [ partner ↦ at + 1 | go_on y ↦ past_in y t (at + 1) ]

-- The same from a position of a text on.
abbrev pub past_from : State → List ℕ → ℕ → ℕ
past_from x s at = past_in x (drop at s) at

-- Behind the bracket that closes the object or array that was opened just before a position.
abbrev pub past_nested : List ℕ → ℕ → ℕ
past_nested = past_from (outside 0)

-- For the parts of the code

-- From two positions the search comes to the same end, in a string or outside.
pub record Alike (s : List ℕ) (at r : ℕ) : Type 0 where
  pub out : (d : ℕ) → past_from (outside d) s r ≡ past_from (outside d) s at
  pub within : (d : ℕ) → past_from (inside d) s r ≡ past_from (inside d) s at
