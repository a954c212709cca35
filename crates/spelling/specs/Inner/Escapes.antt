-- What the code reads of a spelling, for what a spelling adds.
use Rattle.std.specs.Prelude.{cond, ◌≡◌, List, [], ◌∷◌, ℕ, zero, suc, ◌/◌, ◌≤◌, ◌<◌, length, drop, get_or, Option, None, Some}
use Rattle.std.proofs.Math.Option as maybe
use Rattle.grammar.specs.Strings.{is_high}
use Rattle.grammar.specs.Utf8.{six_bits}
use Rattle.grammar.specs.Spellings.{between, undo_from}

-- A first half that stands before.

abbrev pub half_of : Option ℕ → maybe.Option ℕ
half_of None = maybe.none
half_of (Some h) = maybe.some h

-- The same as a number; 0 where there is none.
abbrev pub half_value : Option ℕ → ℕ
half_value None = 0
half_value (Some h) = h

-- The first half that four digits say, if they say one.
abbrev pub waiting : ℕ → Option ℕ
waiting u = cond (is_high u) (Some u) None

-- The last k octets of a code point n, at most three.
abbrev pub last_octets : ℕ → ℕ → List ℕ
last_octets zero n = []
last_octets (suc zero) n = six_bits n ∷ []
last_octets (suc (suc zero)) n = six_bits (n / 64) ∷ six_bits n ∷ []
last_octets (suc (suc (suc k))) n = six_bits (n / 4096) ∷ six_bits (n / 64) ∷ six_bits n ∷ []

-- The octets that a spelling adds from a position between characters on.
abbrev pub undo_at : List ℕ → Option ℕ → ℕ → List ℕ
undo_at s half at = undo_from (between (half_of half)) (drop at s)

-- The first r octets of two spellings are the same, none of them a backslash.
abbrev pub Common : List ℕ → List ℕ → ℕ → Type 0
Common v w r =
    (r ≤ length v)
    × ((r ≤ length w)
    × ((i : ℕ) → i < r → (get_or v i 0 ≡ get_or w i 0) × (get_or v i 0 ≡ 92 → ⊥)))
