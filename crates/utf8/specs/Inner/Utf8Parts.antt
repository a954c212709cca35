-- UTF-8 as the code reads it: what is left to test after characters.
use Rattle.std.specs.Prelude.{ℕ, ◌≤◌, ◌<◌, Bool, false, List, length, drop, get_or, Option, None, Some}
use Rattle.grammar.specs.Utf8.{utf8}

-- Characters up to a position: whether octets are well-formed from there on; and that it is at or after `to`.

abbrev pub onward : List ℕ → Option ℕ → Bool
onward s (Some at) = utf8 (drop at s)
onward s None = false

abbrev pub Reaches : ℕ → List ℕ → Option ℕ → Type 0
Reaches to s (Some at) = (to ≤ at) × (at ≤ length s)
Reaches to s None = Unit {0}

-- Every octet of a block is a character by itself.
abbrev pub Low : List ℕ → Type 0
Low block = (k : ℕ) → k < length block → get_or block k 0 < 128
