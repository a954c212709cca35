-- The step from a character to its six bits, in the two ways that the code has: by a table, and by a sum.
use Rattle.std.specs.Prelude.{ℕ, ◌+◌, ◌%◌, ◌<◌, ◌≡◌, cond, List, get_or, eqb, ltb}
use Rattle.base64url.specs.Base64url.{six_bits}

-- a table of the six bits of each octet
pub record Tabled (table : List ℕ) : Type 0 where
  pub right : (k : ℕ) → k < 256 → get_or table k 0 ≡ six_bits k

-- a number that is a character's value modulo 64, where the alphabet has the character
unfoldable pub near : ℕ → ℕ
near c =
    c % 128 + cond (ltb (c % 128) 65) 5 0 + cond (ltb (c % 128) 97) 6 0 + cond (eqb (c % 128) 95) 33 0
    + cond (eqb (c % 128) 45) 13 0 + 57
