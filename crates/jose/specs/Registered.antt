-- The registered names by their numbers, and the kinds that the rules ask for.
use Rattle.std.specs.Prelude.{◌&&◌, ◌||◌, cond, ℕ, eqb, leb}
unfoldable pub use Rattle.names.specs.Registered.{registered}

-- The numbers of those that the rules name, counted from 1; zip is the compression parameter of section 4.1.3.
abbrev pub alg : ℕ
alg = 1

abbrev pub enc : ℕ
enc = 2

abbrev pub zip : ℕ
zip = 3

abbrev pub jwk : ℕ
jwk = 5

abbrev pub x5c : ℕ
x5c = 8

abbrev pub crit : ℕ
crit = 13

-- Kinds (document 01, 'What the reader hands out') that the rules ask for; 7 stands for any kind.
abbrev pub object : ℕ
object = 0

abbrev pub array : ℕ
array = 1

abbrev pub string : ℕ
string = 2

abbrev pub any_kind : ℕ
any_kind = 7

-- The kind that the n-th registered name asks for: jwk an object, x5c and crit arrays, the others of the first thirteen
-- strings. No other name asks for one.
unfoldable pub kind_asked : ℕ → ℕ
kind_asked n =
    cond (eqb n jwk) object
    (cond (eqb n x5c || eqb n crit) array
    (cond (leb 1 n && leb n 12) string any_kind))
