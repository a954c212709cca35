-- One test over a table's 256 entries, and that a table which passes has the six bits of each octet.
use mathlib.Core.Bool.{Bool}
use mathlib.Core.List.{List}
use Prim.Native.Nat.{ℕ}
use lib.ListN.{get_or}
use lib.Dec.{T, eqb, eqb→eq}
use Rattle.prelude.proofs.Numbers.{every, below}
use Rattle.base64url.specs.Base64url.{six_bits}
use Rattle.base64url.specs.Inner.Step.{Tabled}

abbrev pub agrees : List ℕ → ℕ → Bool
agrees table k = eqb (get_or table k 0) (six_bits k)

pub tabled : (table : List ℕ) → T (every (agrees table) 256) → Tabled table
tabled table t = record { right = λ k h. eqb→eq (get_or table k 0) (six_bits k) (below (agrees table) 256 t k h) }
