-- `join` keeps six bits of each octet: by lanes of sixteen and of thirty-two bits (`Words`).
use Prim.Native.Nat.{ℕ, ◌/◌, ◌%◌}
use native.Mathlib.Omega.{arith}
use Rattle.base64url.proofs.Joining.{y_of, z_of, y_of_below, z_of_below, halves_fit, joins}
use borrow.Author.Rules.{rules}
use Rattle.base64url.proofs.decoding.join.Goals as goal

pub overflow_mul-y : goal.overflow_mul-y
overflow_mul-y c = omega (arith, y_of_below c.args.x)

pub overflow_add-y : goal.overflow_add-y
overflow_add-y c = omega (arith, y_of_below c.args.x)

pub overflow_mul-z : goal.overflow_mul-z
overflow_mul-z c = omega (arith, z_of_below (y_of c.args.x))

pub overflow_add-z : goal.overflow_add-z
overflow_add-z c = omega (arith, z_of_below (y_of c.args.x))

pub overflow_mul-result-2 : goal.overflow_mul-result-2
overflow_mul-result-2 c = omega (arith, z_of_below (y_of c.args.x))

pub overflow_add-result : goal.overflow_add-result
overflow_add-result c =
    let z : ℕ = z_of (y_of c.args.x) in
    let small = z_of_below (y_of c.args.x) in
    record { fits = halves_fit (z % 16777216) (z / 4294967296) (omega arith) (omega (arith, small)) }

pub returns : goal.returns
returns c = joins c.args.x (search rules)
