-- `spread` gives each six bits an octet: by lanes of thirty-two and of sixteen bits (`Spreading`).
use native.Mathlib.Omega.{arith}
use Rattle.base64url.proofs.Spreading.{z_in, y_in, y_in_below, x_in_below, spreads}
use borrow.Author.Rules.{rules}
use Rattle.base64url.proofs.encoding.spread.Goals as goal

pub overflow_mul-y : goal.overflow_mul-y
overflow_mul-y c = omega (arith, y_in_below (z_in c.args.w))

pub overflow_add-y : goal.overflow_add-y
overflow_add-y c = omega (arith, y_in_below (z_in c.args.w))

pub overflow_mul-result : goal.overflow_mul-result
overflow_mul-result c = omega (arith, x_in_below (y_in (z_in c.args.w)))

pub overflow_add-result : goal.overflow_add-result
overflow_add-result c = omega (arith, x_in_below (y_in (z_in c.args.w)))

pub returns : goal.returns
returns c = spreads c.args.w (search rules)
