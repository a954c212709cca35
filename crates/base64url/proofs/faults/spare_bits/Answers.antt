-- `spare_bits` finds the spare bits: by the length's remainder, and a value that is right modulo 64 has them.
use Prim.Native.Nat.{ℕ, ◌-◌}
use native.Mathlib.Omega.{arith}
use lib.ListN.{length, get_or}
use borrow.Author.Tests.{eq-eqb, ne_eqb}
use Rattle.base64url.specs.Fault.{spare_bits}
use Rattle.base64url.proofs.Alphabet.{value_near}
use Rattle.base64url.proofs.Groups.{value_below}
use Rattle.base64url.proofs.faults.spare_bits.Goals as goal

pub returns-then-n-eq2 : goal.returns-then-n-eq2
unfolding spare_bits
returns-then-n-eq2 c =
    let text = c.args.text.now in
    let last : ℕ = get_or text (length text - 1) 0 in
    let right =
    value_near last (omega (arith, c.type_inv.text (length text - 1)))
    (value_below text c.requires (length text - 1) (omega arith)) in
    simp (eq-eqb _ _ c.if-n-eq2.true) (omega (arith, right, c.value.ensures))

pub returns-then-n-eq3 : goal.returns-then-n-eq3
unfolding spare_bits
returns-then-n-eq3 c =
    let text = c.args.text.now in
    let last : ℕ = get_or text (length text - 1) 0 in
    let right =
    value_near last (omega (arith, c.type_inv.text (length text - 1)))
    (value_below text c.requires (length text - 1) (omega arith)) in
    simp (ne_eqb _ _ c.if-n-eq2.false, eq-eqb _ _ c.if-n-eq3.true)
    (omega (arith, right, c.value-then-n-eq3.ensures))

pub returns : goal.returns
unfolding spare_bits
returns c = simp (ne_eqb _ _ c.if-n-eq2.false, ne_eqb _ _ c.if-n-eq3.false)
