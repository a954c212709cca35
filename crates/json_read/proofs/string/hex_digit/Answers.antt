-- `hex_digit` goes by the three ranges of hexadecimal digits.
use Prim.Native.Nat.{◌-◌}
use mathlib.Core.Path.{◌≡◌, sym}
use native.Mathlib.Omega.{arith}
use borrow.Author.Tests.{le-leb, lt-leb}
use Rattle.grammar.specs.Strings.{hex_digit}
use Rattle.json_read.proofs.StringParts.{hex_small, hex_from, hex_lower}
use Rattle.json_read.proofs.string.hex_digit.Goals as goal

pub overflow_sub-result : goal.overflow_sub-result
overflow_sub-result c =
    let d = c.args.c in
    let hex = c.requires in
    omega (arith, hex_from d hex)

pub returns-then-c-le57 : goal.returns-then-c-le57
returns-then-c-le57 c =
    let d = c.args.c in
    let hex = c.requires in
    let e : d - 48 ≡ hex_digit d = sym (simp (le-leb d 57 c.if-c-le57.true)) in
    (e, omega (arith, e, hex_small d hex))

pub returns-then-c-le70 : goal.returns-then-c-le70
returns-then-c-le70 c =
    let d = c.args.c in
    let hex = c.requires in
    let e : d - 55 ≡ hex_digit d = sym (simp (lt-leb d 57 c.if-c-le57.false, le-leb d 70 c.if-c-le70.true)) in
    (e, omega (arith, e, hex_small d hex))

pub overflow_sub-result-2 : goal.overflow_sub-result-2
overflow_sub-result-2 c =
    let d = c.args.c in
    let hex = c.requires in
    omega (arith, hex_lower d hex c.if-c-le70.false)

pub returns : goal.returns
returns c =
    let d = c.args.c in
    let hex = c.requires in
    let e : d - 87 ≡ hex_digit d = sym (simp (lt-leb d 57 c.if-c-le57.false, lt-leb d 70 c.if-c-le70.false)) in
    (e, omega (arith, e, hex_small d hex))
