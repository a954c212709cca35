-- The digits of a number from ten on are those of its tenth, which the call writes, and the last one behind them.
use mathlib.Core.Path.{ap}
use mathlib.Core.List.{List, [], ◌∷◌}
use mathlib.Core.Path.{refl}
use Prim.Native.Nat.{ℕ, ◌+◌, ◌≤◌, ◌/◌, ◌%◌, ◌<◌}
use native.Mathlib.Omega.{arith}
use lib.ListN.{length, set, length-append}
use Rattle.prelude.proofs.Writing.{Writing, begin_as, put, ended}
use Rattle.report.specs.Text.{digit, decimal}
use Rattle.report.proofs.Decimal.{decimal_one, decimal_more}
use Rattle.report.proofs.Behind.{text_fits, end_fits, behind_end}
use Rattle.report.proofs.words.+put_digits.Goals as goal

-- a number below ten is one digit
one_digit : (n at : ℕ) (out : List ℕ) → n < 10 → at + length (decimal n) ≤ length out →
    Writing at (decimal n) out [] (at + 1) (set out at (digit n))
one_digit n at out h room =
    put (digit n) (at + 1) refl (begin_as at (decimal n) (digit n ∷ []) out (decimal_one n h) room)

pub bounds-out-at : goal.bounds-out-at
bounds-out-at t c = omega (arith, c.requires, ap length (decimal_one c.args.n c.if-n-lt10.true))

pub returns-then-n-lt10-clause-value : goal.returns-then-n-lt10-clause-value
returns-then-n-lt10-clause-value t c =
    (ended (one_digit c.args.n c.args.at c.args.out.now c.if-n-lt10.true c.requires)).0

pub returns-then-n-lt10-clause-out_after : goal.returns-then-n-lt10-clause-out_after
returns-then-n-lt10-clause-out_after t c =
    (ended (one_digit c.args.n c.args.at c.args.out.now c.if-n-lt10.true c.requires)).1

pub put_digits-last-requires : goal.put_digits-last-requires
put_digits-last-requires t c =
    let n = c.args.n in (
      omega (arith, c.decreases, c.if-n-lt10.false),
      text_fits (decimal n) (decimal (n / 10)) (digit (n % 10)) (decimal_more n c.if-n-lt10.false) c.args.at
          c.args.out.now c.requires,
    )

pub bounds-out-last : goal.bounds-out-last
bounds-out-last t c =
    let n = c.args.n in
    let call = c.put_digits-last in
    omega (
      arith,
      end_fits (decimal n) (decimal (n / 10)) (digit (n % 10)) (decimal_more n c.if-n-lt10.false) c.args.at
          c.args.out.now c.requires call.ensures.value call.ensures.out_after,
    )

pub overflow_add-result-2 : goal.overflow_add-result-2
overflow_add-result-2 t c =
    omega (
      arith,
      c.put_digits-last.ensures.value,
      c.requires,
      ap length (decimal_more c.args.n c.if-n-lt10.false),
      length-append (decimal (c.args.n / 10)) (digit (c.args.n % 10) ∷ []),
    )

pub returns-clause-value : goal.returns-clause-value
returns-clause-value t c =
    let n = c.args.n in
    let call = c.put_digits-last in
    (ended (behind_end (decimal n) (decimal (n / 10)) (digit (n % 10)) (decimal_more n c.if-n-lt10.false) c.args.at
    c.args.out.now c.requires call.ensures.value call.ensures.out_after)).0

pub returns-clause-out_after : goal.returns-clause-out_after
returns-clause-out_after t c =
    let n = c.args.n in
    let call = c.put_digits-last in
    (ended (behind_end (decimal n) (decimal (n / 10)) (digit (n % 10)) (decimal_more n c.if-n-lt10.false) c.args.at
    c.args.out.now c.requires call.ensures.value call.ensures.out_after)).1
