-- `put_number` writes the digits, and stores the octet behind them.
use mathlib.Core.Path.{refl}
use native.Mathlib.Omega.{arith}
use Rattle.prelude.proofs.Writing.{ended}
use Rattle.report.specs.Text.{decimal}
use Rattle.report.proofs.Behind.{text_fits, end_fits, behind_end}
use Rattle.report.proofs.words.put_number.Goals as goal

pub put_digits-last-requires : goal.put_digits-last-requires
put_digits-last-requires c =
    text_fits _ (decimal c.args.n) c.args.end refl c.args.at c.args.out.now c.requires

pub bounds-out-last : goal.bounds-out-last
bounds-out-last c =
    omega (
      arith,
      end_fits _ (decimal c.args.n) c.args.end refl c.args.at c.args.out.now
          c.requires c.put_digits-last.ensures.value c.put_digits-last.ensures.out_after,
    )

pub overflow_add-result : goal.overflow_add-result
overflow_add-result c =
    omega (
      arith,
      end_fits _ (decimal c.args.n) c.args.end refl c.args.at c.args.out.now
          c.requires c.put_digits-last.ensures.value c.put_digits-last.ensures.out_after,
    )

pub returns : goal.returns
returns c =
    let both = ended (behind_end _ (decimal c.args.n) c.args.end refl c.args.at c.args.out.now
    c.requires c.put_digits-last.ensures.value c.put_digits-last.ensures.out_after) in
    record { value = both.0; out_after = both.1 }
