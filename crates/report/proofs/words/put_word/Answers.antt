-- `put_word` copies the word, and stores the octet behind it.
use mathlib.Core.Path.{refl}
use native.Mathlib.Omega.{arith}
use Rattle.prelude.proofs.Writing.{ended}
use Rattle.report.proofs.Behind.{text_fits, end_fits, behind_end}
use Rattle.report.proofs.words.put_word.Goals as goal

pub copy_octets-requires : goal.copy_octets-requires
copy_octets-requires c =
    text_fits _ c.args.word.now c.args.end refl c.args.at c.args.out.now c.requires

pub bounds-out-last : goal.bounds-out-last
bounds-out-last c =
    omega (
      arith,
      end_fits _ c.args.word.now c.args.end refl c.args.at c.args.out.now
          c.requires refl c.copy_octets.ensures,
    )

pub returns : goal.returns
returns c =
    let both = ended (behind_end _ c.args.word.now c.args.end refl c.args.at c.args.out.now
    c.requires refl c.copy_octets.ensures) in
    record { value = both.0; out_after = both.1 }
