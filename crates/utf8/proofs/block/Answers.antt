-- A block of octets below 128 is passed over; any other is walked.
use Rattle.utf8.proofs.Utf8Parts.{low_part}
use Rattle.utf8.proofs.block.Goals as goal

pub returns-then-highest-lt128-clause-result_value : goal.returns-then-highest-lt128-clause-result_value
returns-then-highest-lt128-clause-result_value c =
    low_part c.args.s.now c.args.at 64 c.requires (c.highest.ensures c.if-highest-lt128.true)
