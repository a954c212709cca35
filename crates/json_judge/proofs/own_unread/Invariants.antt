-- Those before have a reading; the first without one is found.
use Rattle.std.proofs.Common.{◌≡◌, Bool, ℕ, map}
use Rattle.prelude.specs.Any.{any}
use Rattle.recipients.specs.Table.{RawRecipient}
use Rattle.recipients.specs.Parsed.{recipients_in}
use Rattle.recipients.specs.Inner.Answers.{shown, bodies_left}
use Rattle.json_message.specs.WriteOrder.{unread_within}
use Rattle.json_judge.proofs.own_unread.Given as goal

abbrev pub faulty : ℕ → RawRecipient → Bool
faulty l r = unread_within l r.header

abbrev pub invariant-loop-body : goal.invariant-loop-body
invariant-loop-body l =
    any (faulty l.levels) (map (shown l.recipients) (bodies_left l.body-iterator.table.now l.body-iterator.i))
    ≡ any (faulty l.levels) (recipients_in l.recipients)
