-- Those before have a member; the first without one is found.
use Rattle.std.proofs.Common.{◌≡◌, Bool, map}
use Rattle.prelude.specs.Any.{any}
use Rattle.recipients.specs.Table.{RawRecipient}
use Rattle.recipients.specs.Parsed.{recipients_in}
use Rattle.recipients.specs.Inner.Answers.{shown, bodies_left}
use Rattle.json_message.specs.Inner.PiecesOrder.{hollow_text}
use Rattle.json_judge.specs.Inner.Asked.{OwnReadable}
use Rattle.json_judge.proofs.own_hollow.Given as goal

abbrev pub faulty : RawRecipient → Bool
faulty r = hollow_text r.header

abbrev pub invariant-loop-body : goal.invariant-loop-body
invariant-loop-body l =
    let left = map (shown l.recipients) (bodies_left l.body-iterator.table.now l.body-iterator.i) in
    record {
      same : any faulty left ≡ any faulty (recipients_in l.recipients);
      readable : OwnReadable left;
    }
