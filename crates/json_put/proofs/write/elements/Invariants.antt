-- `elements` writes one element behind the other; those that are left make up all.
use Rattle.std.proofs.Common.{[], ◌∷◌, map}
use Rattle.recipients.specs.Parsed.{recipients_in}
use Rattle.recipients.specs.Inner.Answers.{bodies_left}
use Rattle.json_message.specs.JsonText.{element_text}
use Rattle.json_put.specs.Inner.Members.{point, Room, Puts}
use Rattle.json_put.proofs.Putting.{Putting}
use Rattle.json_put.proofs.Members.{texts_of}
use Rattle.json_put.proofs.write.elements.Given as goal

abbrev pub invariant-loop-body : goal.invariant-loop-body
invariant-loop-body g l =
    Putting (Room g.S.Sink.fits) (Puts g.S.Sink.gains) (point l.initial.to l.initial.next) (map element_text (recipients_in l.message.recipients.now))
    (texts_of l.message.recipients.now (bodies_left l.body-iterator.table.now l.body-iterator.i) ∷ []) (point l.to l.next)
