-- `general` writes the name, and the elements between brackets.
use Rattle.std.proofs.Common.{refl}
use Rattle.prelude.specs.Ascii.{ascii}
use Rattle.recipients.specs.Parsed.{recipients_in}
use Rattle.json_message.specs.JsonText.{recipient_members}
use Rattle.json_put.specs.Inner.Members.{point}
use Rattle.json_put.proofs.Putting.{next, ◌▸◌, ended}
use Rattle.json_put.proofs.Parts.{general_parts}
use Rattle.json_put.proofs.write.general.Goals as goal

pub member_name-requires : goal.member_name-requires
unfolding ascii
member_name-requires g c =
    next (general_parts g.S.Sink.laws (point c.args.to.now c.args.begun) (recipients_in c.args.message.now.recipients.now) c.requires)

pub octets-requires : goal.octets-requires
unfolding ascii
octets-requires g c =
    next
    (general_parts g.S.Sink.laws (point c.args.to.now c.args.begun) (recipients_in c.args.message.now.recipients.now) c.requires
    ▸ c.member_name.ensures)

pub elements-requires : goal.elements-requires
unfolding ascii
elements-requires g c =
    next
    (general_parts g.S.Sink.laws (point c.args.to.now c.args.begun) (recipients_in c.args.message.now.recipients.now) c.requires
    ▸ c.member_name.ensures ▸ c.octets.ensures)

pub octets-requires-2 : goal.octets-requires-2
unfolding ascii
octets-requires-2 g c =
    next
    (general_parts g.S.Sink.laws (point c.args.to.now c.args.begun) (recipients_in c.args.message.now.recipients.now) c.requires
    ▸ c.member_name.ensures ▸ c.octets.ensures ▸ c.elements.ensures.octets)

pub returns : goal.returns
unfolding ascii recipient_members
returns g c = record {
  octets =
      ended
      (general_parts g.S.Sink.laws (point c.args.to.now c.args.begun) (recipients_in c.args.message.now.recipients.now) c.requires
      ▸ c.member_name.ensures ▸ c.octets.ensures ▸ c.elements.ensures.octets ▸ c.octets-2.ensures);
  begun = refl;
}
