-- `encoded` writes the name, and the encoded octets between quotes.
use Rattle.std.proofs.Common.{refl}
use Rattle.json_put.specs.Inner.Members.{point, encoded_member}
use Rattle.json_put.proofs.Putting.{next, ◌▸◌, ended}
use Rattle.json_put.proofs.Parts.{encoded_parts}
use Rattle.json_put.proofs.write.encoded.Goals as goal

pub member_name-requires : goal.member_name-requires
member_name-requires g c = next (encoded_parts g.S.Sink.laws (point c.args.to.now c.args.begun) c.args.name.now c.args.octets.now c.requires)

pub octets-requires : goal.octets-requires
octets-requires g c =
    next
    (encoded_parts g.S.Sink.laws (point c.args.to.now c.args.begun) c.args.name.now c.args.octets.now c.requires ▸ c.member_name.ensures)

pub encoded-requires : goal.encoded-requires
encoded-requires g c =
    next
    (encoded_parts g.S.Sink.laws (point c.args.to.now c.args.begun) c.args.name.now c.args.octets.now c.requires ▸ c.member_name.ensures
    ▸ c.octets.ensures)

pub octets-requires-2 : goal.octets-requires-2
octets-requires-2 g c =
    next
    (encoded_parts g.S.Sink.laws (point c.args.to.now c.args.begun) c.args.name.now c.args.octets.now c.requires ▸ c.member_name.ensures
    ▸ c.octets.ensures ▸ c.encoded.ensures)

pub returns : goal.returns
unfolding encoded_member
returns g c = record {
  octets =
      ended
      (encoded_parts g.S.Sink.laws (point c.args.to.now c.args.begun) c.args.name.now c.args.octets.now c.requires ▸ c.member_name.ensures
      ▸ c.octets.ensures ▸ c.encoded.ensures ▸ c.octets-2.ensures);
  begun = refl;
}
