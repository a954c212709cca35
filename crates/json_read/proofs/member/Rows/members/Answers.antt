-- The members are what stands in an object.
use Rattle.grammar.specs.Reader.{members_at}
use Rattle.json_read.proofs.member.Rows.members.Goals as goal

pub returns : goal.returns
unfolding members_at
returns c = c.all.ensures
