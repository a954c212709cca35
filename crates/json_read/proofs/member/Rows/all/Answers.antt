-- From the first one on they are all.
use Rattle.grammar.specs.Reader.{step}
use Rattle.json_read.specs.Members.{bracket_of}
use Rattle.json_read.proofs.MemberRows.{rows_first}
use Rattle.json_read.proofs.member.Rows.all.Goals as goal

pub returns : goal.returns
returns c =
    let s = c.args.text.now in
    rows_first (bracket_of c.args.array) s c.args.levels (step s c.args.at) c.inside.result.at c.inside.ensures
