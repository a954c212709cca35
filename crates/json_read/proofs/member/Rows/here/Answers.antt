-- `here` reads a member or an element, as the bracket tells.
use Rattle.json_read.proofs.RowsLeft.{given_member, given_element}
use Rattle.json_read.proofs.member.Rows.here.Goals as goal

pub element-requires : goal.element-requires
element-requires c =
    let e = c.args.self.now in
    given_element e.array e.judged e.levels e.text.now e.at.at c.requires c.if-self.true

pub member-requires : goal.member-requires
member-requires c =
    let e = c.args.self.now in
    given_member e.array e.judged e.levels e.text.now e.at.at c.requires c.if-self.false
