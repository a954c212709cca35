-- `next_entry` finds where the next member or element begins: past a comma, or the end.
use Rattle.json_read.proofs.MemberParts.{next_past, next_none}
use Rattle.json_read.proofs.Position.next_entry.Goals as goal

pub returns-then-peek-eq44 : goal.returns-then-peek-eq44
returns-then-peek-eq44 c =
    let s = c.args.s.now in
    let at = c.args.self.at in
    next_past s at c.skip_space-after.result.at c.peek.result c.skip_space-after.ensures c.peek.ensures
    c.step.result.at c.skip_space.result.at c.if-peek-eq44.true c.step.ensures c.skip_space.ensures

pub returns-else-peek-eq44 : goal.returns-else-peek-eq44
returns-else-peek-eq44 c =
    let s = c.args.s.now in
    let at = c.args.self.at in
    next_none s at c.skip_space-after.result.at c.peek.result c.skip_space-after.ensures c.peek.ensures c.if-peek-eq44.false
