-- `put_message` puts one line after the other.
use Rattle.std.proofs.Common.{ap, ◌++◌, List, append_assoc}
use Rattle.same.proofs.SameOctets.{decided}
use Rattle.parameters.specs.Lines.{Line}
use Rattle.differences.proofs.Putting.{message_put}
use Rattle.differences.proofs.put_message.Goals as goal

pub returns-clause-lines : goal.returns-clause-lines
returns-clause-lines c =
    let left = c.args.left.now in
    let right = c.args.right.now in
    let header = decided c.equal.result _ _ c.equal.ensures in
    rw (
      c.put_whole-7.ensures.lines,
      c.put_whole-6.ensures.lines,
      c.put_whole-5.ensures.lines,
      c.put_whole-4.ensures.lines,
      c.put_whole-3.ensures.lines,
      c.put_whole-2.ensures.lines,
      c.put_whole.ensures.lines,
      header,
      c.other.ensures,
      c.other-2.ensures,
      c.other-3.ensures,
      c.other-4.ensures,
    )
    (simp append_assoc (ap (λ (l : List Line). c.args.lines.now ++ l)
    (message_put left.message.now left.header.now left.holds left.judged right.message.now right.header.now right.holds right.judged)))
