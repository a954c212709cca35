-- `put_parameters` puts the lines of one recipient after the other.
use Rattle.std.proofs.Common.{◌≡◌, sym, append-nil, arith}
use Rattle.matching.specs.Inner.Sides.{texts, entries}
use Rattle.parameters.specs.Parameters.{parameter_lines}
use Rattle.differences.specs.Differences.{compared, recipient_lines, up_to}
use Rattle.differences.proofs.Putting.{up_added}
use Rattle.differences.proofs.put_parameters.Goals as goal

pub loop-n-init : goal.loop-n-init
unfolding up_to
loop-n-init c = (omega arith, (sym (append-nil c.args.lines.now), (c.requires.fronted, c.requires.fronted_2)))

pub loop-n-preserved : goal.loop-n-preserved
unfolding recipient_lines
loop-n-preserved c =
    let left = c.args.left.now.message.now in
    let right = c.args.right.now.message.now in
    let n = c.loop-n.n in
    let l = c.side.result in
    let r = c.side-in-loop-n.result in
    let lines : parameter_lines (texts l) (texts r) (entries l) (entries r) n ≡ recipient_lines (compared left) (compared right) n =
    cc (c.side.ensures.texts, c.side.ensures.entries, c.side-in-loop-n.ensures.texts, c.side-in-loop-n.ensures.entries) in (
      omega (arith, c.put_recipient.ensures.upper_bound, c.side.ensures.few, c.side-in-loop-n.ensures.few, c.loop-n.invariant.0),
      (
        up_added (recipient_lines (compared left) (compared right)) n c.args.lines.now c.loop-n.invariant.1.0 lines c.put_recipient.ensures.lines,
        (c.gather-mine.ensures.fronted, c.gather-yours.ensures.fronted),
      ),
    )
