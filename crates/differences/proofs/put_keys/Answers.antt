-- `put_keys` puts the line of one recipient's keys after the other.
use Rattle.std.proofs.Common.{ap, sym, length, length-append, append-nil, arith}
use Rattle.parameters.specs.Lines.{line, line_if}
use Rattle.parameters.specs.Inner.Puts.{half_is}
use Rattle.parameters.proofs.Appending.{few_if}
use Rattle.differences.specs.Differences.{compared, key_lines, up_to}
use Rattle.differences.proofs.Putting.{up_added, key_put}
use Rattle.differences.proofs.put_keys.Goals as goal

pub loop-n-init : goal.loop-n-init
unfolding up_to
loop-n-init c = (omega arith, sym (append-nil c.args.lines.now))

pub loop-n-preserved : goal.loop-n-preserved
loop-n-preserved c =
    let left = c.args.left.now.message.now in
    let right = c.args.right.now.message.now in
    let n = c.loop-n.n in
    let b = c.other-differs.result in
    let l = line 7 n (half_is c.missing.result) (half_is c.missing-in-loop-n.result) in (
      omega (arith, ap length c.put_if.ensures, length-append c.loop-n.lines (line_if b l), few_if b l, c.loop-n.invariant.0),
      up_added (key_lines (compared left) (compared right)) n c.args.lines.now c.loop-n.invariant.1
          (key_put left right n c.key.ensures c.key-in-loop-n.ensures c.other-differs.ensures c.missing.ensures c.missing-in-loop-n.ensures)
          c.put_if.ensures,
    )
