-- `hand_out` writes the numbers of one line after the other.
use Rattle.std.proofs.Common.{◌≤◌, ◌+◌, ◌*◌, length, refl, ap, take, arith}
use Rattle.std.proofs.lemmas.List.{length-map}
use lib.Seq.{length-take-le}
use Rattle.prelude.specs.Buffer.{written}
use Rattle.parameters.specs.Lines.{line_width, laid}
use Rattle.parameters.specs.Inner.Puts.{line_is}
use Rattle.parameters.proofs.Laying.{laid_next}
use Rattle.parameters.proofs.lines.Lines.hand_out.Goals as goal

pub loop-i-init : goal.loop-i-init
unfolding written laid
loop-i-init g c = refl

pub loop-i-preserved : goal.loop-i-preserved
loop-i-preserved g c =
    let all = c.self.inside in
    let fits : (c.loop-i.i + 1) * line_width ≤ length c.args.list.now =
    omega (arith, ap length c.self.view_is, length-map (take all.count all.lines) line_is, length-take-le all.count all.lines (omega arith)) in
    laid_next line_is all.lines c.loop-i.i _ c.args.list.now (omega arith) fits c.loop-i.invariant c.put_numbers.ensures
