-- `hand_out` puts all lines, and copies them where the list holds them.
use Rattle.std.proofs.Common.{◌≡◌, ap, ◌∙◌, ◌++◌, List, length, arith}
use Rattle.parameters.specs.Lines.{Line}
use Rattle.differences.specs.Differences.{compared, differences}
use Rattle.differences.proofs.Answering.{answers_short, answers_all}
use Rattle.differences.proofs.hand_out.Goals as goal

pub returns-then-list-count-clause-answers : goal.returns-then-list-count-clause-answers
returns-then-list-count-clause-answers c =
    let ls = differences (compared c.args.left.now.message.now) (compared c.args.right.now.message.now) in
    let all : c.put_all.new.lines ≡ ls = c.put_all.ensures.lines ∙ ap (λ (l : List Line). l ++ ls) c.new-lines.ensures in
    answers_short ls c.args.list.now (omega (arith, c.if-list-count.true, c.len-count.ensures, ap length all))

pub returns-clause-answers : goal.returns-clause-answers
returns-clause-answers c =
    let ls = differences (compared c.args.left.now.message.now) (compared c.args.right.now.message.now) in
    let all : c.put_all.new.lines ≡ ls = c.put_all.ensures.lines ∙ ap (λ (l : List Line). l ++ ls) c.new-lines.ensures in
    answers_all ls c.args.list.now c.len-count.result c.hand_out.new.list (c.len-count.ensures ∙ ap length all)
    (omega (arith, c.if-list-count.false, c.len-count.ensures, ap length all)) (rw all at c.hand_out.ensures)
