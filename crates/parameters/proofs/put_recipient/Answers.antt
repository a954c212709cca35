-- `put_recipient` puts the lines of the left parameters, one after the other, and then those of the right ones.
use Rattle.std.proofs.Common.{ap, sym, ◌∙◌, subst, not, ◌++◌, append_assoc, append-nil, List, ℕ, IfSome, ◌<◌, length, length-append, arith}
use mathlib.Core.List.{flat_map}
use Rattle.rows.proofs.Entries.{entries_length}
use Rattle.matching.specs.Inner.Sides.{texts, entries, entry_at}
use Rattle.parameters.specs.Lines.{Line, line, line_if}
use Rattle.parameters.specs.Parameters.{left_lines, right_lines, parameter_lines, pair_lines}
use Rattle.parameters.specs.Inner.Puts.{half_is}
use Rattle.parameters.specs.Inner.Kept.{partner_of, differs}
use Rattle.parameters.proofs.Appending.{lines_all, few_if, few_pair, left_of, right_of, added}
use Rattle.parameters.proofs.put_recipient.Goals as goal

pub loop-i-init : goal.loop-i-init
unfolding flat_map
loop-i-init g c = (omega arith, sym (append-nil c.args.lines.now))

pub put_pair-requires : goal.put_pair-requires
put_pair-requires g c =
    let right = c.args.right.now in (
      omega arith,
      (
        omega arith,
        (
          subst (λ (n : ℕ). IfSome c.pair_of-pair.result (λ q. q.at < n)) (entries_length right.count right.table.now) c.pair_of-pair.ensures.fits,
          omega (arith, c.loop-i.invariant.0),
        ),
      ),
    )

pub loop-i-preserved : goal.loop-i-preserved
loop-i-preserved g c =
    let left = c.args.left.now in
    let right = c.args.right.now in
    let e = entry_at left c.loop-i.i in
    let p = c.pair_of-pair.result in
    let put = pair_lines c.args.recipient e (differs p) (partner_of (entries right) p) in (
      omega (arith, ap length c.put_pair.ensures, length-append c.loop-i.lines put, few_pair c.args.recipient e (differs p) (partner_of (entries right) p), c.loop-i.invariant.0),
      added (left_lines (texts left) (texts right) (entries right) c.args.recipient) left c.loop-i.i c.args.lines.now c.loop-i-test.true c.loop-i.invariant.1
          (left_of (texts left) (texts right) c.args.recipient e (entries right) p c.pair_of-pair.ensures) c.put_pair.ensures,
    )

pub loop-j-init : goal.loop-j-init
unfolding flat_map
loop-j-init g c =
    let left = c.args.left.now in
    let g = left_lines (texts left) (texts c.args.right.now) (entries c.args.right.now) c.args.recipient in (
      omega (arith, c.loop-i.invariant.0),
      c.loop-i.invariant.1 ∙ ap (λ (x : List Line). c.args.lines.now ++ x) (lines_all g left c.loop-i.i c.loop-i-test.false) ∙ sym (append-nil _),
    )

pub loop-j-preserved : goal.loop-j-preserved
loop-j-preserved g c =
    let left = c.args.left.now in
    let right = c.args.right.now in
    let n = c.args.recipient in
    let b = not c.has_partner-alone.result in
    let l = line 9 n (half_is c.missing.result) (half_is c.half.result) in (
      omega (arith, ap length c.put_if.ensures, length-append c.loop-j.lines (line_if b l), few_if b l, c.loop-j.invariant.0),
      added (right_lines (texts left) (texts right) (entries left) n) right c.loop-j.j
          (c.args.lines.now ++ flat_map (left_lines (texts left) (texts right) (entries right) n) (entries left)) c.loop-j-test.true c.loop-j.invariant.1
          (right_of (texts left) (texts right) n (entry_at right c.loop-j.j) (entries left) c.has_partner-alone.ensures c.missing.ensures c.half.ensures)
          c.put_if.ensures,
    )

pub returns-clause-lines : goal.returns-clause-lines
unfolding parameter_lines
returns-clause-lines g c =
    let left = c.args.left.now in
    let right = c.args.right.now in
    let es = flat_map (left_lines (texts left) (texts right) (entries right) c.args.recipient) (entries left) in
    let g = right_lines (texts left) (texts right) (entries left) c.args.recipient in
    c.loop-j.invariant.1 ∙ ap (λ (x : List Line). (c.args.lines.now ++ es) ++ x) (lines_all g right c.loop-j.j c.loop-j-test.false)
    ∙ append_assoc c.args.lines.now es (flat_map g (entries right))
