-- `split` finds one full stop after the other, and the components between them.
use Rattle.jwe.proofs.Splitting.{split_few, split_many, split_four}
use Rattle.jwe.proofs.compact.split.Goals as goal

pub returns-then-n-fourth : goal.returns-then-n-fourth
returns-then-n-fourth c =
    let message = c.args.message.now in
    split_few message _ _ _ _ _ c.seek-first.ensures.value
    c.seek-second.ensures.value c.seek-third.ensures.value
    c.seek-fourth.ensures.value c.seek-last.ensures.value
    c.if-n-fourth.true

pub returns-then-last-n : goal.returns-then-last-n
returns-then-last-n c =
    let message = c.args.message.now in
    split_many message _ _ _ _ _ c.seek-first.ensures.value
    c.seek-second.ensures.value c.seek-third.ensures.value
    c.seek-fourth.ensures.value c.seek-last.ensures.value
    c.if-n-fourth.false c.if-last-n.true

pub returns : goal.returns
returns c =
    let message = c.args.message.now in
    split_four message _ _ _ _ _ c.seek-first.ensures.value
    c.seek-second.ensures.value c.seek-third.ensures.value
    c.seek-fourth.ensures.value c.seek-last.ensures.value
    c.if-n-fourth.false c.if-last-n.false _ _ _ _
    c.between.ensures c.between-2.ensures c.between-3.ensures
    c.between-4.ensures
