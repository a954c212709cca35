-- `message_length` adds the components' lengths and the full stops, cut at the limit.
use mathlib.Core.Path.{refl}
use Rattle.jwe_write.specs.Write.{raw}
use Rattle.jwe_write.proofs.Message.{length_over, length_within}
use Rattle.jwe_write.proofs.message_length.Goals as goal

pub returns-then-n-gt-OVER : goal.returns-then-n-gt-OVER
returns-then-n-gt-OVER c =
    let given = c.args in
    length_over
    (raw given.header.now given.key.now given.iv.now given.ciphertext.now given.tag.now) _ _ _ _ _ _
    c.measure.ensures c.measure-2.ensures
    c.measure-3.ensures c.measure-4.ensures c.measure-5.ensures
    refl c.if-n-gt-OVER.true

pub returns : goal.returns
returns c =
    let given = c.args in
    length_within
    (raw given.header.now given.key.now given.iv.now given.ciphertext.now given.tag.now) _ _ _ _ _ _
    c.measure.ensures c.measure-2.ensures
    c.measure-3.ensures c.measure-4.ensures c.measure-5.ensures
    refl c.if-n-gt-OVER.false
