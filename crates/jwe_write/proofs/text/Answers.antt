-- `text` answers by the header's length, and by its reading.
use mathlib.Core.Path.{ap, sym, ◌∙◌}
use Prim.Native.Nat.{ℕ}
use lib.ListN.{length}
use Rattle.prelude.specs.Refusals.{stage_of}
use Rattle.headers.proofs.Texts.{no_value}
use Rattle.jwe_write.proofs.Order.{text_6, text_7, text_0, unread_is}
use Rattle.jwe_write.proofs.text.Goals as goal

pub returns-then-header-gt-HEADER_ROOM : goal.returns-then-header-gt-HEADER_ROOM
unfolding stage_of
returns-then-header-gt-HEADER_ROOM c =
    let header = c.args.header.now in
    sym (ap (λ (n : ℕ). stage_of n (length header)) (text_6 header c.if-header-gt-HEADER_ROOM.true))

pub returns-in_default : goal.returns-in_default
unfolding stage_of
returns-in_default c =
    let header = c.args.header.now in
    sym (ap (λ (n : ℕ). stage_of n (length header))
    (text_7 header c.if-header-gt-HEADER_ROOM.false
    (unread_is header c.judge.ensures ∙ ap no_value c.in_default.is)))

pub returns : goal.returns
unfolding stage_of
returns c =
    let header = c.args.header.now in
    sym (ap (λ (n : ℕ). stage_of n (length header))
    (text_0 header c.if-header-gt-HEADER_ROOM.false
    (unread_is header c.judge.ensures ∙ ap no_value c.in-Some.is)))
