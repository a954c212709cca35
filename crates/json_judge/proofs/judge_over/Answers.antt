-- 6; 7; 2.
use mathlib.Core.Path.{sym, ◌∙◌}
use Rattle.json_judge.proofs.Orders.{over_long, over_unread, over_over}
use Rattle.json_judge.proofs.judge_over.Goals as goal

pub returns-then-header-gt-HEADER_ROOM : goal.returns-then-header-gt-HEADER_ROOM
returns-then-header-gt-HEADER_ROOM c = over_long _ _ _ _ c.if-header-gt-HEADER_ROOM.true

pub returns-then-unread_texts : goal.returns-then-unread_texts
returns-then-unread_texts c = over_unread _ _ _ _ c.if-header-gt-HEADER_ROOM.false (sym c.unread_texts.ensures ∙ c.if-unread_texts.true)

pub returns : goal.returns
returns c = over_over _ _ _ _ c.if-header-gt-HEADER_ROOM.false (sym c.unread_texts.ensures ∙ c.if-unread_texts.false)
