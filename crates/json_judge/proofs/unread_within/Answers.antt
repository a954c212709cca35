-- An absent text is not judged; a present one by its reading.
use mathlib.Core.Path.{◌∙◌}
use Rattle.json_judge.proofs.Texts.{unread_absent, unread_present, none_read}
use Rattle.json_judge.proofs.unread_within.Goals as goal

pub returns-then-text-eq0 : goal.returns-then-text-eq0
returns-then-text-eq0 c = unread_absent c.args.levels c.args.text.now c.if-text-eq0.true

pub returns : goal.returns
returns c = none_read _ _ c.is_none.ensures ∙ unread_present _ _ c.if-text-eq0.false _ c.judge.ensures
