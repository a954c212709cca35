-- `open_at` asks 2, 7, 8 and 9 in order.
use mathlib.Core.Path.{ap, sym, ◌∙◌}
use Rattle.prelude.specs.Refusals.{as_stage}
use Rattle.headers.proofs.Texts.{no_value}
use Rattle.walk.proofs.Opens.{opens_2, opens_7, opens_refused, opens_empty, opens_first, handed_opening}
use Rattle.walk.proofs.open_at.Goals as goal

pub returns-then-end-gt-LONGEST : goal.returns-then-end-gt-LONGEST
returns-then-end-gt-LONGEST c = opens_2 _ c.if-end-gt-LONGEST.true

pub returns-in_default : goal.returns-in_default
returns-in_default c =
    opens_7 _ c.if-end-gt-LONGEST.false _ c.judge.ensures (ap no_value c.in_default.is)

pub returns-in_err-count : goal.returns-in_err-count
returns-in_err-count c =
    handed_opening _ _ _ c.from_residual.ensures.1
    ∙ opens_refused _ c.if-end-gt-LONGEST.false _ c.judge.ensures
    (ap no_value c.in-Some.is) _
    (sym (ap as_stage c.in_err-count.was) ∙ c.protected_entries.ensures.value)

pub returns-then-count-eq0 : goal.returns-then-count-eq0
returns-then-count-eq0 c =
    opens_empty _ c.if-end-gt-LONGEST.false _ c.judge.ensures
    (ap no_value c.in-Some.is) _
    (sym (ap as_stage c.in_ok-count.was) ∙ c.protected_entries.ensures.value) c.if-count-eq0.true

pub returns : goal.returns
returns c =
    opens_first _ c.if-end-gt-LONGEST.false _ c.judge.ensures
    (ap no_value c.in-Some.is) _
    (sym (ap as_stage c.in_ok-count.was) ∙ c.protected_entries.ensures.value) c.if-count-eq0.false _ _ c.skip_space-start.ensures
    c.inside.ensures
