-- `probe_judge` hands out what `judge` promises, case by case.
use mathlib.Core.Path.{ap, sym, ◌∙◌}
use Rattle.json_read.specs.Inner.Numbers.{judge_refusal, found_end}
use Rattle.probe.proofs.probe_judge.Goals as goal

pub returns-in-Some : goal.returns-in-Some
returns-in-Some c =
    let case = sym c.in-Some.is ∙ c.judge-answer.ensures in
    record {
      value = ap judge_refusal case;
      end_after = ap found_end case;
    }

pub returns-in-None : goal.returns-in-None
returns-in-None c =
    let case = sym c.in-None.is ∙ c.judge-answer.ensures in
    record {
      value = ap judge_refusal case;
      end_after = ap found_end case;
    }
