-- `probe_value` hands out what `value` promises, case by case.
use mathlib.Core.Path.{ap, sym, ◌∙◌}
use Rattle.json_read.specs.Inner.Numbers.{value_kind, found_end}
use Rattle.probe.proofs.probe_value.Goals as goal

pub returns-in-Some : goal.returns-in-Some
returns-in-Some c =
    let case = sym c.in-Some.is ∙ c.value-answer.ensures in
    record {
      value = ap value_kind case;
      end_after = ap found_end case;
    }

pub returns-in-None : goal.returns-in-None
returns-in-None c =
    let case = sym c.in-None.is ∙ c.value-answer.ensures in
    record {
      value = ap value_kind case;
      end_after = ap found_end case;
    }
