-- `unit` reads four hexadecimal digits: each moves the scan of the string on by one.
use Prim.Native.Nat.{◌<◌}
use mathlib.Core.Path.{ap, sym, subst, ◌∙◌}
use native.Mathlib.Omega.{arith}
use Rattle.json_read.specs.Inner.Ends.{resumed, Beyond}
use Rattle.json_read.proofs.StringParts.{digit_wrong, digit_more, digit_last, digit_beyond, unit_beyond}
use Rattle.json_read.proofs.Position.unit.Goals as goal

pub returns-in_err-first : goal.returns-in_err-first
returns-in_err-first c =
    let s = c.args.s.now in
    let half = c.args.half in
    record {
      result_value = ap (resumed s) c.from_residual.ensures ∙ digit_wrong s half 0 c.args.self.at 3 c.in_err-first.ensures.value;
      beyond = subst (Beyond c.args.self.at) (sym c.from_residual.ensures) tt;
    }

pub returns-in_err-second : goal.returns-in_err-second
returns-in_err-second c =
    let s = c.args.s.now in
    let half = c.args.half in
    record {
      result_value = ap (resumed s) c.from_residual-in_err-second.ensures ∙ digit_wrong s half c.in_ok-first.first.value c.in_ok-first.first.next.at 2 c.in_err-second.ensures.value
          ∙ digit_more s half 0 c.args.self.at c.in_ok-first.first.next c.in_ok-first.first.value c.in_ok-first.ensures.value 2;
      beyond = subst (Beyond c.args.self.at) (sym c.from_residual-in_err-second.ensures) tt;
    }

pub returns-in_err-third : goal.returns-in_err-third
returns-in_err-third c =
    let s = c.args.s.now in
    let half = c.args.half in
    record {
      result_value = ap (resumed s) c.from_residual-in_err-third.ensures ∙ digit_wrong s half c.in_ok-second.second.value c.in_ok-second.second.next.at 1 c.in_err-third.ensures.value
          ∙ digit_more s half c.in_ok-first.first.value c.in_ok-first.first.next.at c.in_ok-second.second.next c.in_ok-second.second.value c.in_ok-second.ensures.value 1
          ∙ digit_more s half 0 c.args.self.at c.in_ok-first.first.next c.in_ok-first.first.value c.in_ok-first.ensures.value 2;
      beyond = subst (Beyond c.args.self.at) (sym c.from_residual-in_err-third.ensures) tt;
    }

pub returns-in_err-last : goal.returns-in_err-last
returns-in_err-last c =
    let s = c.args.s.now in
    let half = c.args.half in
    record {
      result_value = ap (resumed s) c.from_residual-in_err-last.ensures ∙ digit_wrong s half c.in_ok-third.third.value c.in_ok-third.third.next.at 0 c.in_err-last.ensures.value
          ∙ digit_more s half c.in_ok-second.second.value c.in_ok-second.second.next.at c.in_ok-third.third.next c.in_ok-third.third.value c.in_ok-third.ensures.value 0
          ∙ digit_more s half c.in_ok-first.first.value c.in_ok-first.first.next.at c.in_ok-second.second.next c.in_ok-second.second.value c.in_ok-second.ensures.value 1
          ∙ digit_more s half 0 c.args.self.at c.in_ok-first.first.next c.in_ok-first.first.value c.in_ok-first.ensures.value 2;
      beyond = subst (Beyond c.args.self.at) (sym c.from_residual-in_err-last.ensures) tt;
    }

pub returns : goal.returns
returns c =
    let s = c.args.s.now in
    let half = c.args.half in
    let end = c.after_unit.ensures in
    let past_first = digit_beyond s half 0 c.args.self.at c.in_ok-first.first.next c.in_ok-first.first.value c.in_ok-first.ensures.value in
    let past_second = digit_beyond s half c.in_ok-first.first.value c.in_ok-first.first.next.at c.in_ok-second.second.next c.in_ok-second.second.value c.in_ok-second.ensures.value in
    let past_third = digit_beyond s half c.in_ok-second.second.value c.in_ok-second.second.next.at c.in_ok-third.third.next c.in_ok-third.third.value c.in_ok-third.ensures.value in
    let past_last = digit_beyond s half c.in_ok-third.third.value c.in_ok-third.third.next.at c.in_ok-last.last.next c.in_ok-last.last.value c.in_ok-last.ensures.value in
    let far : c.args.self.at < c.in_ok-last.last.next.at = omega arith in
    record {
      result_value = ap (resumed s) end ∙ digit_last s half c.in_ok-third.third.value c.in_ok-third.third.next.at c.in_ok-last.last.next c.in_ok-last.last.value c.in_ok-last.ensures.value
          ∙ digit_more s half c.in_ok-second.second.value c.in_ok-second.second.next.at c.in_ok-third.third.next c.in_ok-third.third.value c.in_ok-third.ensures.value 0
          ∙ digit_more s half c.in_ok-first.first.value c.in_ok-first.first.next.at c.in_ok-second.second.next c.in_ok-second.second.value c.in_ok-second.ensures.value 1
          ∙ digit_more s half 0 c.args.self.at c.in_ok-first.first.next c.in_ok-first.first.value c.in_ok-first.ensures.value 2;
      beyond = subst (Beyond c.args.self.at) (sym end) (unit_beyond c.args.self.at c.in_ok-last.last.next half c.in_ok-last.last.value far);
    }
