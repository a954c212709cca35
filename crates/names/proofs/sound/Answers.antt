-- `sound` answers by the definition: the lengths from the next one on, with the names behind them, are as sound as the
-- whole list.
use mathlib.Core.Path.{◌≡◌, ap, ap₂, sym, ◌∙◌}
use native.Mathlib.Omega.{arith}
use mathlib.Core.List.{List}
use Prim.Native.Nat.{ℕ}
use lib.ListN.{length, drop, length-drop}
use Rattle.names.specs.Names as spec
use Rattle.names.proofs.Judging.{sound_empty, sound_many, sound_short, sound_from, sound_start, sound_low, sound_high, sound_turn, sound_end}
use Rattle.names.proofs.sound.Goals.{then-n-gt-MOST_NAMES-via-then-n-gt-MOST_NAMES, then-n-gt-MOST_NAMES-via-else-n-gt-MOST_NAMES+then-rest-n}
use Rattle.names.proofs.sound.Goals.{then-k-lt1-via-then-k-lt1, then-k-lt1-via-else-k-lt1+then-k-gt-LONGEST_NAME}
use Rattle.names.proofs.sound.Goals as goal

pub returns-in_default : goal.returns-in_default
returns-in_default c = sound_empty c.args.list.now c.in_default.ensures.cases

pub returns-then-n-gt-MOST_NAMES : goal.returns-then-n-gt-MOST_NAMES
returns-then-n-gt-MOST_NAMES c =
    let n = c.in-Some.field-0-0.now in
    let rest = c.in-Some.rest.now in
    elim c.then-n-gt-MOST_NAMES.branch [
      | then-n-gt-MOST_NAMES-via-then-n-gt-MOST_NAMES w ↦ sound_many n rest (omega (arith, c.from-n.ensures, w.if-n-gt-MOST_NAMES))
      | then-n-gt-MOST_NAMES-via-else-n-gt-MOST_NAMES+then-rest-n w ↦ sound_short n rest (omega (arith, c.from-n.ensures, w.if-rest-n))
    ]
    ∙ ap spec.sound (sym c.in-Some.ensures.cases.0)

pub loop-k-init : goal.loop-k-init
loop-k-init c =
    let n = c.from-n.ensures in
    record {
      small = omega arith;
      left =
          ap₂ (λ (ks left : List ℕ). sound_from ks 0 (length left)) c.split_at.ensures.front c.split_at.ensures.back
          ∙ rw n (sound_start c.in-Some.field-0-0.now c.in-Some.rest.now (omega (arith, n)) (omega (arith, n)))
          ∙ ap spec.sound (sym c.in-Some.ensures.cases.0);
    }

pub returns-then-k-lt1 : goal.returns-then-k-lt1
returns-then-k-lt1 c =
    let lengths = c.split_at.result.0.now in
    let room = length c.split_at.result.1.now in
    elim c.then-k-lt1.branch [
      | then-k-lt1-via-then-k-lt1 w ↦ sound_low lengths c.loop-k.total room c.loop-k.k-index c.loop-k-test.true w.if-k-lt1.true
      | then-k-lt1-via-else-k-lt1+then-k-gt-LONGEST_NAME w ↦
          sound_high lengths c.loop-k.total room c.loop-k.k-index c.loop-k-test.true w.if-k-lt1.false w.if-k-gt-LONGEST_NAME.true
    ]
    ∙ c.loop-k.invariant.left

pub loop-k-preserved : goal.loop-k-preserved
loop-k-preserved c =
    let lengths = c.split_at.result.0.now in
    let room = length c.split_at.result.1.now in
    let k = c.from-total.ensures in
    record {
      small = omega (arith, c.loop-k.invariant.small, k);
      left =
          rw k (sound_turn lengths c.loop-k.total room c.loop-k.k-index c.loop-k-test.true c.if-k-lt1.false c.if-k-gt-LONGEST_NAME.false)
          ∙ c.loop-k.invariant.left;
    }

pub returns : goal.returns
returns c =
    let lengths = c.split_at.result.0.now in
    let none : length (drop c.loop-k.k-index lengths) ≡ 0 = omega (arith, length-drop c.loop-k.k-index lengths, c.loop-k-test.false) in
    sound_end (drop c.loop-k.k-index lengths) c.loop-k.total (length c.split_at.result.1.now) none ∙ c.loop-k.invariant.left
