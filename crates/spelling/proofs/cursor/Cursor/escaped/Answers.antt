-- The first octet that the character at hand adds; a first half adds nothing and is passed over.
use Prim.Native.Nat.{◌+◌}
use mathlib.Core.Path.{ap, sym, ◌∙◌}
use mathlib.Core.List.{◌∷◌}
use native.Mathlib.Omega.{arith}
use Rattle.std.specs.Prelude.{None}
use Rattle.grammar.specs.Spellings.{between}
use Rattle.spelling.specs.Inner.Escapes.{half_of, undo_at}
use Rattle.spelling.proofs.Cursors.{between_characters, one_octet, none_added}
use Rattle.spelling.proofs.Cursors.{undo_end, undo_plain, undo_cut, undo_escape, undo_cut_digits, undo_pair, undo_single, undo_first}
use Rattle.spelling.proofs.cursor.Cursor.escaped.Goals as goal

pub returns-then-c-ne92 : goal.returns-then-c-ne92
returns-then-c-ne92 c =
    let p = c.loop-self.self in
    let kept = c.loop-self.invariant in
    (one_octet _ _ _ kept.same kept.none _ _ _ (undo_plain p.text.now p.half p.at c.loop-self-test.true c.if-c-ne92.true), omega arith)

pub returns-then-s-at-lt2 : goal.returns-then-s-at-lt2
returns-then-s-at-lt2 c =
    let p = c.loop-self.self in
    let kept = c.loop-self.invariant in
    between_characters _ _ _ kept.same kept.none
    ∙ undo_cut p.text.now p.half p.at c.loop-self-test.true c.if-c-ne92.false (omega arith)

pub returns-then-e-ne117 : goal.returns-then-e-ne117
returns-then-e-ne117 c =
    let p = c.loop-self.self in
    let kept = c.loop-self.invariant in
    let behind = undo_at p.text.now None (p.at + 2) in
    let escape = undo_escape p.text.now p.half p.at c.loop-self-test.true c.if-c-ne92.false (omega arith) c.if-e-ne117.true in (
      one_octet _ _ _ kept.same kept.none _ c.escape_point.result behind (escape ∙ ap (λ x. x ∷ behind) (sym c.escape_point.ensures)),
      omega arith,
    )

pub returns-then-s-at-lt6 : goal.returns-then-s-at-lt6
returns-then-s-at-lt6 c =
    let p = c.loop-self.self in
    let kept = c.loop-self.invariant in
    between_characters _ _ _ kept.same kept.none
    ∙ undo_cut_digits p.text.now p.half p.at c.loop-self-test.true c.if-c-ne92.false (omega arith) c.if-e-ne117.false (omega arith)

pub returns-in-Some : goal.returns-in-Some
returns-in-Some c =
    let p = c.loop-self.self in
    let kept = c.loop-self.invariant in (
      between_characters _ _ _ kept.same kept.none
          ∙ undo_pair p.text.now p.at (omega arith) c.if-c-ne92.false c.if-e-ne117.false _ c.unit_of-u.ensures.0 _ c.waiting-self.ensures _ _ _ c.in-Some.is c.combine.ensures.0
          ∙ sym c.begin.ensures.told,
      omega arith,
    )

pub returns-then-is_none : goal.returns-then-is_none
returns-then-is_none c =
    let p = c.loop-self.self in
    let kept = c.loop-self.invariant in (
      between_characters _ _ _ kept.same kept.none
          ∙ undo_single p.text.now p.at (omega arith) c.if-c-ne92.false c.if-e-ne117.false _ c.unit_of-u.ensures.0 _ c.waiting-self.ensures _ c.in_default.is c.if-is_none.ensures
          ∙ sym c.begin-then-is_none.ensures.told,
      omega arith,
    )

pub loop-self-preserved : goal.loop-self-preserved
loop-self-preserved c =
    let p = c.loop-self.self in
    let kept = c.loop-self.invariant in
    let first =
    undo_first p.text.now p.at (omega arith) c.if-c-ne92.false c.if-e-ne117.false _ c.unit_of-u.ensures.0 _ c.waiting-self.ensures _ c.in_default.is c.if-is_none.ensures in
    record { same = none_added _ _ _ kept.same kept.none _ _ first; no_more = omega arith; none = kept.none }

pub returns : goal.returns
returns c =
    let p = c.loop-self.self in
    let kept = c.loop-self.invariant in
    between_characters _ _ _ kept.same kept.none ∙ undo_end p.text.now (between (half_of p.half)) p.at c.loop-self-test.false
