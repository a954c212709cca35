-- A window is filled member by member.
use mathlib.Core.Path.{refl, sym, ◌∙◌}
use Prim.Native.Nat.{◌-◌}
use native.Mathlib.Omega.{arith}
use Rattle.grammar.specs.Grammar.{curly}
use Rattle.distinct.proofs.Walks.{entry_known, none_here, none_spent}
use Rattle.distinct.proofs.Windows.{known_fewer, filling_start, filling_end, filling_full, filling_found}
use Rattle.distinct.proofs.Windows.{filling_more}
use borrow.Author.Rules.{rules}
use Rattle.distinct.proofs.window.fill.Goals as goal

pub loop-done-init : goal.loop-done-init
loop-done-init c =
    (filling_start c.args.size _ _ c.args.left c.args.from.at c.requires.known_from, (refl, search rules))

pub shape_of-filter-then-done-left : goal.shape_of-filter-then-done-left
shape_of-filter-then-done-left c = c.loop-done.invariant.1.0

pub returns-then-done-left : goal.returns-then-done-left
returns-then-done-left c =
    filling_end c.args.size c.args.s.now c.loop-done.filter c.args.left c.args.from.at c.loop-done.q.at c.loop-done.done c.loop-done.invariant.0 c.requires.known_from
    (none_spent curly _ _ _ (omega (arith, c.if-done-left.true)))

pub member-requires : goal.member-requires
member-requires c =
    entry_known curly c.args.s.now (c.args.left - c.loop-done.done) c.loop-done.q.at
    (omega (arith, c.if-done-left.false, c.loop-done.invariant.0.fits)) c.loop-done.invariant.0.known

pub shape_of-filter-in_default : goal.shape_of-filter-in_default
shape_of-filter-in_default c = c.loop-done.invariant.1.0

pub returns-in_default : goal.returns-in_default
returns-in_default c =
    filling_end c.args.size c.args.s.now c.loop-done.filter c.args.left c.args.from.at c.loop-done.q.at c.loop-done.done c.loop-done.invariant.0 c.requires.known_from
    (none_here curly c.args.s.now (c.args.left - c.loop-done.done) c.loop-done.q.at (omega (arith, c.if-done-left.false, c.loop-done.invariant.0.fits))
    c.in_default.ensures)

pub clashes-requires : goal.clashes-requires
clashes-requires c =
    record {
      known_from = known_fewer c.args.s.now c.loop-done.done c.args.left c.args.from.at c.loop-done.invariant.0.fits c.requires.known_from;
      every = c.loop-done.invariant.0.marks;
      size_nonzero = (c.requires.size_nonzero.0, omega (arith, c.loop-done.invariant.1.0, c.requires.size_nonzero.1));
    }

pub shape_of-filter-then-clashes : goal.shape_of-filter-then-clashes
shape_of-filter-then-clashes c =
    c.clashes.auto.filter ∙ c.loop-done.invariant.1.0

pub returns-then-clashes : goal.returns-then-clashes
returns-then-clashes c =
    filling_found c.args.size c.args.s.now c.loop-done.filter c.args.left c.args.from.at c.loop-done.q.at c.loop-done.done c.loop-done.invariant.0
    c.in-Some.found.row c.in-Some.found.next (omega (arith, c.if-done-left.false, c.loop-done.invariant.0.fits))
    c.in-Some.ensures
    (sym c.clashes.ensures.value ∙ c.if-clashes.true)

pub loop-done-preserved : goal.loop-done-preserved
loop-done-preserved c = (
  filling_more c.args.size c.args.s.now c.loop-done.filter c.args.left c.args.from.at c.loop-done.q.at c.loop-done.done c.loop-done.invariant.0
      c.in-Some.found.row c.in-Some.found.next (omega (arith, c.if-done-left.false, c.loop-done.invariant.0.fits))
      c.in-Some.ensures
      c.clashes.new.filter (sym c.clashes.ensures.value ∙ c.if-clashes.false) c.clashes.ensures.marked.1 (c.clashes.ensures.marked.0 refl),
  (c.clashes.auto.filter ∙ c.loop-done.invariant.1.0, search rules),
)

pub shape_of-filter : goal.shape_of-filter
shape_of-filter c = c.loop-done.invariant.1.0

pub returns : goal.returns
returns c =
    filling_full c.args.size c.args.s.now c.loop-done.filter c.args.left c.args.from.at c.loop-done.q.at c.loop-done.done c.loop-done.invariant.0 c.requires.known_from
    (omega (arith, c.loop-done-test.false, c.requires.size_nonzero.0))
