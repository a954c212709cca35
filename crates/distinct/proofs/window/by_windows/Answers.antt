-- Window after window: whether two of the members from here on have one name stays the answer.
use mathlib.Core.Path.{refl, ap, sym, subst, ◌∙◌}
use native.Mathlib.Omega.{arith}
use Rattle.grammar.specs.Grammar.{curly}
use Rattle.prelude.specs.Any.{any_pair}
use Rattle.distinct.specs.Names.{same_name, repeats}
use Rattle.distinct.specs.Inner.Filter.{Behind, Filled}
use Rattle.distinct.proofs.Walks.{members_all, known_all, none_spent}
use Rattle.distinct.proofs.Windows.{pair_rest, pair_across}
use Rattle.distinct.proofs.window.by_windows.Goals as goal

pub loop-left-init : goal.loop-left-init
unfolding repeats
loop-left-init c = (
  ap (any_pair (same_name c.args.s.now c.args.s.now))
      (members_all c.args.s.now c.args.at c.inside-p.result.at c.inside-p.ensures),
  (known_all curly c.args.s.now c.args.at c.inside-p.result.at c.inside-p.ensures c.requires.known_in, refl),
)

pub clear-requires : goal.clear-requires
clear-requires c =
    omega (arith, c.loop-left.invariant.1.1, c.requires.size_nonzero.1)

pub fill-answer-requires : goal.fill-answer-requires
fill-answer-requires c =
    record {
      known_from = c.loop-left.invariant.1.0;
      size_nonzero = (c.requires.size_nonzero.0, omega (arith, c.loop-left.invariant.1.1, c.requires.size_nonzero.1, c.clear.auto.work));
    }

pub shape_of-filter-in_default : goal.shape_of-filter-in_default
shape_of-filter-in_default c =
    c.fill-answer.auto.filter ∙ c.clear.auto.work ∙ c.loop-left.invariant.1.1

pub returns-in_default : goal.returns-in_default
returns-in_default c =
    sym (subst (Filled c.args.size c.args.s.now c.loop-left.left c.loop-left.p.at c.fill-answer.new.filter) c.in_default.is c.fill-answer.ensures)
    ∙ c.loop-left.invariant.0

pub overflow_sub-left : goal.overflow_sub-left
overflow_sub-left c =
    let b : Behind c.args.size c.args.s.now c.loop-left.left c.loop-left.p.at c.fill-answer.new.filter c.in-Next.next.at c.in-Next.more =
    (subst (Filled c.args.size c.args.s.now c.loop-left.left c.loop-left.p.at c.fill-answer.new.filter) c.in-Next.is c.fill-answer.ensures) in
    omega (arith, b.fits)

pub against-requires : goal.against-requires
against-requires c =
    let b = (subst (Filled c.args.size c.args.s.now c.loop-left.left c.loop-left.p.at c.fill-answer.new.filter) c.in-Next.is c.fill-answer.ensures) in
    record {
      known_from = b.known;
      known_from_2 = b.others;
      every = b.marks;
      size_nonzero = (c.requires.size_nonzero.0, omega (arith, c.fill-answer.auto.filter, c.clear.auto.work, c.loop-left.invariant.1.1, c.requires.size_nonzero.1));
    }

pub shape_of-filter-then-against : goal.shape_of-filter-then-against
shape_of-filter-then-against c =
    c.against.auto.filter ∙ c.fill-answer.auto.filter ∙ c.clear.auto.work ∙ c.loop-left.invariant.1.1

pub returns-then-against : goal.returns-then-against
returns-then-against c =
    let b = (subst (Filled c.args.size c.args.s.now c.loop-left.left c.loop-left.p.at c.fill-answer.new.filter) c.in-Next.is c.fill-answer.ensures) in
    sym (ap (any_pair (same_name c.args.s.now c.args.s.now)) b.rows
    ∙ pair_across (same_name c.args.s.now c.args.s.now) _ _ b.apart (sym c.against.ensures ∙ c.if-against.true))
    ∙ c.loop-left.invariant.0

pub loop-left-smaller : goal.loop-left-smaller
loop-left-smaller c =
    let b = (subst (Filled c.args.size c.args.s.now c.loop-left.left c.loop-left.p.at c.fill-answer.new.filter) c.in-Next.is c.fill-answer.ensures) in
    b.falls c.loop-left-test.true

pub loop-left-preserved : goal.loop-left-preserved
loop-left-preserved c =
    let b = (subst (Filled c.args.size c.args.s.now c.loop-left.left c.loop-left.p.at c.fill-answer.new.filter) c.in-Next.is c.fill-answer.ensures) in (
      sym (ap (any_pair (same_name c.args.s.now c.args.s.now)) b.rows
          ∙ pair_rest (same_name c.args.s.now c.args.s.now) _ _ b.apart (sym c.against.ensures ∙ c.if-against.false))
          ∙ c.loop-left.invariant.0,
      (b.others, c.against.auto.filter ∙ c.fill-answer.auto.filter ∙ c.clear.auto.work ∙ c.loop-left.invariant.1.1),
    )

pub shape_of-filter : goal.shape_of-filter
shape_of-filter c = c.loop-left.invariant.1.1

pub returns : goal.returns
unfolding any_pair
returns c =
    ap (any_pair (same_name c.args.s.now c.args.s.now)) (sym (none_spent curly c.args.s.now c.loop-left.left c.loop-left.p.at (omega arith)))
    ∙ c.loop-left.invariant.0
