-- Whether one of the right members from here on has the name stays the answer.
use mathlib.Core.Path.{refl, ap, sym, ◌∙◌}
use native.Mathlib.Omega.{arith}
use Rattle.grammar.specs.Grammar.{curly}
use Rattle.prelude.specs.Any.{any}
use Rattle.distinct.specs.Names.{same_name}
use Rattle.distinct.specs.Inner.Walking.{row_member}
use Rattle.distinct.proofs.Walks.{members_all, of_any, walk_spent, walk_end, walk_on}
use Rattle.pairs.proofs.Spots.{spot_start, spot_known, spot_next, spot_partner}
use Rattle.pairs.proofs.scan.Goals as goal

pub loop-left-init : goal.loop-left-init
loop-left-init c = (
  ap (any (same_name c.args.s.now c.args.t.now (row_member c.args.row)))
      (members_all c.args.t.now c.args.at c.inside-p.result.at c.inside-p.ensures),
  spot_start c.args.t.now c.args.at c.inside-p.result.at c.inside-p.ensures c.requires,
)

pub member-requires : goal.member-requires
member-requires c =
    spot_known _ c.args.at c.loop-left.left c.loop-left.p.at c.loop-left.invariant.1 c.loop-left-test.true

pub returns-in_default : goal.returns-in_default
returns-in_default c =
    sym (walk_end (of_any _) _ curly _ c.loop-left.left c.loop-left.p.at c.loop-left.invariant.0 c.loop-left-test.true
    c.in_default.ensures)

pub returns-then-same_name : goal.returns-then-same_name
returns-then-same_name c = (
  spot_partner c.args.t.now c.args.at c.loop-left.left c.loop-left.p.at c.loop-left.invariant.1 c.loop-left-test.true
      c.in-Some.found.row c.in-Some.found.next c.in-Some.ensures c.args.s.now _
      (sym c.same_name.ensures ∙ c.if-same_name.true),
  refl,
)

pub loop-left-preserved : goal.loop-left-preserved
loop-left-preserved c = (
  walk_on (of_any _) _ curly _ c.loop-left.left c.loop-left.p.at c.loop-left.invariant.0 c.loop-left-test.true
      c.in-Some.found.row c.in-Some.found.next c.in-Some.ensures
      (sym c.same_name.ensures ∙ c.if-same_name.false),
  spot_next c.args.t.now c.args.at c.loop-left.left c.loop-left.p.at c.loop-left.invariant.1 c.loop-left-test.true
      c.in-Some.found.row c.in-Some.found.next c.in-Some.ensures,
)

pub returns : goal.returns
returns c =
    sym (walk_spent (of_any _) _ curly _ c.loop-left.left c.loop-left.p.at c.loop-left.invariant.0 (omega (arith, c.loop-left-test.false)))
