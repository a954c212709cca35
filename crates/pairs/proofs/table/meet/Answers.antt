-- Each right member's position is left for a number, or not.
use mathlib.Core.Path.{refl, ◌∙◌}
use native.Mathlib.Omega.{arith}
use Rattle.pairs.proofs.Spots.{spot_start, spot_known, spot_next}
use Rattle.pairs.proofs.Tables.{table_left}
use Rattle.pairs.proofs.table.meet.Goals as goal

pub loop-left-init : goal.loop-left-init
loop-left-init c = (
  spot_start c.args.t.now c.args.at c.inside-p.result.at c.inside-p.ensures c.requires.known_in,
  (refl, c.requires.table),
)

pub member-requires : goal.member-requires
member-requires c =
    spot_known _ c.args.at c.loop-left.left c.loop-left.p.at c.loop-left.invariant.0 c.loop-left-test.true

pub shape_of-work-in_default : goal.shape_of-work-in_default
shape_of-work-in_default c = c.loop-left.invariant.1.0

pub returns-in_default : goal.returns-in_default
returns-in_default c = c.loop-left.invariant.1.1

pub look-number-requires : goal.look-number-requires
look-number-requires c =
    (c.requires.size_nonzero.0, omega (arith, c.loop-left.invariant.1.0, c.requires.size_nonzero.1))

pub store-requires : goal.store-requires
store-requires c = omega (arith, c.loop-left.invariant.1.0, c.requires.size_nonzero.1)

pub loop-left-preserved : goal.loop-left-preserved
loop-left-preserved c = (
  spot_next c.args.t.now c.args.at c.loop-left.left c.loop-left.p.at c.loop-left.invariant.0 c.loop-left-test.true
      c.in-Some.found.row c.in-Some.found.next c.in-Some.ensures,
  (
    c.store.auto.work ∙ c.loop-left.invariant.1.0,
    table_left c.args.t.now c.args.at c.args.size c.loop-left.p.at c.loop-left.work c.store.new.work
        (record { turns = c.loop-left.left; spot = c.loop-left.invariant.0 }) c.store.ensures c.loop-left.invariant.1.1,
  ),
)

pub shape_of-work : goal.shape_of-work
shape_of-work c = c.loop-left.invariant.1.0

pub returns : goal.returns
returns c = c.loop-left.invariant.1.1
