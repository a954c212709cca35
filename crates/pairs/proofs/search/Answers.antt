-- Where the table says, and then along all.
use mathlib.Core.Path.{subst}
use native.Mathlib.Omega.{arith}
use Rattle.distinct.specs.Inner.Walking.{row_member}
use Rattle.pairs.specs.Inner.Walks.{Near}
use Rattle.pairs.proofs.Tables.{near_finds, scanned_finds}
use Rattle.pairs.proofs.search.Goals as goal

pub window-number-requires : goal.window-number-requires
window-number-requires c =
    record {
      known_from = c.requires.going.known;
      known_in = c.requires.known_in;
      size_in_bounds = c.requires.size_in_bounds;
      table = c.requires.going.table;
    }

pub held-found-requires : goal.held-found-requires
held-found-requires c =
    record {
      at_in_bounds = c.requires.at_in_bounds;
      size_in_bounds = omega (arith, c.requires.size_in_bounds, c.window-number.auto.work);
      table = c.window-number.ensures;
    }

pub scan-requires : goal.scan-requires
scan-requires c = c.requires.known_in

pub shape_of-work-in_default : goal.shape_of-work-in_default
shape_of-work-in_default c = c.window-number.auto.work

pub returns-in_default : goal.returns-in_default
returns-in_default c =
    scanned_finds c.args.s.now c.args.t.now c.args.at c.args.size c.window-number.new.work (row_member c.args.row)
    c.window-number.result c.window-number.ensures c.scan.result c.scan.ensures

pub shape_of-work : goal.shape_of-work
shape_of-work c = c.window-number.auto.work

pub returns : goal.returns
returns c =
    near_finds c.args.s.now c.args.t.now c.args.at c.args.size c.window-number.new.work (row_member c.args.row)
    c.window-number.result c.window-number.ensures _ _ _
    (subst (Near c.args.s.now c.args.t.now c.args.at (row_member c.args.row) c.window-number.result) c.in-Named.is c.held-found.ensures)
