-- At the cursor, and then where the table says. Where there is no window, nothing is asked of the table.
use mathlib.Core.Path.{subst}
use native.Mathlib.Omega.{arith}
use Rattle.distinct.specs.Inner.Walking.{row_member}
use Rattle.pairs.specs.Inner.Walks.{Near}
use Rattle.pairs.proofs.Tables.{near_finds, scanned_finds}
use Rattle.pairs.proofs.find.Goals as goal

pub scan-requires : goal.scan-requires
scan-requires c = c.requires.known_in

pub returns-then-t-n : goal.returns-then-t-n
returns-then-t-n c =
    scanned_finds c.args.s.now c.args.t.now c.args.at c.args.size c.args.work.now
    (row_member c.args.row) c.args.size (λ h. absurd (omega (arith, h))) c.scan.result c.scan.ensures

pub near-found-requires : goal.near-found-requires
near-found-requires c =
    record {
      spot = c.requires.going.cursor;
      at_in_bounds = omega (arith, c.if-t-n.false, c.requires.n_value);
    }

pub search-requires : goal.search-requires
search-requires c =
    record {
      known_in = c.requires.known_in;
      at_in_bounds = omega (arith, c.if-t-n.false, c.requires.n_value);
      size_in_bounds = c.requires.size_in_bounds;
      going = c.requires.going;
    }

pub shape_of-work-in_default : goal.shape_of-work-in_default
shape_of-work-in_default c = c.search.auto.work

pub returns-in_default : goal.returns-in_default
returns-in_default c = c.search.ensures

pub returns : goal.returns
returns c =
    near_finds c.args.s.now c.args.t.now c.args.at c.args.size c.args.work.now
    (row_member c.args.row) c.args.walk.number c.requires.going.table _ _ _
    (subst (Near c.args.s.now c.args.t.now c.args.at (row_member c.args.row) c.args.walk.number) c.in-Named.is c.near-found.ensures)
