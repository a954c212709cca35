-- A step of the walk.
use mathlib.Core.Path.{subst}
use Prim.Native.Nat.{◌-◌}
use native.Mathlib.Omega.{arith}
use Rattle.grammar.specs.Grammar.{curly}
use Rattle.distinct.specs.Inner.Walking.{row_member, rows_from}
use Rattle.distinct.proofs.Walks.{none_spent, none_here, entry_known, row_more, known_more}
use Rattle.pairs.specs.Inner.Walks.{Finds}
use Rattle.pairs.proofs.next.Goals as goal

pub returns-then-walk-eq0 : goal.returns-then-walk-eq0
returns-then-walk-eq0 c =
    none_spent curly c.args.s.now c.args.walk.left c.args.walk.at.at c.if-walk-eq0.true

pub member-requires : goal.member-requires
member-requires c =
    entry_known curly c.args.s.now c.args.walk.left c.args.walk.at.at (omega (arith, c.if-walk-eq0.false)) c.requires.going.known

pub returns-in_default : goal.returns-in_default
returns-in_default c =
    none_here curly c.args.s.now c.args.walk.left c.args.walk.at.at (omega (arith, c.if-walk-eq0.false))
    c.in_default.ensures

pub find-found-requires : goal.find-found-requires
find-found-requires c =
    record {
      known_in = c.requires.known_in;
      n_value = c.requires.n_value;
      size_in_bounds = c.requires.size_in_bounds;
      going = c.requires.going;
    }

pub shape_of-work-in_default-found : goal.shape_of-work-in_default-found
shape_of-work-in_default-found c = c.find-found.auto.work

pub returns-in_default-found : goal.returns-in_default-found
returns-in_default-found c =
    record {
      one = row_member c.in-Some.here.row;
      others = rows_from curly c.args.s.now (c.args.walk.left - 1) c.in-Some.here.next.at;
      rows =
          row_more curly c.args.s.now c.args.walk.left c.args.walk.at.at (omega (arith, c.if-walk-eq0.false)) c.in-Some.here.row
          c.in-Some.here.next c.in-Some.ensures;
      none =
          subst (Finds c.args.s.now c.args.t.now c.args.at c.args.size c.find-found.new.work
          (row_member c.in-Some.here.row)) c.in_default-found.is c.find-found.ensures;
    }

pub shape_of-work : goal.shape_of-work
shape_of-work c =
    c.find-found.auto.work

pub returns : goal.returns
returns c =
    let f =
    subst (Finds c.args.s.now c.args.t.now c.args.at c.args.size c.find-found.new.work
    (row_member c.in-Some.here.row)) c.in-Named.is c.find-found.ensures in
    let told = c.in-Some.ensures in
    record {
      rows =
          row_more curly c.args.s.now c.args.walk.left c.args.walk.at.at (omega (arith, c.if-walk-eq0.false)) c.in-Some.here.row
          c.in-Some.here.next told;
      falls = omega (arith, c.if-walk-eq0.false);
      partner = f.0;
      going = record {
        known =
            known_more curly c.args.s.now c.args.walk.left c.args.walk.at.at (omega (arith, c.if-walk-eq0.false)) c.in-Some.here.row
            c.in-Some.here.next told c.requires.going.known;
        cursor = f.0.on;
        table = λ h. f.1 (c.after.ensures h);
      };
    }
