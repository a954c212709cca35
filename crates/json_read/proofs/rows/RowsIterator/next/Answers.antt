-- `next` gives the first of those that are left, and leaves the others.
use Prim.Native.Nat.{◌<◌}
use mathlib.Core.Path.{ap}
use native.Mathlib.Omega.{arith}
use lib.ListN.{length}
use borrow.Author.Rules.{rules}
use Rattle.json_read.specs.Members.{bracket_of}
use Rattle.json_read.proofs.MemberRows.{rows_none, rows_spent}
use Rattle.json_read.proofs.RowsLeft.{given_entry, given_more, row_more}
use Rattle.json_read.proofs.rows.RowsIterator.next.Goals as goal

pub returns-then-self-eq0-clause-steps : goal.returns-then-self-eq0-clause-steps
returns-then-self-eq0-clause-steps c =
    let e = c.args.self.now in
    let none = rows_spent (bracket_of e.array) e.text.now e.levels e.left e.at.at c.if-self-eq0.true in
    (none, none)

pub here-requires : goal.here-requires
here-requires c =
    let e = c.args.self.now in
    given_entry (bracket_of e.array) e.levels e.text.now e.left e.at.at (omega arith) e.judged e.known

pub returns-in_err-found-clause-steps : goal.returns-in_err-found-clause-steps
returns-in_err-found-clause-steps c =
    let e = c.args.self.now in
    let some : 0 < e.left = omega arith in
    let none = rows_none (bracket_of e.array) e.text.now e.levels e.left e.at.at some c.in_err-found.ensures in
    rw c.from_residual.ensures (none, none)

pub invariant_of-self : goal.invariant_of-self
invariant_of-self c =
    let e = c.args.self.now in
    let found = c.in_ok-found.found in
    record {
      known =
          given_more (bracket_of e.array) e.levels e.text.now e.left e.at.at (omega arith) found.row found.next
          c.in_ok-found.ensures e.judged e.known;
    }

pub returns-clause-steps : goal.returns-clause-steps
returns-clause-steps c =
    let e = c.args.self.now in
    let found = c.in_ok-found.found in
    row_more (bracket_of e.array) e.levels e.text.now e.left e.at.at (omega arith) found.row found.next c.in_ok-found.ensures

pub returns-clause-goes : goal.returns-clause-goes
returns-clause-goes c =
    let e = c.args.self.now in
    let found = c.in_ok-found.found in
    let some : 0 < e.left = omega arith in
    let shorter =
    ap length (row_more (bracket_of e.array) e.levels e.text.now e.left e.at.at some found.row found.next c.in_ok-found.ensures) in
    search rules
