-- `fill` has the entries of the rows so far in its table, and those of the rows from the next one on to come.
use Prim.Native.Nat.{◌+◌, ◌-◌, ◌*◌}
use lib.ListN.{drop}
use Rattle.names.specs.Names.{names}
use Rattle.prelude.proofs.Writing.{Writing}
use Rattle.rows.specs.Rows.{entries_in}
use Rattle.rows.specs.Tables.{width}
use Rattle.rows.specs.Inner.Members.{members_of}
use Rattle.rows.specs.Inner.Prints.{flat}
use Rattle.json_read.specs.Members.{member_width}
use Rattle.rows.proofs.collect.fill.Given as goal

abbrev pub invariant-loop-i : goal.invariant-loop-i
invariant-loop-i l =
    Writing (l.from * width) (flat l.text (entries_in (names l.list) l.text l.origin (members_of l.count l.rows))) l.initial.table
    (flat l.text (entries_in (names l.list) l.text l.origin (members_of (l.count - l.i) (drop (l.i * member_width) l.rows))))
    ((l.from + l.i) * width) l.table
