-- `put` writes the three numbers of a recipient: three stores.
use Prim.Native.Nat.{◌+◌}
use mathlib.Core.Path.{refl}
use native.Mathlib.Omega.{arith}
use lib.ListN.{length-set}
use Rattle.prelude.proofs.Writing.{begin_as, put, done}
use Rattle.rows.specs.Inner.Views.{the_entries}
use Rattle.shape.specs.Shape.{recipient_of}
use Rattle.shape.specs.Inner.Answers.{three}
use Rattle.shape.proofs.Numbers.{recipient_numbers}
use Rattle.shape.proofs.element.put.Goals as goal

pub bounds-into-at-2 : goal.bounds-into-at-2
bounds-into-at-2 c = simp length-set (omega arith)

pub bounds-into-at-3 : goal.bounds-into-at-3
bounds-into-at-3 c = simp length-set (omega arith)

pub returns : goal.returns
returns c =
    let at = c.args.at in
    let es = the_entries c.args.members in
    let is = recipient_numbers es _ _ _ c.value_of-header.ensures.start_value c.component-key.ensures in
    let opened = begin_as at (three (recipient_of es)) _ c.args.into.now is c.requires in
    let one = put _ (at + 1) refl opened in
    let two = put _ (at + 2) (omega arith) one in
    done (put _ (at + 3) (omega arith) two)
