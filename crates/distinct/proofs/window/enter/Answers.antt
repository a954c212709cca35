-- A free place takes the tag; where none is free, or the tag is there, it may have been entered.
use mathlib.Core.Path.{subst}
use Prim.Native.Nat.{◌*◌}
use native.Mathlib.Omega.{arith}
use Rattle.distinct.specs.Inner.Filter.{Looked}
use Rattle.distinct.proofs.Windows.{entered_taken, entered_kept, entered_not}
use Rattle.distinct.proofs.window.enter.Goals as goal

pub returns-in_default : goal.returns-in_default
returns-in_default c =
    entered_taken c.args.size c.args.filter.now c.args.v c.start.result c.start.ensures.0 c.requires.v_nonzero c.args.keep
    (subst (Looked c.args.filter.now c.start.result (4 * c.args.size) c.args.v) c.in_default.is c.look-slot.ensures)

pub offset_bounds-filter-k : goal.offset_bounds-filter-k
offset_bounds-filter-k c =
    let l = (subst (Looked c.args.filter.now c.start.result (4 * c.args.size) c.args.v) c.in-Free.is c.look-slot.ensures) in
    omega (arith, c.start.ensures.1, l.below)

pub bounds-filter-k : goal.bounds-filter-k
bounds-filter-k c =
    let l = (subst (Looked c.args.filter.now c.start.result (4 * c.args.size) c.args.v) c.in-Free.is c.look-slot.ensures) in
    omega (arith, c.start.ensures.1, l.below, c.requires.size_nonzero.1)

pub returns-then-keep : goal.returns-then-keep
returns-then-keep c =
    let l = (subst (Looked c.args.filter.now c.start.result (4 * c.args.size) c.args.v) c.in-Free.is c.look-slot.ensures) in
    entered_kept c.args.size c.args.filter.now c.args.v c.start.result c.start.ensures.0 c.requires.v_nonzero c.in-Free.k l c.args.keep (omega (arith, c.start.ensures.1, l.below, c.requires.size_nonzero.1))

pub returns-else-keep : goal.returns-else-keep
returns-else-keep c =
    entered_not c.args.size c.args.filter.now c.args.v c.start.result c.start.ensures.0 c.requires.v_nonzero c.in-Free.k
    (subst (Looked c.args.filter.now c.start.result (4 * c.args.size) c.args.v) c.in-Free.is c.look-slot.ensures)
    c.args.keep c.if-keep.false
