-- The levels fall from an object or an array to the values in it; a value is above the object or the array that it is.
-- In a loop, what remains to be read from here is what the whole reads.
use Prim.Native.Nat.{◌+◌, ◌-◌, ◌*◌}
use mathlib.Core.Path.{◌≡◌}
use Rattle.grammar.specs.Grammar.{curly, square}
use Rattle.grammar.specs.Reader.{entries_at, value_at}
use Rattle.json_read.proofs.Position.+array_object_value.Given as goal

abbrev pub decreases-array : goal.decreases-array
decreases-array l = 2 * l.levels

abbrev pub decreases-object : goal.decreases-object
decreases-object l = 2 * l.levels

abbrev pub decreases-value : goal.decreases-value
decreases-value l = 2 * l.levels + 1

abbrev pub invariant-array-loop-left : goal.invariant-array-loop-left
invariant-array-loop-left l =
    entries_at (value_at (l.levels - 1) l.s) square l.s l.left l.p.at
    ≡ entries_at (value_at (l.levels - 1) l.s) square l.s l.initial.left l.initial.p.at

abbrev pub decreases-array-loop-left : goal.decreases-array-loop-left
decreases-array-loop-left l = l.left

abbrev pub invariant-object-loop-left : goal.invariant-object-loop-left
invariant-object-loop-left l =
    entries_at (value_at (l.levels - 1) l.s) curly l.s l.left l.p.at
    ≡ entries_at (value_at (l.levels - 1) l.s) curly l.s l.initial.left l.initial.p.at

abbrev pub decreases-object-loop-left : goal.decreases-object-loop-left
decreases-object-loop-left l = l.left
