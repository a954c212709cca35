-- A first half adds nothing, and is passed over.
use Prim.Native.Nat.{◌-◌, ◌≤◌}
use mathlib.Core.Path.{◌≡◌}
use lib.ListN.{length}
use Rattle.spelling.specs.Inner.Cursors.{rest, size}
use Rattle.spelling.proofs.cursor.Cursor.escaped.Given as goal

abbrev pub invariant-loop-self : goal.invariant-loop-self
invariant-loop-self l = record {
  same : rest l.initial.self ≡ rest l.self;
  no_more : size l.self ≤ size l.initial.self;
  none : l.self.left ≤ 0;
}

abbrev pub decreases-loop-self : goal.decreases-loop-self
decreases-loop-self l = length l.self.text.now - l.self.at
