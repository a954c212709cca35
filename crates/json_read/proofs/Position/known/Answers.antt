-- `known` seeks the end of an object or an array, and reads any other value: what is known makes the two one.
use mathlib.Core.Path.{ap}
use Rattle.json_read.specs.Inner.Ends.{found_of}
use Rattle.json_read.proofs.Knowing.{sought_object, sought_array}
use Rattle.json_read.proofs.Position.known.Goals as goal

pub returns-then-c-eq123 : goal.returns-then-c-eq123
returns-then-c-eq123 c =
    ap found_of
    (sought_object c.args.levels c.args.s.now c.args.self.at c.peek-c.result c.peek-c.ensures
    c.requires c.if-c-eq123.true c.step-inside.result.at c.past-at.result c.step-inside.ensures
    c.past-at.ensures)

pub returns-then-c-eq91 : goal.returns-then-c-eq91
returns-then-c-eq91 c =
    ap found_of
    (sought_array c.args.levels c.args.s.now c.args.self.at c.peek-c.result c.peek-c.ensures
    c.requires c.if-c-eq123.false c.if-c-eq91.true c.step-inside-then-c-eq91.result.at
    c.past-at-then-c-eq91.result c.step-inside-then-c-eq91.ensures c.past-at-then-c-eq91.ensures)

pub returns : goal.returns
returns c = c.value.ensures
