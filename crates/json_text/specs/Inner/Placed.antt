-- What stands in a text, where the text itself stands m octets further on: every place moved by m.
use Rattle.std.proofs.Math.Option.{Option, none, some}
use Rattle.std.specs.Prelude.{ℕ, ◌+◌}
use Rattle.grammar.specs.Places.{Place, Placed, item, Parts, done, part, Element}

abbrev pub moved_place : ℕ → Place → Place
moved_place m q = record { start = m + q.start; size = q.size }

abbrev pub moved_name : ℕ → Option Place → Option Place
moved_name m none = none
moved_name m (some q) = some (moved_place m q)

unfoldable mutual
  -- A value, and parts, with everything in them.
  pub moved : ℕ → Placed → Placed
  moved m (item k q ps) = item k (moved_place m q) (moved_parts m ps)

  pub moved_parts : ℕ → Parts → Parts
  moved_parts m done = done
  moved_parts m (part name v ps) = part (moved_name m name) (moved m v) (moved_parts m ps)

-- The row of an element.
abbrev pub moved_element : ℕ → Element → Element
moved_element m x = record { start = m + x.start; size = x.size; kind = x.kind }
