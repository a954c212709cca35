-- `part` gives the octets at a place, and points there: each of its tests settles whether the place fits.
use Prim.Native.Nat.{ℕ, ◌+◌, ◌-◌}
use mathlib.Core.Path.{◌≡◌, ap, sym, ◌∙◌}
use native.Mathlib.Omega.{arith}
use lib.ListN.{take, drop}
use Rattle.parts.proofs.Laws.{part_fits, part_empty, part_at_fits, part_at_empty}
use Rattle.parts.proofs.part.Goals as goal

pub returns-then-n-start : goal.returns-then-n-start
returns-then-n-start c =
    let given = c.args in
    record {
      octets = sym (part_empty given.s.now given.start given.len (omega arith));
      place = sym (part_at_empty given.s given.start given.len (omega arith));
    }

pub returns-then-n-start-2 : goal.returns-then-n-start-2
returns-then-n-start-2 c =
    let given = c.args in
    record {
      octets = sym (part_empty given.s.now given.start given.len (omega arith));
      place = sym (part_at_empty given.s given.start given.len (omega arith));
    }

pub returns : goal.returns
returns c =
    let given = c.args in
    let size : given.start + given.len - given.start ≡ given.len = omega arith in
    let offset : given.start + given.s.ref_ptr.1 ≡ given.s.ref_ptr.1 + given.start = omega arith in
    record {
      octets = ap (λ (n : ℕ). take n (drop given.start given.s.now)) size
          ∙ sym (part_fits given.s.now given.start given.len (omega arith));
      place = ap (λ (n : ℕ). (given.s.ref_ptr.0, n)) offset
          ∙ sym (part_at_fits given.s given.start given.len (omega arith));
    }
