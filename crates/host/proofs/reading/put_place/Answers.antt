-- `put_place` writes a place's two numbers: two stores.
use mathlib.Core.List.{[]}
use mathlib.Core.Path.{refl}
use Prim.Native.Nat.{◌+◌}
use native.Mathlib.Omega.{arith}
use lib.ListN.{length-set}
use Rattle.prelude.proofs.Writing.{begin, put, done}
use Rattle.jwe.specs.Answers.{place_numbers}
use Rattle.host.proofs.reading.put_place.Goals as goal

pub overflow_cast-into : goal.overflow_cast-into
overflow_cast-into c = record { fits = c.requires.start_lt_number_limit }

pub overflow_cast-into-2 : goal.overflow_cast-into-2
overflow_cast-into-2 c = record { fits = c.requires.len_lt_number_limit }

pub bounds-into-at-2 : goal.bounds-into-at-2
bounds-into-at-2 c = simp length-set (omega arith)

pub shape_of-into : goal.shape_of-into
shape_of-into c = simp length-set

pub returns : goal.returns
returns c =
    let at = c.args.at in
    let opened = begin at (place_numbers c.args.place []) c.args.into.now c.requires.at_in_bounds in
    done (put _ (at + 2) (omega arith) (put _ (at + 1) refl opened))
