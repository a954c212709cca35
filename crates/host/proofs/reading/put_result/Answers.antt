-- `put_result` writes a result's eighteen numbers: four stores, the six places, two stores. Before each place stands what
-- is written and what is still to come.
use mathlib.Core.List.{List, []}
use mathlib.Core.Path.{refl}
use Prim.Native.Nat.{ℕ, ◌≤◌}
use native.Mathlib.Omega.{arith}
use lib.ListN.{length, drop, set, length-set}
use Rattle.prelude.proofs.Writing.{Writing, begin, put, put_part, done}
use Rattle.jwe.specs.Answers.{numbers, place_numbers}
use Rattle.jwe.proofs.Small.{recipients_small, header_small, parameters_small}
use Rattle.jwe.proofs.Small.{protected_small, key_small, iv_small, aad_small, ciphertext_small, tag_small}
use Rattle.jwe.specs.Answers.{reading_of}
use Rattle.host.proofs.reading.put_result.Goals as goal

-- A buffer that is being written has the room it had.
within : (n : ℕ) {xs before rest now : List ℕ} {j : ℕ} → Writing 0 xs before rest j now → 18 ≤ length before → n ≤ 18 →
    n ≤ length now
within n w h l = omega (arith, w.same, h, l)

pub bounds-into-1 : goal.bounds-into-1
bounds-into-1 c = simp length-set (omega arith)

pub overflow_cast-into : goal.overflow_cast-into
overflow_cast-into c = record { fits = recipients_small (reading_of c.args.r) c.requires.all_below }

pub bounds-into-2 : goal.bounds-into-2
bounds-into-2 c = simp length-set (omega arith)

pub bounds-into-3 : goal.bounds-into-3
bounds-into-3 c = simp length-set (omega arith)

pub put_place-requires : goal.put_place-requires
put_place-requires c =
    let wrote-1 : (let r = c.args.r in
    let into = c.args.into.now in
    (let all = numbers (reading_of c.args.r) in Writing 0 all c.args.into.now (drop 4 all) 4 (set (set (set (set into 0 0) 1 r.form) 2 r.recipients) 3 r.mode))) = (let opened = begin 0 (numbers (reading_of c.args.r)) c.args.into.now c.requires.result_room_in_bounds in
    put _ 4 refl (put _ 3 refl (put _ 2 refl (put _ 1 refl opened)))) in
    let small = protected_small (reading_of c.args.r) c.requires.all_below in
    record {
      start_lt_number_limit = small.0;
      len_lt_number_limit = small.1;
      at_in_bounds = within 6 (wrote-1) c.requires.result_room_in_bounds (omega arith);
    }

pub put_place-requires-2 : goal.put_place-requires-2
put_place-requires-2 c =
    let wrote-1 : (let r = c.args.r in
    let into = c.args.into.now in
    (let all = numbers (reading_of c.args.r) in Writing 0 all c.args.into.now (drop 4 all) 4 (set (set (set (set into 0 0) 1 r.form) 2 r.recipients) 3 r.mode))) = (let opened = begin 0 (numbers (reading_of c.args.r)) c.args.into.now c.requires.result_room_in_bounds in
    put _ 4 refl (put _ 3 refl (put _ 2 refl (put _ 1 refl opened)))) in
    let wrote-2 : (let all = numbers (reading_of c.args.r) in Writing 0 all c.args.into.now (drop 6 all) 6 c.put_place.new.into) = put_part (place_numbers (reading_of c.args.r).components.protected []) _ refl (wrote-1) refl
    c.put_place.ensures in
    let small = key_small (reading_of c.args.r) c.requires.all_below in
    record {
      start_lt_number_limit = small.0;
      len_lt_number_limit = small.1;
      at_in_bounds = within 8 (wrote-2) c.requires.result_room_in_bounds (omega arith);
    }

pub put_place-requires-3 : goal.put_place-requires-3
put_place-requires-3 c =
    let wrote-1 : (let r = c.args.r in
    let into = c.args.into.now in
    (let all = numbers (reading_of c.args.r) in Writing 0 all c.args.into.now (drop 4 all) 4 (set (set (set (set into 0 0) 1 r.form) 2 r.recipients) 3 r.mode))) = (let opened = begin 0 (numbers (reading_of c.args.r)) c.args.into.now c.requires.result_room_in_bounds in
    put _ 4 refl (put _ 3 refl (put _ 2 refl (put _ 1 refl opened)))) in
    let wrote-2 : (let all = numbers (reading_of c.args.r) in Writing 0 all c.args.into.now (drop 6 all) 6 c.put_place.new.into) = put_part (place_numbers (reading_of c.args.r).components.protected []) _ refl (wrote-1) refl
    c.put_place.ensures in
    let wrote-3 : (let all = numbers (reading_of c.args.r) in Writing 0 all c.args.into.now (drop 8 all) 8 c.put_place-2.new.into) = put_part (place_numbers (reading_of c.args.r).components.key []) _ refl (wrote-2) refl
    c.put_place-2.ensures in
    let small = iv_small (reading_of c.args.r) c.requires.all_below in
    record {
      start_lt_number_limit = small.0;
      len_lt_number_limit = small.1;
      at_in_bounds = within 10 (wrote-3) c.requires.result_room_in_bounds (omega arith);
    }

pub put_place-requires-4 : goal.put_place-requires-4
put_place-requires-4 c =
    let wrote-1 : (let r = c.args.r in
    let into = c.args.into.now in
    (let all = numbers (reading_of c.args.r) in Writing 0 all c.args.into.now (drop 4 all) 4 (set (set (set (set into 0 0) 1 r.form) 2 r.recipients) 3 r.mode))) = (let opened = begin 0 (numbers (reading_of c.args.r)) c.args.into.now c.requires.result_room_in_bounds in
    put _ 4 refl (put _ 3 refl (put _ 2 refl (put _ 1 refl opened)))) in
    let wrote-2 : (let all = numbers (reading_of c.args.r) in Writing 0 all c.args.into.now (drop 6 all) 6 c.put_place.new.into) = put_part (place_numbers (reading_of c.args.r).components.protected []) _ refl (wrote-1) refl
    c.put_place.ensures in
    let wrote-3 : (let all = numbers (reading_of c.args.r) in Writing 0 all c.args.into.now (drop 8 all) 8 c.put_place-2.new.into) = put_part (place_numbers (reading_of c.args.r).components.key []) _ refl (wrote-2) refl
    c.put_place-2.ensures in
    let wrote-4 : (let all = numbers (reading_of c.args.r) in Writing 0 all c.args.into.now (drop 10 all) 10 c.put_place-3.new.into) = put_part (place_numbers (reading_of c.args.r).components.iv []) _ refl (wrote-3) refl
    c.put_place-3.ensures in
    let small = aad_small (reading_of c.args.r) c.requires.all_below in
    record {
      start_lt_number_limit = small.0;
      len_lt_number_limit = small.1;
      at_in_bounds = within 12 (wrote-4) c.requires.result_room_in_bounds (omega arith);
    }

pub put_place-requires-5 : goal.put_place-requires-5
put_place-requires-5 c =
    let wrote-1 : (let r = c.args.r in
    let into = c.args.into.now in
    (let all = numbers (reading_of c.args.r) in Writing 0 all c.args.into.now (drop 4 all) 4 (set (set (set (set into 0 0) 1 r.form) 2 r.recipients) 3 r.mode))) = (let opened = begin 0 (numbers (reading_of c.args.r)) c.args.into.now c.requires.result_room_in_bounds in
    put _ 4 refl (put _ 3 refl (put _ 2 refl (put _ 1 refl opened)))) in
    let wrote-2 : (let all = numbers (reading_of c.args.r) in Writing 0 all c.args.into.now (drop 6 all) 6 c.put_place.new.into) = put_part (place_numbers (reading_of c.args.r).components.protected []) _ refl (wrote-1) refl
    c.put_place.ensures in
    let wrote-3 : (let all = numbers (reading_of c.args.r) in Writing 0 all c.args.into.now (drop 8 all) 8 c.put_place-2.new.into) = put_part (place_numbers (reading_of c.args.r).components.key []) _ refl (wrote-2) refl
    c.put_place-2.ensures in
    let wrote-4 : (let all = numbers (reading_of c.args.r) in Writing 0 all c.args.into.now (drop 10 all) 10 c.put_place-3.new.into) = put_part (place_numbers (reading_of c.args.r).components.iv []) _ refl (wrote-3) refl
    c.put_place-3.ensures in
    let wrote-5 : (let all = numbers (reading_of c.args.r) in Writing 0 all c.args.into.now (drop 12 all) 12 c.put_place-4.new.into) = put_part (place_numbers (reading_of c.args.r).components.aad []) _ refl (wrote-4) refl
    c.put_place-4.ensures in
    let small = ciphertext_small (reading_of c.args.r) c.requires.all_below in
    record {
      start_lt_number_limit = small.0;
      len_lt_number_limit = small.1;
      at_in_bounds = within 14 (wrote-5) c.requires.result_room_in_bounds (omega arith);
    }

pub put_place-requires-6 : goal.put_place-requires-6
put_place-requires-6 c =
    let wrote-1 : (let r = c.args.r in
    let into = c.args.into.now in
    (let all = numbers (reading_of c.args.r) in Writing 0 all c.args.into.now (drop 4 all) 4 (set (set (set (set into 0 0) 1 r.form) 2 r.recipients) 3 r.mode))) = (let opened = begin 0 (numbers (reading_of c.args.r)) c.args.into.now c.requires.result_room_in_bounds in
    put _ 4 refl (put _ 3 refl (put _ 2 refl (put _ 1 refl opened)))) in
    let wrote-2 : (let all = numbers (reading_of c.args.r) in Writing 0 all c.args.into.now (drop 6 all) 6 c.put_place.new.into) = put_part (place_numbers (reading_of c.args.r).components.protected []) _ refl (wrote-1) refl
    c.put_place.ensures in
    let wrote-3 : (let all = numbers (reading_of c.args.r) in Writing 0 all c.args.into.now (drop 8 all) 8 c.put_place-2.new.into) = put_part (place_numbers (reading_of c.args.r).components.key []) _ refl (wrote-2) refl
    c.put_place-2.ensures in
    let wrote-4 : (let all = numbers (reading_of c.args.r) in Writing 0 all c.args.into.now (drop 10 all) 10 c.put_place-3.new.into) = put_part (place_numbers (reading_of c.args.r).components.iv []) _ refl (wrote-3) refl
    c.put_place-3.ensures in
    let wrote-5 : (let all = numbers (reading_of c.args.r) in Writing 0 all c.args.into.now (drop 12 all) 12 c.put_place-4.new.into) = put_part (place_numbers (reading_of c.args.r).components.aad []) _ refl (wrote-4) refl
    c.put_place-4.ensures in
    let wrote-6 : (let all = numbers (reading_of c.args.r) in Writing 0 all c.args.into.now (drop 14 all) 14 c.put_place-5.new.into) = put_part (place_numbers (reading_of c.args.r).components.ciphertext []) _ refl (wrote-5) refl
    c.put_place-5.ensures in
    let small = tag_small (reading_of c.args.r) c.requires.all_below in
    record {
      start_lt_number_limit = small.0;
      len_lt_number_limit = small.1;
      at_in_bounds = within 16 (wrote-6) c.requires.result_room_in_bounds (omega arith);
    }

pub overflow_cast-into-2 : goal.overflow_cast-into-2
overflow_cast-into-2 c =
    record { fits = header_small (reading_of c.args.r) c.requires.all_below }

pub bounds-into-16 : goal.bounds-into-16
bounds-into-16 c =
    let wrote-1 : (let r = c.args.r in
    let into = c.args.into.now in
    (let all = numbers (reading_of c.args.r) in Writing 0 all c.args.into.now (drop 4 all) 4 (set (set (set (set into 0 0) 1 r.form) 2 r.recipients) 3 r.mode))) = (let opened = begin 0 (numbers (reading_of c.args.r)) c.args.into.now c.requires.result_room_in_bounds in
    put _ 4 refl (put _ 3 refl (put _ 2 refl (put _ 1 refl opened)))) in
    let wrote-2 : (let all = numbers (reading_of c.args.r) in Writing 0 all c.args.into.now (drop 6 all) 6 c.put_place.new.into) = put_part (place_numbers (reading_of c.args.r).components.protected []) _ refl (wrote-1) refl
    c.put_place.ensures in
    let wrote-3 : (let all = numbers (reading_of c.args.r) in Writing 0 all c.args.into.now (drop 8 all) 8 c.put_place-2.new.into) = put_part (place_numbers (reading_of c.args.r).components.key []) _ refl (wrote-2) refl
    c.put_place-2.ensures in
    let wrote-4 : (let all = numbers (reading_of c.args.r) in Writing 0 all c.args.into.now (drop 10 all) 10 c.put_place-3.new.into) = put_part (place_numbers (reading_of c.args.r).components.iv []) _ refl (wrote-3) refl
    c.put_place-3.ensures in
    let wrote-5 : (let all = numbers (reading_of c.args.r) in Writing 0 all c.args.into.now (drop 12 all) 12 c.put_place-4.new.into) = put_part (place_numbers (reading_of c.args.r).components.aad []) _ refl (wrote-4) refl
    c.put_place-4.ensures in
    let wrote-6 : (let all = numbers (reading_of c.args.r) in Writing 0 all c.args.into.now (drop 14 all) 14 c.put_place-5.new.into) = put_part (place_numbers (reading_of c.args.r).components.ciphertext []) _ refl (wrote-5) refl
    c.put_place-5.ensures in
    let wrote : (let all = numbers (reading_of c.args.r) in Writing 0 all c.args.into.now (drop 16 all) 16 c.put_place-6.new.into) = put_part (place_numbers (reading_of c.args.r).components.tag []) _ refl (wrote-6) refl
    c.put_place-6.ensures in
    within 17 (wrote) c.requires.result_room_in_bounds (omega arith)

pub overflow_cast-into-3 : goal.overflow_cast-into-3
overflow_cast-into-3 c =
    record { fits = parameters_small (reading_of c.args.r) c.requires.all_below }

pub bounds-into-17 : goal.bounds-into-17
bounds-into-17 c =
    let wrote-1 : (let r = c.args.r in
    let into = c.args.into.now in
    (let all = numbers (reading_of c.args.r) in Writing 0 all c.args.into.now (drop 4 all) 4 (set (set (set (set into 0 0) 1 r.form) 2 r.recipients) 3 r.mode))) = (let opened = begin 0 (numbers (reading_of c.args.r)) c.args.into.now c.requires.result_room_in_bounds in
    put _ 4 refl (put _ 3 refl (put _ 2 refl (put _ 1 refl opened)))) in
    let wrote-2 : (let all = numbers (reading_of c.args.r) in Writing 0 all c.args.into.now (drop 6 all) 6 c.put_place.new.into) = put_part (place_numbers (reading_of c.args.r).components.protected []) _ refl (wrote-1) refl
    c.put_place.ensures in
    let wrote-3 : (let all = numbers (reading_of c.args.r) in Writing 0 all c.args.into.now (drop 8 all) 8 c.put_place-2.new.into) = put_part (place_numbers (reading_of c.args.r).components.key []) _ refl (wrote-2) refl
    c.put_place-2.ensures in
    let wrote-4 : (let all = numbers (reading_of c.args.r) in Writing 0 all c.args.into.now (drop 10 all) 10 c.put_place-3.new.into) = put_part (place_numbers (reading_of c.args.r).components.iv []) _ refl (wrote-3) refl
    c.put_place-3.ensures in
    let wrote-5 : (let all = numbers (reading_of c.args.r) in Writing 0 all c.args.into.now (drop 12 all) 12 c.put_place-4.new.into) = put_part (place_numbers (reading_of c.args.r).components.aad []) _ refl (wrote-4) refl
    c.put_place-4.ensures in
    let wrote-6 : (let all = numbers (reading_of c.args.r) in Writing 0 all c.args.into.now (drop 14 all) 14 c.put_place-5.new.into) = put_part (place_numbers (reading_of c.args.r).components.ciphertext []) _ refl (wrote-5) refl
    c.put_place-5.ensures in
    let wrote : (let all = numbers (reading_of c.args.r) in Writing 0 all c.args.into.now (drop 16 all) 16 c.put_place-6.new.into) = put_part (place_numbers (reading_of c.args.r).components.tag []) _ refl (wrote-6) refl
    c.put_place-6.ensures in
    within 18 (put _ 17 refl (wrote)) c.requires.result_room_in_bounds (omega arith)

pub shape_of-into : goal.shape_of-into
shape_of-into c =
    let wrote-1 : (let r = c.args.r in
    let into = c.args.into.now in
    (let all = numbers (reading_of c.args.r) in Writing 0 all c.args.into.now (drop 4 all) 4 (set (set (set (set into 0 0) 1 r.form) 2 r.recipients) 3 r.mode))) = (let opened = begin 0 (numbers (reading_of c.args.r)) c.args.into.now c.requires.result_room_in_bounds in
    put _ 4 refl (put _ 3 refl (put _ 2 refl (put _ 1 refl opened)))) in
    let wrote-2 : (let all = numbers (reading_of c.args.r) in Writing 0 all c.args.into.now (drop 6 all) 6 c.put_place.new.into) = put_part (place_numbers (reading_of c.args.r).components.protected []) _ refl (wrote-1) refl
    c.put_place.ensures in
    let wrote-3 : (let all = numbers (reading_of c.args.r) in Writing 0 all c.args.into.now (drop 8 all) 8 c.put_place-2.new.into) = put_part (place_numbers (reading_of c.args.r).components.key []) _ refl (wrote-2) refl
    c.put_place-2.ensures in
    let wrote-4 : (let all = numbers (reading_of c.args.r) in Writing 0 all c.args.into.now (drop 10 all) 10 c.put_place-3.new.into) = put_part (place_numbers (reading_of c.args.r).components.iv []) _ refl (wrote-3) refl
    c.put_place-3.ensures in
    let wrote-5 : (let all = numbers (reading_of c.args.r) in Writing 0 all c.args.into.now (drop 12 all) 12 c.put_place-4.new.into) = put_part (place_numbers (reading_of c.args.r).components.aad []) _ refl (wrote-4) refl
    c.put_place-4.ensures in
    let wrote-6 : (let all = numbers (reading_of c.args.r) in Writing 0 all c.args.into.now (drop 14 all) 14 c.put_place-5.new.into) = put_part (place_numbers (reading_of c.args.r).components.ciphertext []) _ refl (wrote-5) refl
    c.put_place-5.ensures in
    let wrote : (let all = numbers (reading_of c.args.r) in Writing 0 all c.args.into.now (drop 16 all) 16 c.put_place-6.new.into) = put_part (place_numbers (reading_of c.args.r).components.tag []) _ refl (wrote-6) refl
    c.put_place-6.ensures in
    let all = put _ 18 refl (put _ 17 refl (wrote)) in all.same

pub returns : goal.returns
returns c =
    let wrote-1 : (let r = c.args.r in
    let into = c.args.into.now in
    (let all = numbers (reading_of c.args.r) in Writing 0 all c.args.into.now (drop 4 all) 4 (set (set (set (set into 0 0) 1 r.form) 2 r.recipients) 3 r.mode))) = (let opened = begin 0 (numbers (reading_of c.args.r)) c.args.into.now c.requires.result_room_in_bounds in
    put _ 4 refl (put _ 3 refl (put _ 2 refl (put _ 1 refl opened)))) in
    let wrote-2 : (let all = numbers (reading_of c.args.r) in Writing 0 all c.args.into.now (drop 6 all) 6 c.put_place.new.into) = put_part (place_numbers (reading_of c.args.r).components.protected []) _ refl (wrote-1) refl
    c.put_place.ensures in
    let wrote-3 : (let all = numbers (reading_of c.args.r) in Writing 0 all c.args.into.now (drop 8 all) 8 c.put_place-2.new.into) = put_part (place_numbers (reading_of c.args.r).components.key []) _ refl (wrote-2) refl
    c.put_place-2.ensures in
    let wrote-4 : (let all = numbers (reading_of c.args.r) in Writing 0 all c.args.into.now (drop 10 all) 10 c.put_place-3.new.into) = put_part (place_numbers (reading_of c.args.r).components.iv []) _ refl (wrote-3) refl
    c.put_place-3.ensures in
    let wrote-5 : (let all = numbers (reading_of c.args.r) in Writing 0 all c.args.into.now (drop 12 all) 12 c.put_place-4.new.into) = put_part (place_numbers (reading_of c.args.r).components.aad []) _ refl (wrote-4) refl
    c.put_place-4.ensures in
    let wrote-6 : (let all = numbers (reading_of c.args.r) in Writing 0 all c.args.into.now (drop 14 all) 14 c.put_place-5.new.into) = put_part (place_numbers (reading_of c.args.r).components.ciphertext []) _ refl (wrote-5) refl
    c.put_place-5.ensures in
    let wrote : (let all = numbers (reading_of c.args.r) in Writing 0 all c.args.into.now (drop 16 all) 16 c.put_place-6.new.into) = put_part (place_numbers (reading_of c.args.r).components.tag []) _ refl (wrote-6) refl
    c.put_place-6.ensures in
    done (put _ 18 refl (put _ 17 refl (wrote)))
