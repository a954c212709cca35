-- `put_next` writes the full stop, and the component behind it.
use mathlib.Core.Path.{refl, sym}
use mathlib.Core.List.{[], append-nil}
use Prim.Native.Nat.{◌+◌}
use lib.ListN.{set}
use Rattle.prelude.proofs.Writing.{Writing, begin, put, put_part, room_part, ended}
use Rattle.base64url.specs.Base64url.{encoded}
use Rattle.jwe_write.proofs.Message.{next}
use Rattle.jwe_write.proofs.put_next.Goals as goal

pub put-requires : goal.put-requires
put-requires c =
    let stopped : (let octets = c.args.octets.now in
    let out = c.args.out.now in
    Writing c.args.at (next octets) out (encoded octets) (c.args.at + 1) (set out c.args.at 46)) = put 46 (c.args.at + 1) refl (begin c.args.at (next c.args.octets.now) c.args.out.now c.requires) in
    let text = encoded c.args.octets.now in
    room_part text [] (sym (append-nil text)) (stopped)

pub shape_of-out : goal.shape_of-out
shape_of-out c =
    let stopped : (let octets = c.args.octets.now in
    let out = c.args.out.now in
    Writing c.args.at (next octets) out (encoded octets) (c.args.at + 1) (set out c.args.at 46)) = put 46 (c.args.at + 1) refl (begin c.args.at (next c.args.octets.now) c.args.out.now c.requires) in
    let written_all : Writing c.args.at (next c.args.octets.now) c.args.out.now [] c.put.result c.put.new.out = (let text = encoded c.args.octets.now in
    put_part text [] (sym (append-nil text)) (stopped) c.put.ensures.value c.put.ensures.out_after) in
    (written_all).same

pub returns : goal.returns
returns c =
    let stopped : (let octets = c.args.octets.now in
    let out = c.args.out.now in
    Writing c.args.at (next octets) out (encoded octets) (c.args.at + 1) (set out c.args.at 46)) = put 46 (c.args.at + 1) refl (begin c.args.at (next c.args.octets.now) c.args.out.now c.requires) in
    let written_all : Writing c.args.at (next c.args.octets.now) c.args.out.now [] c.put.result c.put.new.out = (let text = encoded c.args.octets.now in
    put_part text [] (sym (append-nil text)) (stopped) c.put.ensures.value c.put.ensures.out_after) in
    let both = ended (written_all) in
    record { value = both.0; out_after = both.1 }
