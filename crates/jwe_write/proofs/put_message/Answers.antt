-- `put_message` writes one component behind the other; what is still to come is the message from the next one on.
use mathlib.Core.Path.{refl}
use mathlib.Core.List.{[]}
use native.Mathlib.Omega.{arith}
use Rattle.prelude.proofs.Writing.{Writing, begin, put_part, room_part, ended}
use Rattle.base64url.specs.Base64url.{encoded}
use Rattle.jwe_write.specs.Write.{raw, compact_text}
use Rattle.jwe_write.proofs.Message.{next, from_key_lem, from_iv, from_ciphertext, message_is, tag_is}
use Rattle.jwe_write.proofs.put_message.Goals as goal

pub put-a-requires : goal.put-a-requires
put-a-requires c =
    let at-start : (Writing 0 (compact_text ((raw c.args.header.now c.args.key.now c.args.iv.now c.args.ciphertext.now c.args.tag.now))) c.args.out.now (compact_text ((raw c.args.header.now c.args.key.now c.args.iv.now c.args.ciphertext.now c.args.tag.now))) 0 c.args.out.now) = begin 0 (compact_text ((raw c.args.header.now c.args.key.now c.args.iv.now c.args.ciphertext.now c.args.tag.now))) c.args.out.now (omega (arith, c.requires)) in
    room_part (encoded ((raw c.args.header.now c.args.key.now c.args.iv.now c.args.ciphertext.now c.args.tag.now)).header) (from_key_lem ((raw c.args.header.now c.args.key.now c.args.iv.now c.args.ciphertext.now c.args.tag.now))) (message_is ((raw c.args.header.now c.args.key.now c.args.iv.now c.args.ciphertext.now c.args.tag.now))) (at-start)

pub put_next-b-requires : goal.put_next-b-requires
put_next-b-requires c =
    let at-start : (Writing 0 (compact_text ((raw c.args.header.now c.args.key.now c.args.iv.now c.args.ciphertext.now c.args.tag.now))) c.args.out.now (compact_text ((raw c.args.header.now c.args.key.now c.args.iv.now c.args.ciphertext.now c.args.tag.now))) 0 c.args.out.now) = begin 0 (compact_text ((raw c.args.header.now c.args.key.now c.args.iv.now c.args.ciphertext.now c.args.tag.now))) c.args.out.now (omega (arith, c.requires)) in
    let behind-header : (Writing 0 (compact_text ((raw c.args.header.now c.args.key.now c.args.iv.now c.args.ciphertext.now c.args.tag.now))) c.args.out.now (from_key_lem ((raw c.args.header.now c.args.key.now c.args.iv.now c.args.ciphertext.now c.args.tag.now))) c.put-a.result c.put-a.new.out) = (let m = (raw c.args.header.now c.args.key.now c.args.iv.now c.args.ciphertext.now c.args.tag.now) in
    put_part (encoded m.header) (from_key_lem m) (message_is m) (at-start) c.put-a.ensures.value c.put-a.ensures.out_after) in
    let m = (raw c.args.header.now c.args.key.now c.args.iv.now c.args.ciphertext.now c.args.tag.now) in
    room_part (next m.key) (from_iv m) refl (behind-header)

pub put_next-c-requires : goal.put_next-c-requires
put_next-c-requires c =
    let at-start : (Writing 0 (compact_text ((raw c.args.header.now c.args.key.now c.args.iv.now c.args.ciphertext.now c.args.tag.now))) c.args.out.now (compact_text ((raw c.args.header.now c.args.key.now c.args.iv.now c.args.ciphertext.now c.args.tag.now))) 0 c.args.out.now) = begin 0 (compact_text ((raw c.args.header.now c.args.key.now c.args.iv.now c.args.ciphertext.now c.args.tag.now))) c.args.out.now (omega (arith, c.requires)) in
    let behind-header : (Writing 0 (compact_text ((raw c.args.header.now c.args.key.now c.args.iv.now c.args.ciphertext.now c.args.tag.now))) c.args.out.now (from_key_lem ((raw c.args.header.now c.args.key.now c.args.iv.now c.args.ciphertext.now c.args.tag.now))) c.put-a.result c.put-a.new.out) = (let m = (raw c.args.header.now c.args.key.now c.args.iv.now c.args.ciphertext.now c.args.tag.now) in
    put_part (encoded m.header) (from_key_lem m) (message_is m) (at-start) c.put-a.ensures.value c.put-a.ensures.out_after) in
    let behind-key : (Writing 0 (compact_text ((raw c.args.header.now c.args.key.now c.args.iv.now c.args.ciphertext.now c.args.tag.now))) c.args.out.now (from_iv ((raw c.args.header.now c.args.key.now c.args.iv.now c.args.ciphertext.now c.args.tag.now))) c.put_next-b.result c.put_next-b.new.out) = (let m = (raw c.args.header.now c.args.key.now c.args.iv.now c.args.ciphertext.now c.args.tag.now) in
    put_part (next m.key) (from_iv m) refl (behind-header) c.put_next-b.ensures.value
    c.put_next-b.ensures.out_after) in
    let m = (raw c.args.header.now c.args.key.now c.args.iv.now c.args.ciphertext.now c.args.tag.now) in
    room_part (next m.iv) (from_ciphertext m) refl (behind-key)

pub put_next-d-requires : goal.put_next-d-requires
put_next-d-requires c =
    let at-start : (Writing 0 (compact_text ((raw c.args.header.now c.args.key.now c.args.iv.now c.args.ciphertext.now c.args.tag.now))) c.args.out.now (compact_text ((raw c.args.header.now c.args.key.now c.args.iv.now c.args.ciphertext.now c.args.tag.now))) 0 c.args.out.now) = begin 0 (compact_text ((raw c.args.header.now c.args.key.now c.args.iv.now c.args.ciphertext.now c.args.tag.now))) c.args.out.now (omega (arith, c.requires)) in
    let behind-header : (Writing 0 (compact_text ((raw c.args.header.now c.args.key.now c.args.iv.now c.args.ciphertext.now c.args.tag.now))) c.args.out.now (from_key_lem ((raw c.args.header.now c.args.key.now c.args.iv.now c.args.ciphertext.now c.args.tag.now))) c.put-a.result c.put-a.new.out) = (let m = (raw c.args.header.now c.args.key.now c.args.iv.now c.args.ciphertext.now c.args.tag.now) in
    put_part (encoded m.header) (from_key_lem m) (message_is m) (at-start) c.put-a.ensures.value c.put-a.ensures.out_after) in
    let behind-key : (Writing 0 (compact_text ((raw c.args.header.now c.args.key.now c.args.iv.now c.args.ciphertext.now c.args.tag.now))) c.args.out.now (from_iv ((raw c.args.header.now c.args.key.now c.args.iv.now c.args.ciphertext.now c.args.tag.now))) c.put_next-b.result c.put_next-b.new.out) = (let m = (raw c.args.header.now c.args.key.now c.args.iv.now c.args.ciphertext.now c.args.tag.now) in
    put_part (next m.key) (from_iv m) refl (behind-header) c.put_next-b.ensures.value
    c.put_next-b.ensures.out_after) in
    let behind-iv : (Writing 0 (compact_text ((raw c.args.header.now c.args.key.now c.args.iv.now c.args.ciphertext.now c.args.tag.now))) c.args.out.now (from_ciphertext ((raw c.args.header.now c.args.key.now c.args.iv.now c.args.ciphertext.now c.args.tag.now))) c.put_next-c.result c.put_next-c.new.out) = (let m = (raw c.args.header.now c.args.key.now c.args.iv.now c.args.ciphertext.now c.args.tag.now) in
    put_part (next m.iv) (from_ciphertext m) refl (behind-key) c.put_next-c.ensures.value
    c.put_next-c.ensures.out_after) in
    let m = (raw c.args.header.now c.args.key.now c.args.iv.now c.args.ciphertext.now c.args.tag.now) in
    room_part (next m.ciphertext) (next m.tag) refl (behind-iv)

pub put_next-requires : goal.put_next-requires
put_next-requires c =
    let at-start : (Writing 0 (compact_text ((raw c.args.header.now c.args.key.now c.args.iv.now c.args.ciphertext.now c.args.tag.now))) c.args.out.now (compact_text ((raw c.args.header.now c.args.key.now c.args.iv.now c.args.ciphertext.now c.args.tag.now))) 0 c.args.out.now) = begin 0 (compact_text ((raw c.args.header.now c.args.key.now c.args.iv.now c.args.ciphertext.now c.args.tag.now))) c.args.out.now (omega (arith, c.requires)) in
    let behind-header : (Writing 0 (compact_text ((raw c.args.header.now c.args.key.now c.args.iv.now c.args.ciphertext.now c.args.tag.now))) c.args.out.now (from_key_lem ((raw c.args.header.now c.args.key.now c.args.iv.now c.args.ciphertext.now c.args.tag.now))) c.put-a.result c.put-a.new.out) = (let m = (raw c.args.header.now c.args.key.now c.args.iv.now c.args.ciphertext.now c.args.tag.now) in
    put_part (encoded m.header) (from_key_lem m) (message_is m) (at-start) c.put-a.ensures.value c.put-a.ensures.out_after) in
    let behind-key : (Writing 0 (compact_text ((raw c.args.header.now c.args.key.now c.args.iv.now c.args.ciphertext.now c.args.tag.now))) c.args.out.now (from_iv ((raw c.args.header.now c.args.key.now c.args.iv.now c.args.ciphertext.now c.args.tag.now))) c.put_next-b.result c.put_next-b.new.out) = (let m = (raw c.args.header.now c.args.key.now c.args.iv.now c.args.ciphertext.now c.args.tag.now) in
    put_part (next m.key) (from_iv m) refl (behind-header) c.put_next-b.ensures.value
    c.put_next-b.ensures.out_after) in
    let behind-iv : (Writing 0 (compact_text ((raw c.args.header.now c.args.key.now c.args.iv.now c.args.ciphertext.now c.args.tag.now))) c.args.out.now (from_ciphertext ((raw c.args.header.now c.args.key.now c.args.iv.now c.args.ciphertext.now c.args.tag.now))) c.put_next-c.result c.put_next-c.new.out) = (let m = (raw c.args.header.now c.args.key.now c.args.iv.now c.args.ciphertext.now c.args.tag.now) in
    put_part (next m.iv) (from_ciphertext m) refl (behind-key) c.put_next-c.ensures.value
    c.put_next-c.ensures.out_after) in
    let behind-ciphertext : (Writing 0 (compact_text ((raw c.args.header.now c.args.key.now c.args.iv.now c.args.ciphertext.now c.args.tag.now))) c.args.out.now (next ((raw c.args.header.now c.args.key.now c.args.iv.now c.args.ciphertext.now c.args.tag.now)).tag) c.put_next-d.result c.put_next-d.new.out) = (let m = (raw c.args.header.now c.args.key.now c.args.iv.now c.args.ciphertext.now c.args.tag.now) in
    put_part (next m.ciphertext) (next m.tag) refl (behind-iv) c.put_next-d.ensures.value
    c.put_next-d.ensures.out_after) in
    let m = (raw c.args.header.now c.args.key.now c.args.iv.now c.args.ciphertext.now c.args.tag.now) in
    room_part (next m.tag) [] (tag_is m) (behind-ciphertext)

pub returns : goal.returns
returns c =
    let at-start : (Writing 0 (compact_text ((raw c.args.header.now c.args.key.now c.args.iv.now c.args.ciphertext.now c.args.tag.now))) c.args.out.now (compact_text ((raw c.args.header.now c.args.key.now c.args.iv.now c.args.ciphertext.now c.args.tag.now))) 0 c.args.out.now) = begin 0 (compact_text ((raw c.args.header.now c.args.key.now c.args.iv.now c.args.ciphertext.now c.args.tag.now))) c.args.out.now (omega (arith, c.requires)) in
    let behind-header : (Writing 0 (compact_text ((raw c.args.header.now c.args.key.now c.args.iv.now c.args.ciphertext.now c.args.tag.now))) c.args.out.now (from_key_lem ((raw c.args.header.now c.args.key.now c.args.iv.now c.args.ciphertext.now c.args.tag.now))) c.put-a.result c.put-a.new.out) = (let m = (raw c.args.header.now c.args.key.now c.args.iv.now c.args.ciphertext.now c.args.tag.now) in
    put_part (encoded m.header) (from_key_lem m) (message_is m) (at-start) c.put-a.ensures.value c.put-a.ensures.out_after) in
    let behind-key : (Writing 0 (compact_text ((raw c.args.header.now c.args.key.now c.args.iv.now c.args.ciphertext.now c.args.tag.now))) c.args.out.now (from_iv ((raw c.args.header.now c.args.key.now c.args.iv.now c.args.ciphertext.now c.args.tag.now))) c.put_next-b.result c.put_next-b.new.out) = (let m = (raw c.args.header.now c.args.key.now c.args.iv.now c.args.ciphertext.now c.args.tag.now) in
    put_part (next m.key) (from_iv m) refl (behind-header) c.put_next-b.ensures.value
    c.put_next-b.ensures.out_after) in
    let behind-iv : (Writing 0 (compact_text ((raw c.args.header.now c.args.key.now c.args.iv.now c.args.ciphertext.now c.args.tag.now))) c.args.out.now (from_ciphertext ((raw c.args.header.now c.args.key.now c.args.iv.now c.args.ciphertext.now c.args.tag.now))) c.put_next-c.result c.put_next-c.new.out) = (let m = (raw c.args.header.now c.args.key.now c.args.iv.now c.args.ciphertext.now c.args.tag.now) in
    put_part (next m.iv) (from_ciphertext m) refl (behind-key) c.put_next-c.ensures.value
    c.put_next-c.ensures.out_after) in
    let behind-ciphertext : (Writing 0 (compact_text ((raw c.args.header.now c.args.key.now c.args.iv.now c.args.ciphertext.now c.args.tag.now))) c.args.out.now (next ((raw c.args.header.now c.args.key.now c.args.iv.now c.args.ciphertext.now c.args.tag.now)).tag) c.put_next-d.result c.put_next-d.new.out) = (let m = (raw c.args.header.now c.args.key.now c.args.iv.now c.args.ciphertext.now c.args.tag.now) in
    put_part (next m.ciphertext) (next m.tag) refl (behind-iv) c.put_next-d.ensures.value
    c.put_next-d.ensures.out_after) in
    let m = (raw c.args.header.now c.args.key.now c.args.iv.now c.args.ciphertext.now c.args.tag.now) in
    let all = ended (put_part (next m.tag) [] (tag_is m) (behind-ciphertext)
    c.put_next.ensures.value c.put_next.ensures.out_after) in
    record {
      value = omega (arith, all.0);
      out_after = all.1;
    }
