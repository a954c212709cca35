-- `write` asks one stage after the other, and writes the message where none refuses.
use mathlib.Core.Path.{◌≡◌, ap, sym, subst, ◌∙◌}
use mathlib.Core.Bool.{true}
use Prim.Native.Nat.{◌≤◌}
use native.Mathlib.Omega.{arith}
use lib.ListN.{length}
use borrow.Author.Tests.{ltb-false}
use Rattle.names.specs.Names.{names, sound}
use Rattle.names.proofs.Laws.{sound_filled}
use Rattle.prelude.specs.Refusals.{Stage, number_of, as_stage, first}
use Rattle.prelude.proofs.Exits.{exit_refused}
use Rattle.headers.specs.Headers.{text_order}
use Rattle.headers.proofs.Stages.{not_long, passed_is, refused_is}
use Rattle.jwe_write.specs.Write.{raw, raw_sizes, compact_text, parameters_order}
use Rattle.jwe_write.specs.Answers.{WritesCompact}
use Rattle.jwe_write.proofs.Order.{refusal_names, refusal_text, refusal_rules}
use Rattle.jwe_write.proofs.Order.{refusal_long, refusal_room, refusal_none, refuses, accepts}
use Rattle.jwe_write.proofs.write.Goals as goal

pub returns-then-not-sound : goal.returns-then-not-sound
returns-then-not-sound c =
    refuses ((raw c.args.header.now c.args.key.now c.args.iv.now c.args.ciphertext.now c.args.tag.now)) (c.args.known.now) (c.args.out.now) 3
    (refusal_names ((raw c.args.header.now c.args.key.now c.args.iv.now c.args.ciphertext.now c.args.tag.now)) (c.args.known.now) (length (c.args.out.now)) (sym c.sound.ensures ∙ c.if-not-sound.true))
    (omega arith)

pub returns-in_err-text : goal.returns-in_err-text
returns-in_err-text c =
    let sounds : sound (c.args.known.now) ≡ true = sym c.sound.ensures ∙ c.if-not-sound.false in
    let r = refused_is (number_of c.in_err-text.field-0.0) _ _ (sym (ap as_stage c.in_err-text.was) ∙ c.text.ensures) in
    subst (λ (x : Stage). WritesCompact ((raw c.args.header.now c.args.key.now c.args.iv.now c.args.ciphertext.now c.args.tag.now)) (c.args.known.now) (c.args.out.now) x (c.args.out.now)) (sym (exit_refused _ _ c.from_residual.ensures.1))
    (refuses ((raw c.args.header.now c.args.key.now c.args.iv.now c.args.ciphertext.now c.args.tag.now)) (c.args.known.now) (c.args.out.now) (number_of c.in_err-text.field-0.0)
    (refusal_text ((raw c.args.header.now c.args.key.now c.args.iv.now c.args.ciphertext.now c.args.tag.now)) (c.args.known.now) (length (c.args.out.now)) (sounds) (number_of c.in_err-text.field-0.0) r.0 r.1) r.1)

pub parameters-requires : goal.parameters-requires
parameters-requires c =
    let reads : first (text_order ((raw c.args.header.now c.args.key.now c.args.iv.now c.args.ciphertext.now c.args.tag.now)).header) ≡ 0 = (passed_is _ _ _ (sym (ap as_stage c.in_ok-text.was) ∙ c.text.ensures)).0 in
    let sounds : sound (c.args.known.now) ≡ true = sym c.sound.ensures ∙ c.if-not-sound.false in
    let header = ((raw c.args.header.now c.args.key.now c.args.iv.now c.args.ciphertext.now c.args.tag.now)).header in
    record {
      header_len_bound = ltb-false 4096 (length header) (not_long header (reads));
      known_value = sound_filled _ (sounds);
    }

pub returns-in_err-parameters : goal.returns-in_err-parameters
returns-in_err-parameters c =
    let sounds : sound (c.args.known.now) ≡ true = sym c.sound.ensures ∙ c.if-not-sound.false in
    let reads : first (text_order ((raw c.args.header.now c.args.key.now c.args.iv.now c.args.ciphertext.now c.args.tag.now)).header) ≡ 0 = (passed_is _ _ _ (sym (ap as_stage c.in_ok-text.was) ∙ c.text.ensures)).0 in
    let r = refused_is (number_of c.in_err-parameters.field-0.0) _ _ (sym (ap as_stage c.in_err-parameters.was) ∙ c.parameters.ensures) in
    subst (λ (x : Stage). WritesCompact ((raw c.args.header.now c.args.key.now c.args.iv.now c.args.ciphertext.now c.args.tag.now)) (c.args.known.now) (c.args.out.now) x (c.args.out.now)) (sym (exit_refused _ _ c.from_residual-in_err-parameters.ensures.1))
    (refuses ((raw c.args.header.now c.args.key.now c.args.iv.now c.args.ciphertext.now c.args.tag.now)) (c.args.known.now) (c.args.out.now) (number_of c.in_err-parameters.field-0.0)
    (refusal_rules ((raw c.args.header.now c.args.key.now c.args.iv.now c.args.ciphertext.now c.args.tag.now)) (c.args.known.now) (length (c.args.out.now)) (sounds) (reads) (number_of c.in_err-parameters.field-0.0) r.0 r.1)
    r.1)

pub returns-then-n-gt-LONGEST : goal.returns-then-n-gt-LONGEST
returns-then-n-gt-LONGEST c =
    let sounds : sound (c.args.known.now) ≡ true = sym c.sound.ensures ∙ c.if-not-sound.false in
    let reads : first (text_order ((raw c.args.header.now c.args.key.now c.args.iv.now c.args.ciphertext.now c.args.tag.now)).header) ≡ 0 = (passed_is _ _ _ (sym (ap as_stage c.in_ok-text.was) ∙ c.text.ensures)).0 in
    let rules : first (parameters_order (names (c.args.known.now)) ((raw c.args.header.now c.args.key.now c.args.iv.now c.args.ciphertext.now c.args.tag.now)).header (raw_sizes ((raw c.args.header.now c.args.key.now c.args.iv.now c.args.ciphertext.now c.args.tag.now)))) ≡ 0 = (passed_is _ _ _ (sym (ap as_stage c.in_ok-parameters.was) ∙ c.parameters.ensures)).0 in
    refuses ((raw c.args.header.now c.args.key.now c.args.iv.now c.args.ciphertext.now c.args.tag.now)) (c.args.known.now) (c.args.out.now) 2
    (refusal_long ((raw c.args.header.now c.args.key.now c.args.iv.now c.args.ciphertext.now c.args.tag.now)) (c.args.known.now) (length (c.args.out.now)) (sounds) (reads) (rules)
    (omega (arith, c.message_length-n.ensures, c.if-n-gt-LONGEST.true)))
    (omega arith)

pub returns-then-out-n : goal.returns-then-out-n
returns-then-out-n c =
    let sounds : sound (c.args.known.now) ≡ true = sym c.sound.ensures ∙ c.if-not-sound.false in
    let reads : first (text_order ((raw c.args.header.now c.args.key.now c.args.iv.now c.args.ciphertext.now c.args.tag.now)).header) ≡ 0 = (passed_is _ _ _ (sym (ap as_stage c.in_ok-text.was) ∙ c.text.ensures)).0 in
    let rules : first (parameters_order (names (c.args.known.now)) ((raw c.args.header.now c.args.key.now c.args.iv.now c.args.ciphertext.now c.args.tag.now)).header (raw_sizes ((raw c.args.header.now c.args.key.now c.args.iv.now c.args.ciphertext.now c.args.tag.now)))) ≡ 0 = (passed_is _ _ _ (sym (ap as_stage c.in_ok-parameters.was) ∙ c.parameters.ensures)).0 in
    let short : length (compact_text ((raw c.args.header.now c.args.key.now c.args.iv.now c.args.ciphertext.now c.args.tag.now))) ≤ 16777216 = omega (arith, c.message_length-n.ensures, c.if-n-gt-LONGEST.false) in
    refuses ((raw c.args.header.now c.args.key.now c.args.iv.now c.args.ciphertext.now c.args.tag.now)) (c.args.known.now) (c.args.out.now) 1
    (refusal_room ((raw c.args.header.now c.args.key.now c.args.iv.now c.args.ciphertext.now c.args.tag.now)) (c.args.known.now) (length (c.args.out.now)) (sounds) (reads) (rules)
    (short) (omega (arith, c.message_length-n.ensures, c.if-n-gt-LONGEST.false, c.if-out-n.true)))
    (omega arith)

pub returns : goal.returns
returns c =
    let sounds : sound (c.args.known.now) ≡ true = sym c.sound.ensures ∙ c.if-not-sound.false in
    let reads : first (text_order ((raw c.args.header.now c.args.key.now c.args.iv.now c.args.ciphertext.now c.args.tag.now)).header) ≡ 0 = (passed_is _ _ _ (sym (ap as_stage c.in_ok-text.was) ∙ c.text.ensures)).0 in
    let rules : first (parameters_order (names (c.args.known.now)) ((raw c.args.header.now c.args.key.now c.args.iv.now c.args.ciphertext.now c.args.tag.now)).header (raw_sizes ((raw c.args.header.now c.args.key.now c.args.iv.now c.args.ciphertext.now c.args.tag.now)))) ≡ 0 = (passed_is _ _ _ (sym (ap as_stage c.in_ok-parameters.was) ∙ c.parameters.ensures)).0 in
    let short : length (compact_text ((raw c.args.header.now c.args.key.now c.args.iv.now c.args.ciphertext.now c.args.tag.now))) ≤ 16777216 = omega (arith, c.message_length-n.ensures, c.if-n-gt-LONGEST.false) in
    accepts ((raw c.args.header.now c.args.key.now c.args.iv.now c.args.ciphertext.now c.args.tag.now)) (c.args.known.now) (c.args.out.now)
    (refusal_none ((raw c.args.header.now c.args.key.now c.args.iv.now c.args.ciphertext.now c.args.tag.now)) (c.args.known.now) (length (c.args.out.now)) (sounds) (reads) (rules)
    (short)
    (omega (arith, c.message_length-n.ensures, c.if-n-gt-LONGEST.false, c.if-out-n.false)))
    c.put_message.result _ c.put_message.ensures.value
    c.put_message.ensures.out_after
