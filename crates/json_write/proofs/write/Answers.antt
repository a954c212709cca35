-- `write` asks one stage after the other, and writes the message where none refuses.
use mathlib.Core.Path.{◌≡◌, ap, sym, subst, ◌∙◌}
use mathlib.Core.Bool.{true}
use Prim.Native.Nat.{◌≤◌, ◌<◌}
use native.Mathlib.Omega.{arith}
use lib.ListN.{length}
use Rattle.prelude.specs.Refusals.{Stage, number_of, as_stage, first}
use Rattle.prelude.proofs.Exits.{exit_refused}
use Rattle.prelude.proofs.Lists.{all_below}
use Rattle.names.specs.Names.{names, sound}
use Rattle.names.proofs.Laws.{sound_filled}
use Rattle.headers.proofs.Stages.{passed_is, refused_is}
use Rattle.recipients.specs.Parsed.{said_count, recipients_in, sound_table}
use Rattle.recipients.proofs.Places.{recipients_count, sound_some, counted_sound, counted, uncounted}
use Rattle.json_message.specs.Handed.{MessageOctets}
use Rattle.json_message.specs.WriteOrder.{most_for}
use Rattle.json_message.specs.JsonWrite.{raw_json, message_of, written_text}
use Rattle.json_message.proofs.Lengths.{shared_within, every_within}
use Rattle.json_write.specs.Answers.{WritesJson}
use Rattle.json_write.proofs.Given.{keys_below, own_short}
use Rattle.json_write.proofs.Order.{within, wrong_sound, wrong_count, refusal_names, refusal_table, refusal_over}
use Rattle.json_write.proofs.Order.{over_nonzero, over_stage, refusal_judged, refusal_room, refusal_none, refuses, accepts}
use Rattle.json_write.proofs.write.Goals as goal

pub returns-then-not-sound : goal.returns-then-not-sound
returns-then-not-sound c =
    refuses (c.args.general) ((raw_json c.args.protected.now c.args.shared.now c.args.aad.now c.args.iv.now c.args.ciphertext.now
    c.args.tag.now c.args.recipients.now)) (c.args.known.now) (c.args.out.now) 3
    (refusal_names (c.args.general) ((raw_json c.args.protected.now c.args.shared.now c.args.aad.now c.args.iv.now c.args.ciphertext.now
    c.args.tag.now c.args.recipients.now)) (c.args.known.now) (length (c.args.out.now)) (sym c.sound.ensures ∙ c.if-not-sound.true))
    (omega arith)

pub returns-in_default : goal.returns-in_default
returns-in_default c =
    let sounds : sound (c.args.known.now) ≡ true = sym c.sound.ensures ∙ c.if-not-sound.false in
    let wrong = wrong_sound (c.args.general) ((raw_json c.args.protected.now c.args.shared.now c.args.aad.now c.args.iv.now c.args.ciphertext.now
    c.args.tag.now c.args.recipients.now)).recipients (uncounted _ (sym c.count.ensures ∙ c.in_default.is)) in
    refuses (c.args.general) ((raw_json c.args.protected.now c.args.shared.now c.args.aad.now c.args.iv.now c.args.ciphertext.now
    c.args.tag.now c.args.recipients.now)) (c.args.known.now) (c.args.out.now) 20
    (refusal_table (c.args.general) ((raw_json c.args.protected.now c.args.shared.now c.args.aad.now c.args.iv.now c.args.ciphertext.now
    c.args.tag.now c.args.recipients.now)) (c.args.known.now) (length (c.args.out.now)) (sounds) wrong) (omega arith)

pub returns-then-most_for-n : goal.returns-then-most_for-n
returns-then-most_for-n c =
    let said : (sound_table ((raw_json c.args.protected.now c.args.shared.now c.args.aad.now c.args.iv.now c.args.ciphertext.now
    c.args.tag.now c.args.recipients.now)).recipients ≡ true) × (c.in-Some.n ≡ said_count ((raw_json c.args.protected.now c.args.shared.now c.args.aad.now c.args.iv.now c.args.ciphertext.now
    c.args.tag.now c.args.recipients.now)).recipients) = (let t = ((raw_json c.args.protected.now c.args.shared.now c.args.aad.now c.args.iv.now c.args.ciphertext.now
    c.args.tag.now c.args.recipients.now)).recipients in
    let e = sym c.count.ensures ∙ c.in-Some.is in
    (counted_sound t _ e, counted t _ e)) in
    let sounds : sound (c.args.known.now) ≡ true = sym c.sound.ensures ∙ c.if-not-sound.false in
    let wrong = wrong_count (c.args.general) ((raw_json c.args.protected.now c.args.shared.now c.args.aad.now c.args.iv.now c.args.ciphertext.now
    c.args.tag.now c.args.recipients.now)).recipients (omega (arith, c.if-most_for-n.true, c.most_for.ensures, (said).1)) in
    refuses (c.args.general) ((raw_json c.args.protected.now c.args.shared.now c.args.aad.now c.args.iv.now c.args.ciphertext.now
    c.args.tag.now c.args.recipients.now)) (c.args.known.now) (c.args.out.now) 20
    (refusal_table (c.args.general) ((raw_json c.args.protected.now c.args.shared.now c.args.aad.now c.args.iv.now c.args.ciphertext.now
    c.args.tag.now c.args.recipients.now)) (c.args.known.now) (length (c.args.out.now)) (sounds) wrong) (omega arith)

pub invariant_of-message : goal.invariant_of-message
invariant_of-message c = record { sound = counted_sound c.args.recipients.now _ (sym c.count.ensures ∙ c.in-Some.is) }

pub judge_over-requires : goal.judge_over-requires
judge_over-requires c =
    let said : (sound_table ((raw_json c.args.protected.now c.args.shared.now c.args.aad.now c.args.iv.now c.args.ciphertext.now
    c.args.tag.now c.args.recipients.now)).recipients ≡ true) × (c.in-Some.n ≡ said_count ((raw_json c.args.protected.now c.args.shared.now c.args.aad.now c.args.iv.now c.args.ciphertext.now
    c.args.tag.now c.args.recipients.now)).recipients) = (let t = ((raw_json c.args.protected.now c.args.shared.now c.args.aad.now c.args.iv.now c.args.ciphertext.now
    c.args.tag.now c.args.recipients.now)).recipients in
    let e = sym c.count.ensures ∙ c.in-Some.is in
    (counted_sound t _ e, counted t _ e)) in
    let both = said in
    record { recipients_value = both.0; n_value = both.1 }

pub returns-then-size-gt-LONGEST : goal.returns-then-size-gt-LONGEST
returns-then-size-gt-LONGEST c =
    let sounds : sound (c.args.known.now) ≡ true = sym c.sound.ensures ∙ c.if-not-sound.false in
    let said : (sound_table ((raw_json c.args.protected.now c.args.shared.now c.args.aad.now c.args.iv.now c.args.ciphertext.now
    c.args.tag.now c.args.recipients.now)).recipients ≡ true) × (c.in-Some.n ≡ said_count ((raw_json c.args.protected.now c.args.shared.now c.args.aad.now c.args.iv.now c.args.ciphertext.now
    c.args.tag.now c.args.recipients.now)).recipients) = (let t = ((raw_json c.args.protected.now c.args.shared.now c.args.aad.now c.args.iv.now c.args.ciphertext.now
    c.args.tag.now c.args.recipients.now)).recipients in
    let e = sym c.count.ensures ∙ c.in-Some.is in
    (counted_sound t _ e, counted t _ e)) in
    let few : said_count ((raw_json c.args.protected.now c.args.shared.now c.args.aad.now c.args.iv.now c.args.ciphertext.now
    c.args.tag.now c.args.recipients.now)).recipients ≤ most_for (c.args.general) = omega (arith, c.if-most_for-n.false, c.most_for.ensures, (said).1) in
    let octets : MessageOctets (message_of ((raw_json c.args.protected.now c.args.shared.now c.args.aad.now c.args.iv.now c.args.ciphertext.now
    c.args.tag.now c.args.recipients.now))) = (let g = (raw_json c.args.protected.now c.args.shared.now c.args.aad.now c.args.iv.now c.args.ciphertext.now
    c.args.tag.now c.args.recipients.now) in
    record {
      protected = all_below 256 g.protected (λ k h. (c.shared_slice_known-1.given k).fits);
      keys = keys_below g.recipients (all_below 256 g.recipients (λ k h. (c.shared_slice_known-8-1.given k).fits));
      aad = all_below 256 g.aad (λ k h. (c.shared_slice_known-3-1.given k).fits);
      iv = all_below 256 g.iv (λ k h. (c.shared_slice_known-4-1.given k).fits);
      ciphertext = all_below 256 g.ciphertext (λ k h. (c.shared_slice_known-5-1.given k).fits);
      tag = all_below 256 g.tag (λ k h. (c.shared_slice_known-6-1.given k).fits);
    }) in
    let long : 16777216 < length ((written_text (c.args.general) ((raw_json c.args.protected.now c.args.shared.now c.args.aad.now c.args.iv.now c.args.ciphertext.now
    c.args.tag.now c.args.recipients.now)))) = omega (arith, c.text_length-size.ensures, c.if-size-gt-LONGEST.true) in
    let is = refusal_over (c.args.general) ((raw_json c.args.protected.now c.args.shared.now c.args.aad.now c.args.iv.now c.args.ciphertext.now
    c.args.tag.now c.args.recipients.now)) (c.args.known.now) (length (c.args.out.now)) (sounds) (said).0 (few) (octets) long in
    subst (λ (x : Stage). WritesJson (c.args.general) ((raw_json c.args.protected.now c.args.shared.now c.args.aad.now c.args.iv.now c.args.ciphertext.now
    c.args.tag.now c.args.recipients.now)) (c.args.known.now) (c.args.out.now) x (c.args.out.now)) (sym (c.judge_over.ensures ∙ over_stage (c.args.general) ((raw_json c.args.protected.now c.args.shared.now c.args.aad.now c.args.iv.now c.args.ciphertext.now
    c.args.tag.now c.args.recipients.now)) (names (c.args.known.now)) _))
    (refuses (c.args.general) ((raw_json c.args.protected.now c.args.shared.now c.args.aad.now c.args.iv.now c.args.ciphertext.now
    c.args.tag.now c.args.recipients.now)) (c.args.known.now) (c.args.out.now) _ is (over_nonzero (c.args.general) ((raw_json c.args.protected.now c.args.shared.now c.args.aad.now c.args.iv.now c.args.ciphertext.now
    c.args.tag.now c.args.recipients.now)) (names (c.args.known.now))))

pub judge_within-requires : goal.judge_within-requires
judge_within-requires c =
    let sounds : sound (c.args.known.now) ≡ true = sym c.sound.ensures ∙ c.if-not-sound.false in
    let said : (sound_table ((raw_json c.args.protected.now c.args.shared.now c.args.aad.now c.args.iv.now c.args.ciphertext.now
    c.args.tag.now c.args.recipients.now)).recipients ≡ true) × (c.in-Some.n ≡ said_count ((raw_json c.args.protected.now c.args.shared.now c.args.aad.now c.args.iv.now c.args.ciphertext.now
    c.args.tag.now c.args.recipients.now)).recipients) = (let t = ((raw_json c.args.protected.now c.args.shared.now c.args.aad.now c.args.iv.now c.args.ciphertext.now
    c.args.tag.now c.args.recipients.now)).recipients in
    let e = sym c.count.ensures ∙ c.in-Some.is in
    (counted_sound t _ e, counted t _ e)) in
    let short : length ((written_text (c.args.general) ((raw_json c.args.protected.now c.args.shared.now c.args.aad.now c.args.iv.now c.args.ciphertext.now
    c.args.tag.now c.args.recipients.now)))) ≤ 16777216 = omega (arith, c.text_length-size.ensures, c.if-size-gt-LONGEST.false) in
    let few : said_count ((raw_json c.args.protected.now c.args.shared.now c.args.aad.now c.args.iv.now c.args.ciphertext.now
    c.args.tag.now c.args.recipients.now)).recipients ≤ most_for (c.args.general) = omega (arith, c.if-most_for-n.false, c.most_for.ensures, (said).1) in
    let count = recipients_count ((raw_json c.args.protected.now c.args.shared.now c.args.aad.now c.args.iv.now c.args.ciphertext.now
    c.args.tag.now c.args.recipients.now)).recipients in
    record {
      known_value = sound_filled _ (sounds);
      recipients_value = (said).0;
      n_value = (said).1;
      shared_len_bound = omega (
        arith,
        shared_within (c.args.general) (message_of ((raw_json c.args.protected.now c.args.shared.now c.args.aad.now c.args.iv.now c.args.ciphertext.now
            c.args.tag.now c.args.recipients.now))),
        short,
      );
      own_short = own_short (recipients_in ((raw_json c.args.protected.now c.args.shared.now c.args.aad.now c.args.iv.now c.args.ciphertext.now
          c.args.tag.now c.args.recipients.now)).recipients) (length ((written_text (c.args.general) ((raw_json c.args.protected.now c.args.shared.now c.args.aad.now c.args.iv.now c.args.ciphertext.now
          c.args.tag.now c.args.recipients.now))))) (short)
          (every_within (c.args.general) (message_of ((raw_json c.args.protected.now c.args.shared.now c.args.aad.now c.args.iv.now c.args.ciphertext.now
          c.args.tag.now c.args.recipients.now))) (omega (
            arith,
            count,
            sound_some ((raw_json c.args.protected.now c.args.shared.now c.args.aad.now c.args.iv.now c.args.ciphertext.now
                c.args.tag.now c.args.recipients.now)).recipients (said).0,
          ))
          (omega (arith, count, few)));
    }

pub returns-in_err-judge_within : goal.returns-in_err-judge_within
returns-in_err-judge_within c =
    let sounds : sound (c.args.known.now) ≡ true = sym c.sound.ensures ∙ c.if-not-sound.false in
    let said : (sound_table ((raw_json c.args.protected.now c.args.shared.now c.args.aad.now c.args.iv.now c.args.ciphertext.now
    c.args.tag.now c.args.recipients.now)).recipients ≡ true) × (c.in-Some.n ≡ said_count ((raw_json c.args.protected.now c.args.shared.now c.args.aad.now c.args.iv.now c.args.ciphertext.now
    c.args.tag.now c.args.recipients.now)).recipients) = (let t = ((raw_json c.args.protected.now c.args.shared.now c.args.aad.now c.args.iv.now c.args.ciphertext.now
    c.args.tag.now c.args.recipients.now)).recipients in
    let e = sym c.count.ensures ∙ c.in-Some.is in
    (counted_sound t _ e, counted t _ e)) in
    let few : said_count ((raw_json c.args.protected.now c.args.shared.now c.args.aad.now c.args.iv.now c.args.ciphertext.now
    c.args.tag.now c.args.recipients.now)).recipients ≤ most_for (c.args.general) = omega (arith, c.if-most_for-n.false, c.most_for.ensures, (said).1) in
    let octets : MessageOctets (message_of ((raw_json c.args.protected.now c.args.shared.now c.args.aad.now c.args.iv.now c.args.ciphertext.now
    c.args.tag.now c.args.recipients.now))) = (let g = (raw_json c.args.protected.now c.args.shared.now c.args.aad.now c.args.iv.now c.args.ciphertext.now
    c.args.tag.now c.args.recipients.now) in
    record {
      protected = all_below 256 g.protected (λ k h. (c.shared_slice_known-1.given k).fits);
      keys = keys_below g.recipients (all_below 256 g.recipients (λ k h. (c.shared_slice_known-8-1.given k).fits));
      aad = all_below 256 g.aad (λ k h. (c.shared_slice_known-3-1.given k).fits);
      iv = all_below 256 g.iv (λ k h. (c.shared_slice_known-4-1.given k).fits);
      ciphertext = all_below 256 g.ciphertext (λ k h. (c.shared_slice_known-5-1.given k).fits);
      tag = all_below 256 g.tag (λ k h. (c.shared_slice_known-6-1.given k).fits);
    }) in
    let short : length ((written_text (c.args.general) ((raw_json c.args.protected.now c.args.shared.now c.args.aad.now c.args.iv.now c.args.ciphertext.now
    c.args.tag.now c.args.recipients.now)))) ≤ 16777216 = omega (arith, c.text_length-size.ensures, c.if-size-gt-LONGEST.false) in
    let r = refused_is (number_of c.in_err-judge_within.field-0.0) _ _ (sym (ap as_stage c.in_err-judge_within.was) ∙ c.judge_within.ensures) in
    subst (λ (x : Stage). WritesJson (c.args.general) ((raw_json c.args.protected.now c.args.shared.now c.args.aad.now c.args.iv.now c.args.ciphertext.now
    c.args.tag.now c.args.recipients.now)) (c.args.known.now) (c.args.out.now) x (c.args.out.now)) (sym (exit_refused _ _ c.from_residual.ensures.1))
    (refuses (c.args.general) ((raw_json c.args.protected.now c.args.shared.now c.args.aad.now c.args.iv.now c.args.ciphertext.now
    c.args.tag.now c.args.recipients.now)) (c.args.known.now) (c.args.out.now) (number_of c.in_err-judge_within.field-0.0)
    (refusal_judged (c.args.general) ((raw_json c.args.protected.now c.args.shared.now c.args.aad.now c.args.iv.now c.args.ciphertext.now
    c.args.tag.now c.args.recipients.now)) (c.args.known.now) (length (c.args.out.now)) (sounds) (said).0 (few) (octets) (short)
    (number_of c.in_err-judge_within.field-0.0) r.0 r.1) r.1)

pub returns-then-out-size : goal.returns-then-out-size
returns-then-out-size c =
    let short : length ((written_text (c.args.general) ((raw_json c.args.protected.now c.args.shared.now c.args.aad.now c.args.iv.now c.args.ciphertext.now
    c.args.tag.now c.args.recipients.now)))) ≤ 16777216 = omega (arith, c.text_length-size.ensures, c.if-size-gt-LONGEST.false) in
    let sounds : sound (c.args.known.now) ≡ true = sym c.sound.ensures ∙ c.if-not-sound.false in
    let said : (sound_table ((raw_json c.args.protected.now c.args.shared.now c.args.aad.now c.args.iv.now c.args.ciphertext.now
    c.args.tag.now c.args.recipients.now)).recipients ≡ true) × (c.in-Some.n ≡ said_count ((raw_json c.args.protected.now c.args.shared.now c.args.aad.now c.args.iv.now c.args.ciphertext.now
    c.args.tag.now c.args.recipients.now)).recipients) = (let t = ((raw_json c.args.protected.now c.args.shared.now c.args.aad.now c.args.iv.now c.args.ciphertext.now
    c.args.tag.now c.args.recipients.now)).recipients in
    let e = sym c.count.ensures ∙ c.in-Some.is in
    (counted_sound t _ e, counted t _ e)) in
    let few : said_count ((raw_json c.args.protected.now c.args.shared.now c.args.aad.now c.args.iv.now c.args.ciphertext.now
    c.args.tag.now c.args.recipients.now)).recipients ≤ most_for (c.args.general) = omega (arith, c.if-most_for-n.false, c.most_for.ensures, (said).1) in
    let octets : MessageOctets (message_of ((raw_json c.args.protected.now c.args.shared.now c.args.aad.now c.args.iv.now c.args.ciphertext.now
    c.args.tag.now c.args.recipients.now))) = (let g = (raw_json c.args.protected.now c.args.shared.now c.args.aad.now c.args.iv.now c.args.ciphertext.now
    c.args.tag.now c.args.recipients.now) in
    record {
      protected = all_below 256 g.protected (λ k h. (c.shared_slice_known-1.given k).fits);
      keys = keys_below g.recipients (all_below 256 g.recipients (λ k h. (c.shared_slice_known-8-1.given k).fits));
      aad = all_below 256 g.aad (λ k h. (c.shared_slice_known-3-1.given k).fits);
      iv = all_below 256 g.iv (λ k h. (c.shared_slice_known-4-1.given k).fits);
      ciphertext = all_below 256 g.ciphertext (λ k h. (c.shared_slice_known-5-1.given k).fits);
      tag = all_below 256 g.tag (λ k h. (c.shared_slice_known-6-1.given k).fits);
    }) in
    let passed : first (within (c.args.general) ((raw_json c.args.protected.now c.args.shared.now c.args.aad.now c.args.iv.now c.args.ciphertext.now
    c.args.tag.now c.args.recipients.now)) (names (c.args.known.now))) ≡ 0 = (passed_is _ _ _ (sym (ap as_stage c.in_ok-judge_within.was) ∙ c.judge_within.ensures)).0 in
    let less : length (c.args.out.now) < length ((written_text (c.args.general) ((raw_json c.args.protected.now c.args.shared.now c.args.aad.now c.args.iv.now c.args.ciphertext.now
    c.args.tag.now c.args.recipients.now)))) = omega (arith, c.if-out-size.true, c.text_length-size.ensures, short) in
    refuses (c.args.general) ((raw_json c.args.protected.now c.args.shared.now c.args.aad.now c.args.iv.now c.args.ciphertext.now
    c.args.tag.now c.args.recipients.now)) (c.args.known.now) (c.args.out.now) 1
    (refusal_room (c.args.general) ((raw_json c.args.protected.now c.args.shared.now c.args.aad.now c.args.iv.now c.args.ciphertext.now
    c.args.tag.now c.args.recipients.now)) (c.args.known.now) (length (c.args.out.now)) (sounds) (said).0 (few) (octets) (short)
    (passed) less) (omega arith)

pub put_text-requires : goal.put_text-requires
put_text-requires c =
    let short : length ((written_text (c.args.general) ((raw_json c.args.protected.now c.args.shared.now c.args.aad.now c.args.iv.now c.args.ciphertext.now
    c.args.tag.now c.args.recipients.now)))) ≤ 16777216 = omega (arith, c.text_length-size.ensures, c.if-size-gt-LONGEST.false) in
    omega (arith, c.if-out-size.false, c.text_length-size.ensures, short)

pub returns : goal.returns
returns c =
    let short : length ((written_text (c.args.general) ((raw_json c.args.protected.now c.args.shared.now c.args.aad.now c.args.iv.now c.args.ciphertext.now
    c.args.tag.now c.args.recipients.now)))) ≤ 16777216 = omega (arith, c.text_length-size.ensures, c.if-size-gt-LONGEST.false) in
    let sounds : sound (c.args.known.now) ≡ true = sym c.sound.ensures ∙ c.if-not-sound.false in
    let said : (sound_table ((raw_json c.args.protected.now c.args.shared.now c.args.aad.now c.args.iv.now c.args.ciphertext.now
    c.args.tag.now c.args.recipients.now)).recipients ≡ true) × (c.in-Some.n ≡ said_count ((raw_json c.args.protected.now c.args.shared.now c.args.aad.now c.args.iv.now c.args.ciphertext.now
    c.args.tag.now c.args.recipients.now)).recipients) = (let t = ((raw_json c.args.protected.now c.args.shared.now c.args.aad.now c.args.iv.now c.args.ciphertext.now
    c.args.tag.now c.args.recipients.now)).recipients in
    let e = sym c.count.ensures ∙ c.in-Some.is in
    (counted_sound t _ e, counted t _ e)) in
    let few : said_count ((raw_json c.args.protected.now c.args.shared.now c.args.aad.now c.args.iv.now c.args.ciphertext.now
    c.args.tag.now c.args.recipients.now)).recipients ≤ most_for (c.args.general) = omega (arith, c.if-most_for-n.false, c.most_for.ensures, (said).1) in
    let octets : MessageOctets (message_of ((raw_json c.args.protected.now c.args.shared.now c.args.aad.now c.args.iv.now c.args.ciphertext.now
    c.args.tag.now c.args.recipients.now))) = (let g = (raw_json c.args.protected.now c.args.shared.now c.args.aad.now c.args.iv.now c.args.ciphertext.now
    c.args.tag.now c.args.recipients.now) in
    record {
      protected = all_below 256 g.protected (λ k h. (c.shared_slice_known-1.given k).fits);
      keys = keys_below g.recipients (all_below 256 g.recipients (λ k h. (c.shared_slice_known-8-1.given k).fits));
      aad = all_below 256 g.aad (λ k h. (c.shared_slice_known-3-1.given k).fits);
      iv = all_below 256 g.iv (λ k h. (c.shared_slice_known-4-1.given k).fits);
      ciphertext = all_below 256 g.ciphertext (λ k h. (c.shared_slice_known-5-1.given k).fits);
      tag = all_below 256 g.tag (λ k h. (c.shared_slice_known-6-1.given k).fits);
    }) in
    let passed : first (within (c.args.general) ((raw_json c.args.protected.now c.args.shared.now c.args.aad.now c.args.iv.now c.args.ciphertext.now
    c.args.tag.now c.args.recipients.now)) (names (c.args.known.now))) ≡ 0 = (passed_is _ _ _ (sym (ap as_stage c.in_ok-judge_within.was) ∙ c.judge_within.ensures)).0 in
    let enough : length ((written_text (c.args.general) ((raw_json c.args.protected.now c.args.shared.now c.args.aad.now c.args.iv.now c.args.ciphertext.now
    c.args.tag.now c.args.recipients.now)))) ≤ length (c.args.out.now) = omega (arith, c.if-out-size.false, c.text_length-size.ensures, short) in
    accepts (c.args.general) ((raw_json c.args.protected.now c.args.shared.now c.args.aad.now c.args.iv.now c.args.ciphertext.now
    c.args.tag.now c.args.recipients.now)) (c.args.known.now) (c.args.out.now)
    (refusal_none (c.args.general) ((raw_json c.args.protected.now c.args.shared.now c.args.aad.now c.args.iv.now c.args.ciphertext.now
    c.args.tag.now c.args.recipients.now)) (c.args.known.now) (length (c.args.out.now)) (sounds) (said).0 (few) (octets) (short)
    (passed) enough) _ _ c.put_text.ensures.value c.put_text.ensures.out_after
