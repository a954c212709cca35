-- 6; 7, each text where it will stand; 10; and what follows.
use mathlib.Core.Path.{◌≡◌, ap, sym, ◌∙◌}
use native.Mathlib.Omega.{arith}
use Rattle.recipients.specs.Parsed.{recipients_in}
use Rattle.json_message.specs.Inner.Judged.{shared_levels, own_levels}
use Rattle.json_judge.specs.Inner.Asked.{unread_texts}
use Rattle.json_judge.proofs.Orders.{within_long, within_unread, within_hollow, within_rest, texts_readable}
use Rattle.json_judge.proofs.judge_within.Goals as goal

pub returns-then-header-gt-HEADER_ROOM : goal.returns-then-header-gt-HEADER_ROOM
returns-then-header-gt-HEADER_ROOM c = within_long _ _ _ _ _ _ _ c.if-header-gt-HEADER_ROOM.true

pub unread_texts-requires : goal.unread_texts-requires
unread_texts-requires c = c.requires.recipients_value

pub returns-then-unread_texts : goal.returns-then-unread_texts
returns-then-unread_texts c =
    let asked : c.unread_texts.result ≡ (unread_texts shared_levels (own_levels c.args.general) c.args.header.now c.args.shared.now ((recipients_in c.args.recipients.now))) = c.unread_texts.ensures ∙ ap ((λ m. unread_texts shared_levels m c.args.header.now c.args.shared.now ((recipients_in c.args.recipients.now)))) c.own_levels.ensures in
    within_unread _ _ _ _ _ _ _ c.if-header-gt-HEADER_ROOM.false (sym (asked) ∙ c.if-unread_texts.true)

pub hollow_texts-requires : goal.hollow_texts-requires
hollow_texts-requires c =
    let asked : c.unread_texts.result ≡ (unread_texts shared_levels (own_levels c.args.general) c.args.header.now c.args.shared.now ((recipients_in c.args.recipients.now))) = c.unread_texts.ensures ∙ ap ((λ m. unread_texts shared_levels m c.args.header.now c.args.shared.now ((recipients_in c.args.recipients.now)))) c.own_levels.ensures in
    let read = sym (asked) ∙ c.if-unread_texts.false in
    let short = c.if-header-gt-HEADER_ROOM.false in
    let both = texts_readable c.args.general _ _ _ short c.requires.shared_len_bound c.requires.own_short read in
    record {
      recipients_value = c.requires.recipients_value;
      readable = both.0;
      readable_2 = both.1.0;
      own_readable = both.1.1;
    }

pub returns-then-hollow_texts : goal.returns-then-hollow_texts
returns-then-hollow_texts c =
    let asked : c.unread_texts.result ≡ (unread_texts shared_levels (own_levels c.args.general) c.args.header.now c.args.shared.now ((recipients_in c.args.recipients.now))) = c.unread_texts.ensures ∙ ap ((λ m. unread_texts shared_levels m c.args.header.now c.args.shared.now ((recipients_in c.args.recipients.now)))) c.own_levels.ensures in
    within_hollow _ _ _ _ _ _ _ c.if-header-gt-HEADER_ROOM.false (sym (asked) ∙ c.if-unread_texts.false)
    (sym c.hollow_texts.ensures ∙ c.if-hollow_texts.true)

pub judge_parameters-requires : goal.judge_parameters-requires
judge_parameters-requires c =
    let asked : c.unread_texts.result ≡ (unread_texts shared_levels (own_levels c.args.general) c.args.header.now c.args.shared.now ((recipients_in c.args.recipients.now))) = c.unread_texts.ensures ∙ ap ((λ m. unread_texts shared_levels m c.args.header.now c.args.shared.now ((recipients_in c.args.recipients.now)))) c.own_levels.ensures in
    let read = sym (asked) ∙ c.if-unread_texts.false in
    let short = c.if-header-gt-HEADER_ROOM.false in
    let texts = texts_readable c.args.general _ _ _ short c.requires.shared_len_bound c.requires.own_short read in
    let both = texts.1 in
    record {
      known_value = c.requires.known_value;
      recipients_value = c.requires.recipients_value;
      n_value = c.requires.n_value;
      header_len_bound = omega (arith, short);
      readable = both.0;
      own_readable = both.1;
    }

pub returns : goal.returns
returns c =
    let asked : c.unread_texts.result ≡ (unread_texts shared_levels (own_levels c.args.general) c.args.header.now c.args.shared.now ((recipients_in c.args.recipients.now))) = c.unread_texts.ensures ∙ ap ((λ m. unread_texts shared_levels m c.args.header.now c.args.shared.now ((recipients_in c.args.recipients.now)))) c.own_levels.ensures in
    c.judge_parameters.ensures
    ∙ within_rest _ _ _ _ _ _ _ c.if-header-gt-HEADER_ROOM.false (sym (asked) ∙ c.if-unread_texts.false)
    (sym c.hollow_texts.ensures ∙ c.if-hollow_texts.false)
