-- The writer's first refusal, stage by stage: that of the first stage that refuses; and the answers by it.
use mathlib.Core.Path.{◌≡◌, refl, ap, ap₂, sym, ◌∙◌}
use mathlib.Core.Bool.{Bool, true, false, not, ◌||◌, cond}
use mathlib.Core.List.{List, [], ◌∷◌, ◌++◌, append_assoc, flat_map}
use Prim.Native.Nat.{ℕ, ◌≤◌, ◌<◌}
use native.Mathlib.Omega.{arith}
use lib.ListN.{length}
use lib.Dec.{ltb}
use borrow.Author.Tests.{lt-ltb, le-ltb}
use Rattle.prelude.specs.Buffer.{written}
use Rattle.prelude.specs.Limits.{longest, levels}
use Rattle.prelude.specs.Refusals.{Test, ◌if◌, first, stage_of}
use Rattle.prelude.proofs.Outputs.{writes_refused, writes_done}
use Rattle.prelude.proofs.Refusals.{nonzero, nonzero_append, first_fails, first_passes, first_skip}
use Rattle.prelude.specs.Refusals.{Passed, Refused}
use Rattle.names.specs.Names.{names, sound}
use Rattle.jose.specs.declared.Sizes.{Sizes}
use Rattle.headers.specs.Headers.{too_long, protected_entries, object_order}
use Rattle.headers.proofs.Stages.{object_nonzero, stopped}
use Rattle.headers.proofs.Stages as stages
use Rattle.jwe.proofs.CompactOrder.{rules_nonzero}
use Rattle.recipients.specs.Table.{RawRecipient}
use Rattle.recipients.specs.Parsed.{said_count, recipients_in, sound_table}
use Rattle.recipients.proofs.Places.{recipients_count, sound_some}
use Rattle.json_message.specs.Handed.{text_entries, MessageOctets}
use Rattle.json_message.specs.WriteOrder.{most_for, unread_alone}
use Rattle.json_message.specs.JsonWrite.{RawJson, message_of, written_text, wrong_table, json_write_order, json_write_refusal}
use Rattle.json_message.specs.Inner.Judged.{shared_levels, own_levels}
use Rattle.json_message.specs.Inner.PiecesOrder.{unread_inside, hollow_inside, objects_order, rules_of, content_test}
use Rattle.json_message.specs.Inner.PiecesOrder.{parameters_order}
use Rattle.json_message.specs.Inner.AskedOrder.{over_order, later_order, within_order, asked_order}
use Rattle.json_message.proofs.Theorems.{write_by_pieces}
use Rattle.json_judge.specs.Inner.Asked.{own_tests, unread_texts, hollow_texts, over_tests, within_tests, parameters_tests, recipients_tests}
use Rattle.json_write.specs.Answers.{WritesJson}

-- Numbers that are none of them 0.

all_nonzero : {A : Type 0} (f : A → List Test) → ((x : A) → nonzero (f x) ≡ true) → (xs : List A) → nonzero (flat_map f xs) ≡ true
unfolding flat_map
all_nonzero f p [] = refl
all_nonzero f p (x ∷ xs) = nonzero_append (f x) (flat_map f xs) (p x) (all_nonzero f p xs)

-- The sizes of what is all recipients'.
abbrev pub sizes_of : RawJson → Sizes
sizes_of c = record { key = 0; iv = length c.iv; ciphertext = length c.ciphertext; tag = length c.tag }

module _ (general : Bool) (c : RawJson) (known : List (List ℕ)) where
  abbrev rs : List RawRecipient
  rs = recipients_in c.recipients

  abbrev pub over : List Test
  over = over_tests c.protected c.shared rs

  abbrev pub within : List Test
  within = within_tests general known c.protected c.shared (sizes_of c) rs

  -- The order in which the code asks is the one that was shown.
  over_is : over_order (message_of c) ≡ over
  unfolding over_order over_tests unread_alone unread_texts
  over_is = refl

  -- One of them fails.
  pub over_nonzero : 0 < first over
  unfolding over_tests first
  over_nonzero = cases (too_long c.protected) (unread_texts levels levels c.protected c.shared rs)
    where
      cases : (a b : Bool) → 0 < cond a 6 (cond b 7 2)
      cases true b = omega arith
      cases false true = omega arith
      cases false false = omega arith

  pub over_stage : (k : ℕ) → stage_of (first over) k ≡ Refused (first over)
  over_stage k = sym (stages.refuses k over_nonzero)

  parameters_are : parameters_order known (message_of c) ≡ parameters_tests known c.protected c.shared (sizes_of c) rs
  unfolding parameters_order objects_order parameters_tests recipients_tests content_test
  parameters_are =
      let a = object_order c.protected (protected_entries c.protected) in
      let b = object_order c.shared (text_entries 1 c.shared) in
      let own = flat_map (λ r. own_tests r.header) rs in
      let rules = flat_map (rules_of known (message_of c)) rs ++ (content_test (message_of c) ∷ []) in
      append_assoc a (b ++ own) rules ∙ ap (λ (ts : List Test). a ++ ts) (append_assoc b own rules)

  within_is : (room : ℕ) → within_order general (message_of c) known room
      ≡ within ++ (1 if ltb room (length (written_text general c)) ∷ [])
  unfolding within_order later_order within_tests unread_texts unread_inside hollow_texts hollow_inside
  within_is room =
      let six = 6 if too_long c.protected in
      let seven = 7 if unread_texts shared_levels (own_levels general) c.protected c.shared rs in
      let ten = 10 if hollow_texts c.protected c.shared rs in
      ap (λ (ts : List Test). six ∷ seven ∷ ten ∷ (ts ++ (1 if ltb room (length (written_text general c)) ∷ []))) parameters_are

  pub within_nonzero : nonzero within ≡ true
  unfolding within_tests parameters_tests recipients_tests
  within_nonzero =
      let a = object_order c.protected (protected_entries c.protected) in
      let b = object_order c.shared (text_entries 1 c.shared) in
      nonzero_append a _ (object_nonzero c.protected _)
      (nonzero_append b _ (object_nonzero c.shared _)
      (nonzero_append (flat_map (λ r. own_tests r.header) rs) _
      (all_nonzero (λ (r : RawRecipient). own_tests r.header) (λ r. object_nonzero r.header _) rs)
      (nonzero_append (flat_map (rules_of known (message_of c)) rs) _
      (all_nonzero (rules_of known (message_of c)) (λ r. rules_nonzero known _ _ _) rs) refl)))

-- 20

pub wrong_sound : (general : Bool) (t : List ℕ) → sound_table t ≡ false → wrong_table general t ≡ true
unfolding wrong_table
wrong_sound general t e = ap (λ (a : Bool). not a || ltb (most_for general) (said_count t)) e

pub wrong_count : (general : Bool) (t : List ℕ) → most_for general < said_count t → wrong_table general t ≡ true
unfolding wrong_table
wrong_count general t h =
    ap (λ (b : Bool). not (sound_table t) || b) (lt-ltb (most_for general) (said_count t) h) ∙ or_true (not (sound_table t))
  where
    or_true : (a : Bool) → (a || true) ≡ true
    or_true true = refl
    or_true false = refl

-- The first refusal.
module _ (general : Bool) (c : RawJson) (known : List ℕ) (room : ℕ) where
  pub refusal_names : sound known ≡ false → json_write_refusal general c known room ≡ 3
  unfolding json_write_refusal json_write_order
  refusal_names e = first_fails (3 if not (sound known)) _ (ap not e)

  module _ (sounds : sound known ≡ true) where
    pub refusal_table : wrong_table general c.recipients ≡ true → json_write_refusal general c known room ≡ 20
    unfolding json_write_refusal json_write_order
    refusal_table e =
        first_passes (3 if not (sound known)) _ (ap not sounds) ∙ first_fails (20 if wrong_table general c.recipients) _ e

    module _ (table : sound_table c.recipients ≡ true) (few : said_count c.recipients ≤ most_for general)
        (octets : MessageOctets (message_of c)) where
      table_right : wrong_table general c.recipients ≡ false
      unfolding wrong_table
      table_right = ap₂ (λ (a b : Bool). not a || b) table (le-ltb (most_for general) (said_count c.recipients) few)

      behind_20 : json_write_refusal general c known room ≡ first (asked_order general (message_of c) (names known) room)
      unfolding json_write_refusal json_write_order
      behind_20 =
          let count = recipients_count c.recipients in
          first_passes (3 if not (sound known)) _ (ap not sounds)
          ∙ first_passes (20 if wrong_table general c.recipients) _ table_right
          ∙ write_by_pieces general (message_of c) octets (omega (arith, count, sound_some c.recipients table))
          (omega (arith, count, few)) (names known) room

      pub refusal_over : longest < length (written_text general c) →
          json_write_refusal general c known room ≡ first (over general c (names known))
      unfolding asked_order
      refusal_over h =
          behind_20
          ∙ ap (λ (b : Bool). first (cond b (over_order (message_of c)) (within_order general (message_of c) (names known) room)))
          (lt-ltb longest (length (written_text general c)) h)
          ∙ ap first (over_is general c (names known))

      module _ (short : length (written_text general c) ≤ longest) where
        abbrev asked : List Test
        asked = within general c (names known)

        behind_2 : json_write_refusal general c known room
            ≡ first (asked ++ (1 if ltb room (length (written_text general c)) ∷ []))
        unfolding asked_order
        behind_2 =
            behind_20
            ∙ ap (λ (b : Bool). first (cond b (over_order (message_of c)) (within_order general (message_of c) (names known) room)))
            (le-ltb longest (length (written_text general c)) short)
            ∙ ap first (within_is general c (names known) room)

        pub refusal_judged : (n : ℕ) → first asked ≡ n → 0 < n → json_write_refusal general c known room ≡ n
        refusal_judged n e h = behind_2 ∙ stopped asked _ (within_nonzero general c (names known)) n e h

        module _ (passed : first asked ≡ 0) where
          behind_18 : json_write_refusal general c known room ≡ first (1 if ltb room (length (written_text general c)) ∷ [])
          behind_18 = behind_2 ∙ first_skip asked _ (within_nonzero general c (names known)) passed

          pub refusal_room : room < length (written_text general c) → json_write_refusal general c known room ≡ 1
          refusal_room h =
              behind_18
              ∙ first_fails (1 if ltb room (length (written_text general c))) [] (lt-ltb room (length (written_text general c)) h)

          pub refusal_none : length (written_text general c) ≤ room → json_write_refusal general c known room ≡ 0
          unfolding first
          refusal_none h =
              behind_18
              ∙ first_passes (1 if ltb room (length (written_text general c))) [] (le-ltb room (length (written_text general c)) h)

-- The answers

module _ (general : Bool) (c : RawJson) (known out : List ℕ) where
  pub refuses : (n : ℕ) → json_write_refusal general c known (length out) ≡ n → 0 < n → WritesJson general c known out (Refused n) out
  refuses n e h =
      writes_refused (json_write_refusal general c known (length out)) (written_text general c) out n (sym e) (λ z. omega (arith, z, h))

  pub accepts : json_write_refusal general c known (length out) ≡ 0 → (n : ℕ) (last : List ℕ) → n ≡ length (written_text general c) →
      last ≡ written 0 (written_text general c) out → WritesJson general c known out (Passed n) last
  accepts = writes_done (json_write_refusal general c known (length out)) (written_text general c) out
