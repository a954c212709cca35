-- The writer's tests: their numbers, and when none of them refuses. Where the texts read alone, the reader's tests on what would be
-- written are those on the pieces (json_message), which have none of the numbers 4, 5, 11 and 19.
use mathlib.Core.Path.{◌≡◌, refl, sym, ◌∙◌}
use mathlib.Core.List.{List, [], ◌∷◌, ◌++◌, flat_map}
use mathlib.Core.Bool.{Bool, true, false, cond}
use mathlib.Core.Logic.{◌↔◌}
use Prim.Native.Nat.{ℕ, ◌≤◌}
use lib.ListN.{length}
use lib.Dec.{ltb}
use borrow.Author.Tests.{ltb-false, le-ltb}
use Rattle.prelude.specs.Any.{any}
use Rattle.prelude.specs.Limits.{longest, levels}
use Rattle.prelude.specs.Refusals.{Test, ◌if◌, first}
use Rattle.jose.specs.HeaderRules.{recipient_order}
use Rattle.headers.specs.Headers.{too_long, unread, text_order, outermost, protected_entries, object_order}
use Rattle.jwe.specs.General.{is_hollow, json_order}
use Rattle.recipients.specs.Table.{RawRecipient}
use Rattle.json_message.specs.JsonText.{RawMessage, json_text}
use Rattle.json_message.specs.WriteOrder.{unread_within, unread_alone, message_order}
use Rattle.json_message.specs.Handed.{text_entries}
use Rattle.json_message.specs.Inner.PiecesOrder.{unread_inside, hollow_inside, protected_tests, objects_order, rules_of}
use Rattle.json_message.specs.Inner.PiecesOrder.{content_test, parameters_order}
use Rattle.json_message.specs.Inner.PiecesOrder.{pieces_order}
use Rattle.json_message.specs.Inner.AskedOrder.{over_order, later_order, within_order, asked_order}
use Rattle.json_message.proofs.Agree.{Agree, agreed}
use Rattle.meets.proofs.Deciding.{first_none}
use Rattle.meets.proofs.InOrder.{first_append}
use Rattle.meets.proofs.Orders.{none_append, none_one}
use Rattle.json_trips.specs.JsonTrips.{json_write_numbers}
use Rattle.json_trips.proofs.Listed.{Listed, listed_append, listed_flat, listed_numbered}

-- The numbers of the tests on the pieces

abbrev Ours : List Test → Type 0
Ours ts = Listed json_write_numbers ts

objects_ours : (c : RawMessage) → Ours (objects_order c)
unfolding objects_order object_order any
objects_ours c =
    let own_order : RawRecipient → List Test = λ r. object_order r.header (text_entries 2 r.header) in
    let owns = flat_map own_order c.recipients in
    let sharedOrder = object_order c.shared (text_entries 1 c.shared) in
    listed_append json_write_numbers (object_order c.protected (protected_entries c.protected)) (sharedOrder ++ owns) refl
    (listed_append json_write_numbers sharedOrder owns refl
    (listed_flat json_write_numbers own_order (λ r. refl) c.recipients))

rules_ours : (known : List (List ℕ)) (c : RawMessage) (r : RawRecipient) → Ours (rules_of known c r)
unfolding recipient_order any
rules_ours known c r = refl

parameters_ours : (known : List (List ℕ)) (c : RawMessage) → Ours (parameters_order known c)
unfolding parameters_order content_test any
parameters_ours known c =
    let rules = flat_map (rules_of known c) c.recipients in
    listed_append json_write_numbers (objects_order c) (rules ++ (content_test c ∷ [])) (objects_ours c)
    (listed_append json_write_numbers rules (content_test c ∷ [])
    (listed_flat json_write_numbers (rules_of known c) (rules_ours known c) c.recipients) refl)

protected_ours : (w : List ℕ) → Ours (protected_tests w)
unfolding protected_tests text_order any
protected_ours [] = refl
protected_ours (c ∷ w) = refl

pub pieces_ours : (general : Bool) (known : List (List ℕ)) (c : RawMessage) → Ours (pieces_order general known c)
unfolding pieces_order any
pieces_ours general known c =
    listed_append json_write_numbers (7 if unread_inside general c ∷ 10 if hollow_inside c ∷ [])
    (protected_tests c.protected ++ parameters_order known c) refl
    (listed_append json_write_numbers (protected_tests c.protected) (parameters_order known c) (protected_ours c.protected)
    (parameters_ours known c))

later_ours : (general : Bool) (c : RawMessage) (known : List (List ℕ)) (room : ℕ) → Ours (later_order general c known room)
unfolding later_order any
later_ours general c known room =
    listed_append json_write_numbers (parameters_order known c) (1 if ltb room (length (json_text general c)) ∷ [])
    (parameters_ours known c) refl

pub asked_ours : (general : Bool) (c : RawMessage) (known : List (List ℕ)) (room : ℕ) → Ours (asked_order general c known room)
unfolding asked_order over_order within_order any
asked_ours general c known room = cases (ltb longest (length (json_text general c)))
  where
    cases : (b : Bool) → Ours (cond b (over_order c) (within_order general c known room))
    cases true = refl
    cases false = later_ours general c known room

-- When none refuses

-- From 6 on.
pub record Passes (general : Bool) (c : RawMessage) (known : List (List ℕ)) (room : ℕ) : Type 0 where
  pub short : too_long c.protected ≡ false
  pub alone : unread_alone c ≡ false
  pub size : length (json_text general c) ≤ longest
  pub judged : first (json_order (json_text general c) known 0) ≡ 0
  pub fits : length (json_text general c) ≤ room

module _ (general : Bool) (c : RawMessage) (known : List (List ℕ)) (room : ℕ)
    (pieces : unread_alone c ≡ false → Agree (json_order (json_text general c) known 0) (pieces_order general known c)) where
  abbrev m : List ℕ
  m = json_text general c

  abbrev early : List Test
  early = 6 if too_long c.protected ∷ 7 if unread_alone c ∷ 2 if ltb longest (length m) ∷ []

  abbrev last : List Test
  last = 1 if ltb room (length m) ∷ []

  judged_last : unread_alone c ≡ false →
      (first (json_order m known 0 ++ last) ≡ 0) ↔ ((first (json_order m known 0) ≡ 0) × (length m ≤ room))
  unfolding any
  judged_last a =
      let p = pieces_order general known c in
      let same = (pieces a).before last last refl in
      let both = none_append p last (listed_numbered json_write_numbers refl p (pieces_ours general known c)) refl in
      let one = none_one 1 (ltb room (length m)) refl in (
        (λ e. let h = both.0 (sym same ∙ e) in (agreed (pieces a) ∙ h.0, ltb-false room (length m) (one.0 h.1))),
        (λ h. same ∙ both.1 (sym (agreed (pieces a)) ∙ h.0, one.1 (le-ltb room (length m) h.1))),
      )

  pub message_passes : (first (message_order general c known room) ≡ 0) ↔ Passes general c known room
  unfolding message_order any
  message_passes =
      let t = first_append early (json_order m known 0 ++ last) refl in
      let u = first_none early refl in (
        (λ e.
            let h = t.0 e in
            let a = u.0 h.0 in
            let b = (judged_last a.1.0).0 h.1 in
            record {
              short = a.0;
              alone = a.1.0;
              size = ltb-false longest (length m) a.1.1.0;
              judged = b.0;
              fits = b.1;
            }),
        (λ p.
            t.1 (
              u.1 (p.short, (p.alone, (le-ltb longest (length m) p.size, tt))),
              (judged_last p.alone).1 (p.judged, p.fits),
            )),
      )

-- Where none of the tests on the pieces refuses, the protected header is short enough and reads.

protected_passes : (w : List ℕ) → first (protected_tests w) ≡ 0 → (too_long w ≡ false) × (unread_within levels w ≡ false)
unfolding protected_tests text_order unread any
protected_passes [] e = (refl, refl)
protected_passes (c ∷ w) e =
    let h = (first_none (6 if too_long (c ∷ w) ∷ 7 if unread (c ∷ w) ∷ 10 if is_hollow (outermost (c ∷ w)) ∷ []) refl).0 e in
    (h.0, h.1.0)

pub pieces_protected : (general : Bool) (known : List (List ℕ)) (c : RawMessage) → first (pieces_order general known c) ≡ 0 →
    (too_long c.protected ≡ false) × (unread_within levels c.protected ≡ false)
unfolding pieces_order any
pieces_protected general known c e =
    let front = 7 if unread_inside general c ∷ 10 if hollow_inside c ∷ [] in
    let p = protected_tests c.protected in
    let back = parameters_order known c in
    let h = (first_append front (p ++ back) refl).0 e in
    protected_passes c.protected
    ((none_append p back (listed_numbered json_write_numbers refl p (protected_ours c.protected))
    (listed_numbered json_write_numbers refl back (parameters_ours known c))).0 h.1).0
