-- What is shown of a written message, on one page: the writer can judge it by its pieces before it writes anything, and
-- the reader gives back what was written.
use mathlib.Core.Path.{◌≡◌, refl}
use mathlib.Core.List.{List, [], ◌∷◌}
use mathlib.Core.Bool.{Bool, true, false}
use mathlib.Core.Logic.{◌↔◌}
use Prim.Native.Nat.{ℕ, ◌≤◌, ◌<◌}
use native.Mathlib.Omega.{arith}
use lib.ListN.{length}
use Rattle.prelude.specs.Ascii.{ascii}
use Rattle.prelude.specs.Limits.{levels, header_room, list_room}
use Rattle.prelude.specs.Refusals.{first}
use Rattle.base64url.specs.Base64url.{alphabet, character, sextets, encoded}
use Rattle.grammar.specs.Readings.{Reading}
use Rattle.names.specs.Names.{names, sound}
use Rattle.jwe.specs.General.{json_order}
use Rattle.jwe.specs.Judge.{call, refusal, outcome}
use Rattle.json_text.specs.Pieces.{quoted, member_text, joined, bracketed}
use Rattle.json_message.specs.JsonText.{RawMessage, header_member, component_member, own_members, element_text}
use Rattle.json_message.specs.JsonText.{recipient_members, top_members, json_text}
use Rattle.json_message.specs.WriteOrder.{most_for, message_order}
use Rattle.json_message.specs.Handed.{MessageOctets, numbered_recipient, drop_space, trimmed, JsonHanded}
use Rattle.json_message.specs.Inner.Judged.{shared_levels, own_levels, TextsJudged, Ready}
use Rattle.json_message.specs.Inner.PiecesOrder.{pieces_order}
use Rattle.json_message.specs.Inner.AskedOrder.{asked_order}
use Rattle.json_message.proofs.Agree.{Agree}
use Rattle.json_message.proofs.Judging as Judging
use Rattle.json_message.proofs.Asking.{asked_first}
use Rattle.json_message.proofs.Lengths as Lengths
use Rattle.json_message.proofs.ReadsBack.{ready, back_accepted, back_handed}

-- The message reads exactly where each text reads within the levels that are left to it.
pub json_reads : (general : Bool) (c : RawMessage) → Ready general c →
    Reading levels (json_text general c) ↔ TextsJudged shared_levels (own_levels general) c
json_reads general c h = Judging.json_reads general c h

-- The reader's refusal of the message, from 7 on, is the first of the tests on its pieces, whatever stands behind.
pub judged_in_pieces : (general : Bool) (c : RawMessage) → Ready general c → (known : List (List ℕ)) (recipient : ℕ) →
    recipient < length c.recipients → Agree (json_order (json_text general c) known recipient) (pieces_order general known c)
judged_in_pieces general c h = Judging.judged_in_pieces general c h

-- So the writer's refusals from 6 on are those that the code asks, no text judged twice.
pub write_by_pieces : (general : Bool) (c : RawMessage) → MessageOctets c → 1 ≤ length c.recipients →
    length c.recipients ≤ most_for general → (known : List (List ℕ)) (room : ℕ) →
    first (message_order general c known room) ≡ first (asked_order general c known room)
write_by_pieces general c octets some few known room =
    asked_first general c known room
    (λ e. judged_in_pieces general c (ready general c octets some few e) known 0 (omega (arith, some)))

-- No text is longer than the message.

pub protected_within : (general : Bool) (c : RawMessage) → length c.protected ≤ length (json_text general c)
protected_within = Lengths.protected_within

pub shared_within : (general : Bool) (c : RawMessage) → length c.shared ≤ length (json_text general c)
shared_within = Lengths.shared_within

pub own_within : (general : Bool) (c : RawMessage) → 1 ≤ length c.recipients → length c.recipients ≤ most_for general →
    (n : ℕ) → n < length c.recipients →
    length (numbered_recipient c.recipients n).header ≤ length (json_text general c)
own_within = Lengths.own_within

-- What the writer does not refuse the reader accepts for each recipient, given room and the same known names, and it hands out
-- what was written.
pub written_reads_back : (general : Bool) (c : RawMessage) → MessageOctets c → 1 ≤ length c.recipients →
    length c.recipients ≤ most_for general → (known : List ℕ) (room : ℕ) → sound known ≡ true →
    first (message_order general c (names known) room) ≡ 0 → (recipient header_lent list_lent : ℕ) →
    recipient < length c.recipients → header_room ≤ header_lent → list_room ≤ list_lent →
    let message = json_text general c in
    (refusal (call message known recipient header_lent list_lent) ≡ 0)
    × JsonHanded general c recipient message (outcome message recipient)
written_reads_back general c octets some few known room list e recipient header_lent list_lent below a b = (
  back_accepted general c octets some few known room e recipient below list header_lent list_lent a b,
  back_handed general c octets some few known room e recipient below,
)

-- Examples, octet for octet: general, one recipient, a shared header with space behind its bracket; flattened, a
-- protected header, a recipient's own header and no key; and a text without the space around it.

general_example : json_text true (record {
  protected = [];
  shared = ascii "{ }";
  recipients = record { header = ascii "{}"; key = 1 ∷ [] } ∷ [];
  aad = [];
  iv = [];
  ciphertext = 0 ∷ [];
  tag = 255 ∷ [];
})
    ≡ ascii "{\"unprotected\":{ },\"recipients\":[{\"header\":{},\"encrypted_key\":\"AQ\"}],\"ciphertext\":\"AA\",\"tag\":\"_w\"}"
unfolding ascii alphabet character sextets encoded quoted member_text joined bracketed header_member component_member own_members element_text recipient_members top_members json_text
general_example = refl

flattened_example : json_text false (record {
  protected = ascii "{}";
  shared = [];
  recipients = record { header = ascii "{\"kid\":1}"; key = [] } ∷ [];
  aad = 2 ∷ [];
  iv = 3 ∷ [];
  ciphertext = [];
  tag = [];
})
    ≡ ascii "{\"protected\":\"e30\",\"header\":{\"kid\":1},\"aad\":\"Ag\",\"iv\":\"Aw\",\"ciphertext\":\"\"}"
unfolding ascii alphabet character sextets encoded quoted member_text joined bracketed header_member component_member own_members element_text recipient_members top_members json_text
flattened_example = refl

trimmed_example : trimmed (ascii " { } ") ≡ ascii "{ }"
unfolding ascii drop_space trimmed
trimmed_example = refl
