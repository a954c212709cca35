-- What the writer does not refuse the reader accepts and hands out: the message opens an object, and its refusals from 7
-- on, by the pieces, are the same for each recipient.
use mathlib.Core.Path.{◌≡◌, refl, sym, ap, ap₂, subst, ◌∙◌}
use mathlib.Core.List.{List, [], ◌∷◌, ◌++◌}
use mathlib.Core.Bool.{Bool, true, false, not, ◌||◌, cond}
use Prim.Native.Nat.{ℕ, ◌≤◌, ◌<◌}
use native.Mathlib.Omega.{arith}
use lib.ListN.{length}
use lib.Dec.{ltb}
use borrow.Author.Tests.{le-ltb}
use Rattle.prelude.specs.Limits.{longest, header_room, list_room}
use Rattle.prelude.specs.Refusals.{Test, ◌if◌, first}
use Rattle.prelude.proofs.Refusals.{first_passes}
use Rattle.grammar.specs.Reader as reader
use Rattle.grammar.specs.Reader.{pass_over, opens_object}
use Rattle.names.specs.Names.{names, sound}
use Rattle.headers.specs.Headers.{too_long}
use Rattle.jwe.specs.Compact.{compact_order}
use Rattle.jwe.specs.General.{json_order}
use Rattle.jwe.specs.Judge.{call, order, refusal, outcome}
use Rattle.jwe.specs.Inner.Outcomes.{compact_outcome, json_outcome}
use Rattle.jwe.proofs.Outcomes.{by_form}
use Rattle.json_text.specs.Pieces.{bracketed}
use Rattle.json_message.specs.JsonText.{RawMessage, json_text}
use Rattle.json_message.specs.WriteOrder.{most_for, unread_alone, message_order}
use Rattle.json_message.specs.Handed.{MessageOctets, JsonHanded}
use Rattle.json_message.specs.Inner.Judged.{Ready}
use Rattle.json_message.specs.Inner.PiecesOrder.{pieces_order}
use Rattle.json_message.proofs.Agree.{agreed}
use Rattle.json_message.proofs.Tables.{json_text_lem}
use Rattle.json_message.proofs.Unread.{alone_iff}
use Rattle.json_message.proofs.Judging.{counts, judged_in_pieces, passed_deepest}
use Rattle.json_message.proofs.Handing.{written_handed}

pub opens : (general : Bool) (c : RawMessage) → opens_object (json_text general c) ≡ true
unfolding opens_object json_text bracketed reader.skip pass_over
opens general c = refl

-- What the writer's refusals say where none is given.

passed_one : (n : ℕ) (b : Bool) (ts : List Test) → (n ≡ 0 → ⊥) → first (n if b ∷ ts) ≡ 0 → (b ≡ false) × (first ts ≡ 0)
unfolding first
passed_one n true ts z e = absurd (z e)
passed_one n false ts z e = (refl, e)

front_zero : (xs ys : List Test) → first (xs ++ ys) ≡ 0 → first xs ≡ 0
unfolding first
front_zero [] ys e = refl
front_zero (t ∷ xs) ys e = cases t.fails e (front_zero xs ys)
  where
    cases : (b : Bool) → cond b t.number (first (xs ++ ys)) ≡ 0 → (first (xs ++ ys) ≡ 0 → first xs ≡ 0) →
        cond b t.number (first xs) ≡ 0
    cases true e f = e
    cases false e f = f e

record Passed (general : Bool) (c : RawMessage) (known : List (List ℕ)) : Type 0 where
  alone : unread_alone c ≡ false
  size : ltb longest (length (json_text general c)) ≡ false
  judged : first (json_order (json_text general c) known 0) ≡ 0

passed : (general : Bool) (c : RawMessage) (known : List (List ℕ)) (room : ℕ) →
    first (message_order general c known room) ≡ 0 → Passed general c known
unfolding message_order
passed general c known room e =
    let m = json_text general c in
    let e₆ = passed_one 6 (too_long c.protected) _ (λ z. omega arith) e in
    let e₇ = passed_one 7 (unread_alone c) _ (λ z. omega arith) e₆.1 in
    let e₂ = passed_one 2 (ltb longest (length m)) _ (λ z. omega arith) e₇.1 in
    record { alone = e₇.0; size = e₂.0; judged = front_zero (json_order m known 0) _ e₂.1 }

-- What the reader's refusals ask.
accepted : (message known : List ℕ) (recipient header_lent list_lent : ℕ) → header_room ≤ header_lent → list_room ≤ list_lent →
    ltb longest (length message) ≡ false → sound known ≡ true → opens_object message ≡ true →
    first (json_order message (names known) recipient) ≡ 0 → refusal (call message known recipient header_lent list_lent) ≡ 0
unfolding refusal order
accepted message known recipient header_lent list_lent a b size list object passes =
    let lent : (ltb header_lent header_room || ltb list_lent list_room) ≡ false =
    ap₂ ◌||◌ (le-ltb header_lent header_room a) (le-ltb list_lent list_room b) in
    first_passes (1 if (ltb header_lent header_room || ltb list_lent list_room)) _ lent
    ∙ first_passes (2 if ltb longest (length message)) _ size
    ∙ first_passes (3 if not (sound known)) _ (ap not list)
    ∙ ap (λ b. first (cond b (json_order message (names known) recipient) (compact_order message (names known) recipient))) object
    ∙ passes

module _ (general : Bool) (c : RawMessage) (octets : MessageOctets c) (some : 1 ≤ length c.recipients)
    (few : length c.recipients ≤ most_for general) where
  pub ready : unread_alone c ≡ false → Ready general c
  ready e = record { octets = octets; some = some; few = few; texts = ((alone_iff c).0 e).1 }

  module _ (known : List ℕ) (room : ℕ) (e : first (message_order general c (names known) room) ≡ 0) (recipient : ℕ)
      (below : recipient < length c.recipients) where
    abbrev m : List ℕ
    m = json_text general c

    p : Passed general c (names known)
    p = passed general c (names known) room e

    h : Ready general c
    unfolding p
    h = ready p.alone

    by_pieces : first (pieces_order general (names known) c) ≡ 0
    unfolding p
    by_pieces = sym (agreed (judged_in_pieces general c h (names known) 0 (omega (arith, some)))) ∙ p.judged

    pub back_accepted : sound known ≡ true → (header_lent list_lent : ℕ) → header_room ≤ header_lent → list_room ≤ list_lent →
        refusal (call m known recipient header_lent list_lent) ≡ 0
    unfolding p
    back_accepted list header_lent list_lent a b =
        accepted m known recipient header_lent list_lent a b p.size list (opens general c)
        (agreed (judged_in_pieces general c h (names known) recipient below) ∙ by_pieces)

    pub back_handed : JsonHanded general c recipient m (outcome m recipient)
    back_handed =
        by_form m recipient (JsonHanded general c recipient m)
        (subst (λ z. JsonHanded general c recipient m (cond z (json_outcome m recipient) (compact_outcome m))) (sym (opens general c))
        (subst (λ z. JsonHanded general c recipient z (json_outcome z recipient)) (json_text_lem general c h.octets h.texts)
        (written_handed general c h.octets h.texts (counts general c h)
        (passed_deepest general c h (names known) by_pieces) recipient below)))
