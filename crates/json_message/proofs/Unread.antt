-- Refusal 7 by the texts: none is refused exactly where each reads within the levels that are left to it.
use mathlib.Core.Path.{◌≡◌, refl, ap, ap₂}
use mathlib.Core.List.{List, [], ◌∷◌}
use mathlib.Core.Bool.{Bool, true, false, ◌||◌, true≢false}
use mathlib.Core.Logic.{◌↔◌}
use Prim.Native.Nat.{ℕ, ◌≤◌}
use native.Mathlib.Omega.{arith}
use Rattle.prelude.specs.Any.{any}
use Rattle.prelude.specs.Limits.{levels}
use Rattle.grammar.specs.Reader.{Answer, nothing, found, read_text}
use Rattle.grammar.specs.Readings.{Reading}
use Rattle.grammar.proofs.Theorems.{read_sound, read_complete}
use Rattle.headers.specs.Headers.{is_nothing}
use Rattle.recipients.specs.Table.{RawRecipient}
use Rattle.json_message.specs.JsonText.{RawMessage}
use Rattle.json_message.specs.WriteOrder.{unread_within, unread_alone}
use Rattle.json_message.specs.Inner.Judged.{Judged, OwnJudged, shared_levels, own_levels, TextsJudged}
use Rattle.json_message.specs.Inner.PiecesOrder.{unread_inside}
use Rattle.json_message.proofs.FieldEntries.{or_false}

answer_is : (l : ℕ) (s : List ℕ) (a : Answer) → read_text l s ≡ a → is_nothing a ≡ false → Reading l s
answer_is l s nothing p e = absurd (true≢false e)
answer_is l s (found e k) p q = read_sound l s e k p

pub reads_iff : (l : ℕ) (s : List ℕ) → (is_nothing (read_text l s) ≡ false) ↔ Reading l s
reads_iff l s = ((λ e. answer_is l s (read_text l s) refl e), (λ r. ap is_nothing (read_complete l s r).0))

pub text_iff : (l : ℕ) (w : List ℕ) → (unread_within l w ≡ false) ↔ Judged l w
text_iff l [] = ((λ e. tt), (λ h. refl))
text_iff l (c ∷ w) = reads_iff l (c ∷ w)

or_iff : (a b : Bool) → ((a || b) ≡ false) ↔ ((a ≡ false) × (b ≡ false))
or_iff a b = (or_false a b, (λ h. ap₂ ◌||◌ h.0 h.1))

own_iff : (l : ℕ) (rs : List RawRecipient) → (any (λ r. unread_within l r.header) rs ≡ false) ↔ OwnJudged l rs
unfolding any
own_iff l [] = ((λ e. tt), (λ h. refl))
own_iff l (r ∷ rs) =
    let x = or_iff (unread_within l r.header) (any (λ q. unread_within l q.header) rs) in
    let y = text_iff l r.header in
    let z = own_iff l rs in
    ((λ e. (y.0 (x.0 e).0, z.0 (x.0 e).1)), (λ h. x.1 (y.1 h.0, z.1 h.1)))

-- The shared and the own headers.
abbrev unread_texts : ℕ → ℕ → RawMessage → Bool
unread_texts l m c = unread_within l c.shared || any (λ r. unread_within m r.header) c.recipients

texts_iff : (l m : ℕ) (c : RawMessage) → (unread_texts l m c ≡ false) ↔ TextsJudged l m c
texts_iff l m c =
    let x = or_iff (unread_within l c.shared) (any (λ r. unread_within m r.header) c.recipients) in
    let y = text_iff l c.shared in
    let z = own_iff m c.recipients in (
      (λ e. record { shared = y.0 (x.0 e).0; own = z.0 (x.0 e).1 }),
      (λ h. x.1 (y.1 h.shared, z.1 h.own)),
    )

-- Where they will stand.
pub inside_iff : (general : Bool) (c : RawMessage) →
    (unread_inside general c ≡ false) ↔ TextsJudged shared_levels (own_levels general) c
unfolding unread_inside
inside_iff general c = texts_iff shared_levels (own_levels general) c

-- Each alone.
pub alone_iff : (c : RawMessage) → (unread_alone c ≡ false)
    ↔ ((unread_within levels c.protected ≡ false) × TextsJudged levels levels c)
unfolding unread_alone
alone_iff c =
    let x = or_iff (unread_within levels c.protected) (unread_texts levels levels c) in
    let y = texts_iff levels levels c in
    ((λ e. ((x.0 e).0, y.0 (x.0 e).1)), (λ h. x.1 (h.0, y.1 h.1)))

-- What reads within fewer levels reads within more.

pub text_more : (l m : ℕ) → l ≤ m → (w : List ℕ) → Judged l w → Judged m w
text_more l m h [] j = tt
text_more l m h (c ∷ w) j = record {
  text = j.text;
  reads = j.reads;
  object = j.object;
  within = omega (arith, j.within);
  well_formed = j.well_formed;
  pairs = j.pairs;
}

own_more : (l m : ℕ) → l ≤ m → (rs : List RawRecipient) → OwnJudged l rs → OwnJudged m rs
own_more l m h [] j = tt
own_more l m h (r ∷ rs) j = (text_more l m h r.header j.0, own_more l m h rs j.1)

own_fewer : (general : Bool) → own_levels general ≤ levels
own_fewer true = omega arith
own_fewer false = omega arith

pub inside_alone : (general : Bool) (c : RawMessage) → TextsJudged shared_levels (own_levels general) c →
    TextsJudged levels levels c
inside_alone general c j = record {
  shared = text_more shared_levels levels (omega arith) c.shared j.shared;
  own = own_more (own_levels general) levels (own_fewer general) c.recipients j.own;
}
