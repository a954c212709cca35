-- A place at which octets stand encoded: shown and decoded, they come back.
use mathlib.Core.Path.{◌≡◌, ap, ap₂, ◌∙◌}
use mathlib.Core.Bool.{Bool, true, false, cond}
use mathlib.Core.List.{List}
use Prim.Native.Nat.{ℕ, ◌≤◌}
use lib.ListN.{length}
use lib.Dec.{ltb}
use borrow.Author.Tests.{eq-eqb, le-ltb}
use Rattle.prelude.specs.Buffer.{AllBelow, written}
use Rattle.prelude.specs.Refusals.{first}
use Rattle.base64url.specs.Base64url.{encoded, decoded}
use Rattle.base64url.specs.Fault.{Fault}
use Rattle.base64url.specs.Answers.{of_fault, decode_order, decode_refusal, decode_buffer}
use Rattle.base64url.proofs.Laws.{decode_encode, accepted_exactly}
use Rattle.grammar.specs.Places.{Place}
use Rattle.headers.specs.Components.{octets_at, Components}
use Rattle.jwe_write.specs.Write.{Raw}
use Rattle.round_trips.specs.Trips.{RawOctets, ComesBack, AllComeBack}

-- Each place of a message has its component's encoding.
pub record Stands (message : List ℕ) (q : Components) (c : Raw) : Type 0 where
  pub header : octets_at message q.protected ≡ encoded c.header
  pub key : octets_at message q.key ≡ encoded c.key
  pub iv : octets_at message q.iv ≡ encoded c.iv
  pub ciphertext : octets_at message q.ciphertext ≡ encoded c.ciphertext
  pub tag : octets_at message q.tag ≡ encoded c.tag

-- Decoding an encoding: not refused where there is room.
module _ (xs : List ℕ) (o : AllBelow 256 xs) where
  decodes : (room : ℕ) → length xs ≤ room → decode_refusal (encoded xs) room ≡ 0
  unfolding decode_refusal decode_order first
  decodes room h =
      ap₂ (λ (f : Fault) (ys : List ℕ). cond (of_fault f false true) 5 (cond (ltb room (length ys)) 1 0))
      ((accepted_exactly (encoded xs)).1 (xs, o, λ i. encoded xs)) (decode_encode xs o)
      ∙ ap (λ (b : Bool). cond b 1 0) (le-ltb room (length xs) h)

  module _ (message : List ℕ) (q : Place) (e : octets_at message q ≡ encoded xs) where
    pub comes_back : ComesBack message q xs
    comes_back = record { accepted = passes; octets = leaves }
      where
        passes : (room : ℕ) → length xs ≤ room → decode_refusal (octets_at message q) room ≡ 0
        passes room h = ap (λ (t : List ℕ). decode_refusal t room) e ∙ decodes room h

        leaves : (out : List ℕ) → length xs ≤ length out → decode_buffer (octets_at message q) out ≡ written 0 xs out
        leaves out h =
            ap₂ (λ (b : Bool) (ys : List ℕ). cond b (written 0 ys out) out)
            (eq-eqb (decode_refusal (octets_at message q) (length out)) 0 (passes (length out) h))
            (ap decoded e ∙ decode_encode xs o)

pub all_come_back : (message : List ℕ) (q : Components) (c : Raw) → RawOctets c → Stands message q c →
    AllComeBack message q c
all_come_back message q c o s = record {
  header = comes_back c.header o.header message q.protected s.header;
  key = comes_back c.key o.key message q.key s.key;
  iv = comes_back c.iv o.iv message q.iv s.iv;
  ciphertext = comes_back c.ciphertext o.ciphertext message q.ciphertext s.ciphertext;
  tag = comes_back c.tag o.tag message q.tag s.tag;
}
