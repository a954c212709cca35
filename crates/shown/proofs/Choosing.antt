-- Which text a value is shown from, by what the tests on its origin and its place tell.
use mathlib.Core.Path.{◌≡◌, ap, ◌∙◌}
use mathlib.Core.Bool.{Bool, true, false, cond}
use mathlib.Core.List.{List, []}
use Prim.Native.Nat.{ℕ, ◌+◌, ◌≤◌, ◌<◌}
use lib.Dec.{leb}
use native.Mathlib.Omega.{arith}
use borrow.Author.Tests.{eq-eqb, ne_eqb, le-leb, lt-leb}
use lib.ListN.{length}
use denote.Ref.{Bor}
use Rattle.parts.specs.Parts.{fits, part, part_at}
use Rattle.parts.proofs.Laws.{part_empty}
use Rattle.shown.specs.Shown.{value_shown, value_at}

module _ (message header : List ℕ) (origin start size : ℕ) where
  shown_message : (origin ≡ 0 → ⊥) → value_shown message header origin start size ≡ cond (leb origin 2) (part message start size) []
  unfolding value_shown
  shown_message h =
      ap (λ (b : Bool). cond b (part header start size) (cond (leb origin 2) (part message start size) [])) (ne_eqb origin 0 h)

  pub from_header : origin ≡ 0 → value_shown message header origin start size ≡ part header start size
  unfolding value_shown
  from_header e =
      ap (λ (b : Bool). cond b (part header start size) (cond (leb origin 2) (part message start size) [])) (eq-eqb origin 0 e)

  pub from_unfit : origin ≡ 0 → length header < start + size → value_shown message header origin start size ≡ []
  from_unfit e h = from_header e ∙ part_empty header start size h

  pub from_message : (origin ≡ 0 → ⊥) → origin ≤ 2 → value_shown message header origin start size ≡ part message start size
  from_message h k =
      shown_message h ∙ ap (λ (b : Bool). cond b (part message start size) []) (le-leb origin 2 k)

  pub from_nothing : 2 < origin → value_shown message header origin start size ≡ []
  from_nothing k =
      shown_message (λ z. omega arith) ∙ ap (λ (b : Bool). cond b (part message start size) []) (lt-leb origin 2 k)

-- Where it points, likewise

module _ (message header : Bor (List ℕ)) (origin start size : ℕ) where
  abbrev chosen : Bool → Bool → Bool → ℕ × ℕ
  chosen first there second =
      cond first
      (cond there (part_at header start size) message.ref_ptr)
      (cond second (part_at message start size) message.ref_ptr)

  first_text : origin ≡ 0 → value_at message header origin start size ≡ chosen true (fits header.now start size) (leb origin 2)
  unfolding value_at
  first_text e = ap (λ (b : Bool). chosen b (fits header.now start size) (leb origin 2)) (eq-eqb origin 0 e)

  second_text : (origin ≡ 0 → ⊥)
      → value_at message header origin start size ≡ chosen false (fits header.now start size) (leb origin 2)
  unfolding value_at
  second_text n = ap (λ (b : Bool). chosen b (fits header.now start size) (leb origin 2)) (ne_eqb origin 0 n)

  pub in_header : origin ≡ 0 → start + size ≤ length header.now
      → value_at message header origin start size ≡ part_at header start size
  in_header e h =
      first_text e
      ∙ ap (λ (b : Bool). chosen true b (leb origin 2)) (le-leb (start + size) (length header.now) h)

  pub out_of_header : origin ≡ 0 → length header.now < start + size
      → value_at message header origin start size ≡ message.ref_ptr
  out_of_header e h =
      first_text e
      ∙ ap (λ (b : Bool). chosen true b (leb origin 2)) (lt-leb (start + size) (length header.now) h)

  pub in_message_lem : (origin ≡ 0 → ⊥) → origin ≤ 2 → value_at message header origin start size ≡ part_at message start size
  in_message_lem n k =
      second_text n ∙ ap (λ (b : Bool). chosen false (fits header.now start size) b) (le-leb origin 2 k)

  pub in_nothing : 2 < origin → value_at message header origin start size ≡ message.ref_ptr
  in_nothing k =
      second_text (λ z. omega arith)
      ∙ ap (λ (b : Bool). chosen false (fits header.now start size) b) (lt-leb origin 2 k)
