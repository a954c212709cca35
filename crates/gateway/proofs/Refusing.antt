-- A refusal has one of the numbers that its function can give, and changes nothing (demand 1).
use mathlib.Core.Path.{◌≡◌, refl, ap, ap₂}
use mathlib.Core.Bool.{Bool, true, false, ◌&&◌, cond}
use mathlib.Core.Logic.{◌⊎◌, inl, inr, ◌↔◌}
use mathlib.Core.List.{List, []}
use Prim.Native.Nat.{ℕ, ◌*◌, ◌<◌}
use native.Mathlib.Omega.{arith}
use lib.ListN.{length}
use lib.Dec.{eqb}
use borrow.Author.Tests.{eqb-true, leb-false, lt-leb}
use Rattle.prelude.specs.Refusals.{OneOf}
use Rattle.prelude.specs.Outputs.{octets_written, ChangesNothing}
use Rattle.prelude.proofs.Refusals.{first_listed}
use Rattle.prelude.proofs.Outputs.{changes_nothing}
use Rattle.base64url.specs.Base64url.{decoded}
use Rattle.base64url.specs.Answers.{decode_order, decode_refusal, decode_buffer}
use Rattle.headers.specs.Headers.{text_order, object_order}
use Rattle.jwe.specs.Judge.{Call, refusal}
use Rattle.aad.specs.Aad.{aad_text, aad_order, aad_refusal, aad_buffer}
use Rattle.jwe_write.specs.Write.{Raw, compact_text, write_order, write_refusal}
use Rattle.jwe_write.specs.Answers.{write_buffer}
use Rattle.jwe.proofs.SmallRefusals.{refusal_given}
use Rattle.prelude.specs.Buffer.{written}
use Rattle.parameters.specs.Lines.{Line, line_width, laid}
use Rattle.differences.specs.Differences.{compared, differences}
use Rattle.differences.specs.Answers.{refusal_of, both_accepted, holds_all, compare_number, shown_lines}
use Rattle.gateway.specs.Numbers.{read_numbers, decode_numbers, aad_numbers, write_numbers, compare_numbers}

-- Reading

pub read_listed : (c : Call) → (refusal c ≡ 0 → ⊥) → OneOf (refusal c) read_numbers
read_listed = refusal_given

-- Decoding, AAD and writing: the numbers of their orders

pub decoding_changes_nothing : (text out : List ℕ) → (decode_refusal text (length out) ≡ 0 → ⊥) →
    ChangesNothing decode_numbers (decode_refusal text (length out))
    (octets_written (decode_refusal text (length out)) (decoded text)) out (decode_buffer text out)
unfolding decode_refusal decode_order
decoding_changes_nothing text out n =
    changes_nothing (decode_refusal text (length out)) (decoded text) out decode_numbers
    (first_listed (decode_order text (length out)) n) n

pub aad_changes_nothing : (header aad out : List ℕ) → (aad_refusal header aad (length out) ≡ 0 → ⊥) →
    ChangesNothing aad_numbers (aad_refusal header aad (length out))
    (octets_written (aad_refusal header aad (length out)) (aad_text header aad)) out (aad_buffer header aad out)
unfolding aad_refusal aad_order
aad_changes_nothing header aad out n =
    changes_nothing (aad_refusal header aad (length out)) (aad_text header aad) out aad_numbers
    (first_listed (aad_order header aad (length out)) n) n

pub writing_changes_nothing : (c : Raw) (known out : List ℕ) → (write_refusal c known (length out) ≡ 0 → ⊥) →
    ChangesNothing write_numbers (write_refusal c known (length out))
    (octets_written (write_refusal c known (length out)) (compact_text c)) out (write_buffer c known out)
unfolding write_refusal write_order text_order object_order
writing_changes_nothing c known out n =
    changes_nothing (write_refusal c known (length out)) (compact_text c) out write_numbers
    (first_listed (write_order c known (length out)) n) n

-- Comparing two messages

-- Its own number and its lines, by whether both are accepted and the list holds all.
module _ (left right known : List ℕ) (room : ℕ) where
  abbrev ls : List Line
  ls = differences (compared left) (compared right)

  abbrev number_by : Bool → Bool → ℕ
  number_by b h = cond b (cond h 0 1) 0

  abbrev lines_by : Bool → Bool → List Line
  lines_by b h = cond (b && h) ls []

  both : both_accepted left right known ≡ true → (refusal_of left known ≡ 0) × (refusal_of right known ≡ 0)
  both e = cases (eqb (refusal_of left known) 0) (eqb (refusal_of right known) 0) refl refl e
    where
      cases : (a b : Bool) → eqb (refusal_of left known) 0 ≡ a → eqb (refusal_of right known) 0 ≡ b → (a && b) ≡ true →
          (refusal_of left known ≡ 0) × (refusal_of right known ≡ 0)
      cases true true p q r = (eqb-true _ _ p, eqb-true _ _ q)
      cases true false p q r = let z : ◌≡◌ {A = ℕ} 0 1 = cc in absurd (omega arith)
      cases false b p q r = let z : ◌≡◌ {A = ℕ} 0 1 = cc in absurd (omega arith)

  pub compare_listed : (compare_number left right known room ≡ 0 → ⊥) → OneOf (compare_number left right known room) compare_numbers
  unfolding compare_number
  compare_listed = cases (both_accepted left right known) (holds_all left right room)
    where
      cases : (b h : Bool) → (number_by b h ≡ 0 → ⊥) → OneOf (number_by b h) compare_numbers
      cases true true n = absurd (n refl)
      cases true false n = inl refl
      cases false h n = absurd (n refl)

  -- 1 exactly where both are accepted and the list is too short.
  pub compare_short : (compare_number left right known room ≡ 1)
      ↔ ((refusal_of left known ≡ 0) × (refusal_of right known ≡ 0) × (room < length ls * line_width))
  unfolding compare_number
  compare_short = (
    λ e. cases (both_accepted left right known) (holds_all left right room) refl refl e,
    λ h.
        ap₂ number_by (ap₂ (λ (a b : ℕ). eqb a 0 && eqb b 0) h.0 h.1) (lt-leb (length ls * line_width) room h.2),
  )
    where
      cases : (b h : Bool) → both_accepted left right known ≡ b → holds_all left right room ≡ h → number_by b h ≡ 1 →
          (refusal_of left known ≡ 0) × (refusal_of right known ≡ 0) × (room < length ls * line_width)
      cases true true p q e = absurd (omega (arith, e))
      cases true false p q e = ((both p).0, (both p).1, leb-false (length ls * line_width) room q)
      cases false h p q e = absurd (omega (arith, e))

  -- Where any refuses there are no lines.
  pub compare_none : ((refusal_of left known ≡ 0 → ⊥) ⊎ ((refusal_of right known ≡ 0 → ⊥) ⊎ (compare_number left right known room ≡ 0 → ⊥))) →
      shown_lines left right known room ≡ []
  unfolding compare_number shown_lines
  compare_none any = cases (both_accepted left right known) (holds_all left right room) refl refl any
    where
      refuses : (number_by true true ≡ 0 → ⊥) → both_accepted left right known ≡ true → ⊥
      refuses n e = n refl

      cases : (b h : Bool) → both_accepted left right known ≡ b → holds_all left right room ≡ h →
          ((refusal_of left known ≡ 0 → ⊥) ⊎ ((refusal_of right known ≡ 0 → ⊥) ⊎ (number_by b h ≡ 0 → ⊥))) → lines_by b h ≡ []
      cases true true p q (inl n) = absurd (n (both p).0)
      cases true true p q (inr (inl n)) = absurd (n (both p).1)
      cases true true p q (inr (inr n)) = absurd (n refl)
      cases true false p q n = refl
      cases false h p q n = refl

-- And the list is unchanged.
pub comparing_changes_nothing : (left right known list : List ℕ) →
    let shown = shown_lines left right known (length list) in
    ((refusal_of left known ≡ 0 → ⊥) ⊎ ((refusal_of right known ≡ 0 → ⊥) ⊎ (compare_number left right known (length list) ≡ 0 → ⊥))) →
    (length shown ≡ 0) × (written 0 (laid shown) list ≡ list)
unfolding written laid
comparing_changes_nothing left right known list any =
    let none = compare_none left right known (length list) any in
    (ap length none, ap (λ (xs : List Line). written 0 (laid xs) list) none)
