-- The two ways that a function that writes ends: refused, and done; and that a refusal changes nothing.
use mathlib.Core.Path.{◌≡◌, ap, sym, ◌∙◌}
use mathlib.Core.Bool.{Bool, cond}
use mathlib.Core.List.{List}
use Prim.Native.Nat.{ℕ}
use lib.ListN.{length}
use borrow.Author.Tests.{eq-eqb, ne_eqb}
use Rattle.prelude.specs.Buffer.{written}
use Rattle.prelude.specs.Refusals.{OneOf}
use Rattle.prelude.specs.Outputs.{octets_written, output_after, Writes, ChangesNothing}

module _ (refusal : ℕ) (xs before : List ℕ) where
  -- Refused, nothing is written.
  pub writes_refused : (number : ℕ) → number ≡ refusal → (number ≡ 0 → ⊥) → Writes refusal xs before number 0 before
  writes_refused number e n =
      let z = sym (ne_eqb refusal 0 (λ q. n (e ∙ q))) in
      record {
        refuses = e;
        counts = ap (λ (b : Bool). cond b (length xs) 0) z;
        leaves = ap (λ (b : Bool). cond b (written 0 xs before) before) z;
      }

  -- Not refused, all is written.
  pub writes_done : refusal ≡ 0 → (octets : ℕ) (after : List ℕ) → octets ≡ length xs → after ≡ written 0 xs before →
      Writes refusal xs before 0 octets after
  writes_done e octets after n w =
      let z = sym (eq-eqb refusal 0 e) in
      record {
        refuses = sym e;
        counts = n ∙ ap (λ (b : Bool). cond b (length xs) 0) z;
        leaves = w ∙ ap (λ (b : Bool). cond b (written 0 xs before) before) z;
      }

  pub changes_nothing : (numbers : List ℕ) → OneOf refusal numbers → (refusal ≡ 0 → ⊥) →
      ChangesNothing numbers refusal (octets_written refusal xs) before (output_after refusal xs before)
  changes_nothing numbers o n =
      let w = writes_refused refusal (λ i. refusal) n in
      record { listed = o; no_octets = sym w.counts; unchanged = sym w.leaves }

-- What a call promised of its answer holds of the case that the answer is.
pub writes_case : {A : Type 0} (number octets : A → ℕ) {refusal : ℕ} {xs before after : List ℕ} {answer is : A} →
    Writes refusal xs before (number answer) (octets answer) after → answer ≡ is →
    Writes refusal xs before (number is) (octets is) after
writes_case number octets {refusal} {xs} {before} {after} {answer} {is} w e = record {
  refuses = sym (ap number e) ∙ w.refuses;
  counts = sym (ap octets e) ∙ w.counts;
  leaves = w.leaves;
}
