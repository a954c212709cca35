-- `check` answers by the definition: each test that it makes settles the fault, or leaves the next one to.
use mathlib.Core.Path.{◌≡◌, sym, ◌∙◌}
use mathlib.Core.Bool.{Bool, true, false}
use Prim.Native.Nat.{ℕ}
use lib.Dec.{eqb}
use borrow.Author.Tests.{eqb-true, eqb-false}
use Rattle.base64url.proofs.Counting.{none_outside}
use Rattle.base64url.proofs.Answers.{checked_outside, checked_lone, checked_spare, checked_sound}
use Rattle.base64url.proofs.check.Goals as goal
use Rattle.base64url.proofs.check.Goals.{then-not-in_alphabet-via-then-not-in_alphabet, then-not-in_alphabet-via-else-not-in_alphabet+then-text-eq1, then-not-in_alphabet-via-else-not-in_alphabet+else-text-eq1+then-spare_bits-ne0}

-- what the count found, by what `in_alphabet` answers
none : {n : ℕ} {a : Bool} → a ≡ eqb n 0 → a ≡ true → n ≡ 0
none {n} e found = eqb-true n 0 (sym e ∙ found)

some : {n : ℕ} {a : Bool} → a ≡ eqb n 0 → a ≡ false → n ≡ 0 → ⊥
some {n} e found = eqb-false n 0 (sym e ∙ found)

pub spare_bits-requires : goal.spare_bits-requires
spare_bits-requires c = none_outside c.args.text.now (none c.in_alphabet.ensures c.if-not-in_alphabet.false)

pub returns-then-not-in_alphabet : goal.returns-then-not-in_alphabet
returns-then-not-in_alphabet c =
    let text = c.args.text.now in
    let inside = c.in_alphabet.ensures in
    elim c.then-not-in_alphabet.branch [
      | then-not-in_alphabet-via-then-not-in_alphabet w ↦ checked_outside text (some inside w.if-not-in_alphabet.true)
      | then-not-in_alphabet-via-else-not-in_alphabet+then-text-eq1 w ↦
          checked_lone text (none inside w.if-not-in_alphabet.false) w.if-text-eq1.true
      | then-not-in_alphabet-via-else-not-in_alphabet+else-text-eq1+then-spare_bits-ne0 w ↦
          checked_spare text (none inside w.if-not-in_alphabet.false) w.if-text-eq1.false
          (λ zero. w.if-spare_bits-ne0.true (w.spare_bits.ensures ∙ zero))
    ]

pub returns : goal.returns
returns c =
    checked_sound c.args.text.now (none c.in_alphabet.ensures c.if-not-in_alphabet.false) c.if-text-eq1.false
    (sym c.spare_bits.ensures ∙ c.if-spare_bits-ne0.false)
