-- `compare_all` compares one entry's value after the other.
use Rattle.std.proofs.Common.{◌≡◌, refl, Bool, false, None, ℕ, get_or, ◌∙◌, length-set, arith}
use Rattle.rows.specs.Rows.{Entry}
use Rattle.matching.specs.Inner.Places.{found}
use Rattle.matching.specs.Inner.Sides.{texts, entries, entry_at}
use Rattle.matching.proofs.Below.{below_none, below_set}
use Rattle.matching.proofs.Partners.{by_number}
use Rattle.parameters.specs.Parameters.{other_value}
use Rattle.parameters.proofs.compare_all.Goals as goal

pub loop-k-init : goal.loop-k-init
loop-k-init c =
    let left = c.args.left.now in
    let right = c.args.right.now in (
      refl,
      below_none false (λ (k : ℕ) (b : Bool). b ≡ other_value (texts left) (texts right) (entry_at left k) (found (entries right) (get_or c.args.partners.now k None)))
          c.args.others.now,
    )

pub loop-k-preserved : goal.loop-k-preserved
loop-k-preserved c =
    let left = c.args.left.now in
    let right = c.args.right.now in (
      length-set c.loop-k.others c.loop-k.k c.other.result ∙ c.loop-k.invariant.0,
      below_set false (λ (k : ℕ) (b : Bool). b ≡ other_value (texts left) (texts right) (entry_at left k) (found (entries right) (get_or c.args.partners.now k None)))
          c.loop-k.k c.loop-k.others c.other.result (omega (arith, c.loop-k.invariant.0)) c.other.ensures c.loop-k.invariant.1,
    )

pub returns : goal.returns
returns c =
    let left = c.args.left.now in
    let right = c.args.right.now in
    by_number left
    (λ (k : ℕ) (e : Entry). get_or c.loop-k.others k false ≡ other_value (texts left) (texts right) e (found (entries right) (get_or c.args.partners.now k None)))
    (λ k h. c.loop-k.invariant.1 k (omega arith))
