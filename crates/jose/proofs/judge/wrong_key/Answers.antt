-- `wrong_key` asks whether the mode has no key of its own, against whether there is none.
use mathlib.Core.Path.{◌≡◌, refl, ap, sym, ◌∙◌}
use mathlib.Core.Bool.{Bool, true, false, not, beq, xor, ◌||◌}
use Prim.Native.Nat.{ℕ}
use lib.Dec.{eqb}
use borrow.Author.Tests.{ne_eqb}
use Rattle.jose.specs.HeaderRules.{keyless}
use Rattle.jose.proofs.judge.wrong_key.Goals.{then-mode-eq3, else-mode-eq3}
use Rattle.jose.proofs.judge.wrong_key.Goals as goal

differing : (a b : Bool) → not (beq a b) ≡ xor a b
unfolding xor
differing true true = refl
differing true false = refl
differing false true = refl
differing false false = refl

pub returns : goal.returns
returns c =
    let m = c.args.mode in
    let is : c.if-mode-eq3.result ≡ keyless m =
    elim c.if-mode-eq3.branch [
      | then-mode-eq3 w ↦ w.result-is ∙ ap (λ (k : ℕ). eqb k 3) w.if-mode-eq3.true ∙ sym (ap keyless w.if-mode-eq3.true)
      | else-mode-eq3 w ↦ w.result-is ∙ sym (ap (λ (b : Bool). b || eqb m 5) (ne_eqb m 3 w.if-mode-eq3.false))
    ] in
    differing c.if-mode-eq3.result (eqb c.args.sizes.key 0) ∙ ap (λ (b : Bool). xor b (eqb c.args.sizes.key 0)) is
