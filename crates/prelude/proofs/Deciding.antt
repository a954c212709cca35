-- What does not hold is decided by false.
use mathlib.Core.Path.{◌≡◌, sym}
use mathlib.Core.Bool.{true, false, true≢false}
use mathlib.Core.Logic.{◌↔◌}

pub decided_not : (P : Type 0) → (P → ⊥) → (false ≡ true) ↔ P
decided_not P n = ((λ z. absurd (true≢false (sym z))), (λ p. absurd (n p)))
