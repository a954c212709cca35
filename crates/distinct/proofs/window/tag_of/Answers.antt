-- The fingerprint of the name that `name` gives, or 1.
use mathlib.Core.Path.{◌≡◌, refl, ap, sym, ◌∙◌}
use Prim.Native.Nat.{ℕ, zero, suc, ◌<◌}
use native.Mathlib.Omega.{arith}
use Rattle.grammar.specs.Spellings.{undo}
use Rattle.spelling.specs.Inner.Fingerprints.{fingerprint}
use Rattle.distinct.specs.Inner.Filter.{tag}
use Rattle.distinct.proofs.window.tag_of.Goals as goal

some : (n : ℕ) → (n ≡ 0 → ⊥) → (n ≡ tag n) × (0 < n)
some zero h = absurd (h refl)
some (suc n) h = (refl, omega arith)

pub returns-then-print-eq0 : goal.returns-then-print-eq0
returns-then-print-eq0 c = (
  ap tag (sym c.if-print-eq0.true ∙ c.fingerprint-print.ensures ∙ ap (λ w. fingerprint (undo w)) c.name.ensures),
  omega arith,
)

pub returns-else-print-eq0 : goal.returns-else-print-eq0
returns-else-print-eq0 c =
    let s = some c.fingerprint-print.result c.if-print-eq0.false in
    (s.0 ∙ ap tag (c.fingerprint-print.ensures ∙ ap (λ w. fingerprint (undo w)) c.name.ensures), s.1)
