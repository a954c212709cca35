-- `sizes` has each of the four by itself.
use mathlib.Core.Path.{◌≡◌, ap₂, ◌∙◌}
use Prim.Native.Nat.{ℕ}
use Rattle.jose.specs.declared.Sizes.{Sizes}
use Rattle.headers.proofs.sizes.Goals as goal

abbrev made : ℕ → ℕ → ℕ → ℕ → Sizes
made k i c t = record { key = k; iv = i; ciphertext = c; tag = t }

all_four : {k k' i i' c c' t t' : ℕ} → k ≡ k' → i ≡ i' → c ≡ c' → t ≡ t' → made k i c t ≡ made k' i' c' t'
all_four {k} {k'} {i} {i'} {c} {c'} {t} {t'} e f g h =
    ap₂ (λ (x y : ℕ). made x y c t) e f ∙ ap₂ (λ (x y : ℕ). made k' i' x y) g h

pub returns : goal.returns
returns c =
    all_four
    c.decoded_length.ensures
    c.decoded_length-2.ensures
    c.decoded_length-3.ensures
    c.decoded_length-4.ensures
