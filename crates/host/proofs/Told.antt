-- C is told what a function that writes answered.
use mathlib.Core.Path.{◌≡◌, ◌∙◌}
use mathlib.Core.List.{List}
use Prim.Native.Nat.{ℕ}
use Rattle.prelude.specs.Outputs.{Writes}

pub told : {refusal : ℕ} {xs before after : List ℕ} {number octets n k : ℕ} → n ≡ number → k ≡ octets →
    Writes refusal xs before number octets after → Writes refusal xs before n k after
told p q w = record { refuses = p ∙ w.refuses; counts = q ∙ w.counts; leaves = w.leaves }
