-- The n-th of some words by its place: 0 and 1 are the first, and what is past the last is the last.
use Rattle.std.proofs.Common.{◌≡◌, ℕ, zero, suc, ◌-◌, ◌≤◌, min, List, [], ◌∷◌, Bor, length, get_or, refl, arith}
use Rattle.report.specs.Text.{word, said}

pub picked : (d : Bor (List ℕ)) (n i : ℕ) (ts : List (Bor (List ℕ))) → 1 ≤ length ts → i ≡ min (n - 1) (length ts - 1) →
    (get_or ts i d).now ≡ word n (said ts)
unfolding word
picked d n i [] h e = absurd (omega arith)
picked d n zero (t ∷ []) h e = refl
picked d n (suc i) (t ∷ []) h e = absurd (omega arith)
picked d zero zero (t ∷ u ∷ ts) h e = refl
picked d zero (suc i) (t ∷ u ∷ ts) h e = absurd (omega arith)
picked d (suc zero) zero (t ∷ u ∷ ts) h e = refl
picked d (suc zero) (suc i) (t ∷ u ∷ ts) h e = absurd (omega arith)
picked d (suc (suc n)) zero (t ∷ u ∷ ts) h e = absurd (omega arith)
picked d (suc (suc n)) (suc i) (t ∷ u ∷ ts) h e = picked d (suc n) i (u ∷ ts) (omega arith) (omega arith)
