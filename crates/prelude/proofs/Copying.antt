-- A list copied into a buffer element by element, whatever its elements' width: what is still to come is the list from the
-- next element on.
use mathlib.Core.Path.{◌≡◌, refl, subst}
use mathlib.Core.List.{List}
use Prim.Native.Nat.{ℕ, ◌+◌, ◌≤◌, ◌<◌}
use native.Mathlib.Nat.{add-zero}
use native.Mathlib.Omega.{arith}
use lib.ListN.{length, drop, get_or, set, drop_of_length-le}
use Rattle.prelude.specs.Buffer.{written}
use Rattle.prelude.proofs.Lists.{drop_next}
use Rattle.prelude.proofs.Writing.{Writing, begin, put, done}

pub copy_begins : (at : ℕ) (s before : List ℕ) → at + length s ≤ length before → Writing at s before (drop 0 s) (at + 0) before
copy_begins at s before h = rw (add-zero at) (begin at s before h)

module _ {at : ℕ} {s before now : List ℕ} {k : ℕ} (w : Writing at s before (drop k s) (at + k) now) where
  pub copy_turn : k < length s → Writing at s before (drop (k + 1) s) (at + (k + 1)) (set now (at + k) (get_or s k 0))
  copy_turn h =
      put (get_or s k 0) (at + (k + 1)) (omega arith)
      (subst (λ (l : List ℕ). Writing at s before l (at + k) now) (drop_next s k (k + 1) refl h) w)

  pub copied : length s ≤ k → now ≡ written at s before
  copied h = done (subst (λ (l : List ℕ). Writing at s before l (at + k) now) (drop_of_length-le s h) w)
