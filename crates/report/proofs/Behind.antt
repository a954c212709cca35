-- A text and the octet behind it: where another writer has written the text, one store ends it.
use mathlib.Core.Path.{◌≡◌, refl}
use mathlib.Core.List.{List, [], ◌∷◌}
use Prim.Native.Nat.{ℕ, ◌+◌, ◌≤◌}
use native.Mathlib.Omega.{arith}
use lib.ListN.{length, set}
use Rattle.prelude.specs.Buffer.{written}
use Rattle.prelude.proofs.Writing.{Writing, begin, put, put_part, room_part}
use Rattle.report.specs.Text.{ended}

-- xs is the text ys and the octet behind it, to be written from `at` on
module _ (xs ys : List ℕ) (end : ℕ) (parts : xs ≡ ended ys end) (at : ℕ) (before : List ℕ)
    (room : at + length xs ≤ length before) where
  pub text_fits : at + length ys ≤ length before
  text_fits = room_part ys (end ∷ []) parts (begin at xs before room)

  module _ {j : ℕ} {now : List ℕ} (e : j ≡ at + length ys) (w : now ≡ written at ys before) where
    behind_text : Writing at xs before (end ∷ []) j now
    behind_text = put_part ys (end ∷ []) parts (begin at xs before room) e w

    pub end_fits : j + 1 ≤ length now
    end_fits = omega (arith, behind_text.room, behind_text.same)

    pub behind_end : Writing at xs before [] (j + 1) (set now j end)
    behind_end = put end (j + 1) refl behind_text
