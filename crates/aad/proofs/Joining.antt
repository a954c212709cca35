-- What is answered and left, by whether there is an aad and whether the octets fit.
use mathlib.Core.Path.{◌≡◌, refl, ap, sym, ◌∙◌}
use mathlib.Core.Bool.{Bool, true, false, cond}
use mathlib.Core.List.{List, [], ◌∷◌, ◌++◌, append-nil}
use Prim.Native.Nat.{ℕ, ◌+◌, ◌≤◌, ◌<◌}
use native.Mathlib.Omega.{arith}
use Rattle.std.specs.Prelude.{None, Some}
use lib.ListN.{length, set, length-append}
use lib.Dec.{eqb, ltb}
use borrow.Author.Tests.{le-ltb, lt-ltb}
use Rattle.prelude.specs.Buffer.{written}
use Rattle.prelude.specs.Refusals.{first}
use Rattle.prelude.proofs.Writing.{Writing, begin, put, put_part, room_part}
use Rattle.prelude.proofs.Outputs.{writes_refused, writes_done}
use Rattle.aad.specs.Aad.{aad_text, aad_order, aad_refusal, Joins}

module _ (header aad out : List ℕ) where
  -- the header is in it
  pub header_in : length header ≤ length (aad_text header aad)
  unfolding aad_text
  header_in = cases (eqb (length aad) 0)
    where
      cases : (b : Bool) → length header ≤ length (cond b header (header ++ (46 ∷ aad)))
      cases true = omega arith
      cases false = omega (arith, length-append header (46 ∷ aad))

  pub without_aad : eqb (length aad) 0 ≡ true → aad_text header aad ≡ header
  unfolding aad_text
  without_aad e = ap (λ (b : Bool). cond b header (header ++ (46 ∷ aad))) e

  pub with_aad : eqb (length aad) 0 ≡ false → aad_text header aad ≡ header ++ (46 ∷ aad)
  unfolding aad_text
  with_aad e = ap (λ (b : Bool). cond b header (header ++ (46 ∷ aad))) e

  module _ (text : List ℕ) (is : aad_text header aad ≡ text) where
    by_room : (b : Bool) → ltb (length out) (length text) ≡ b → aad_refusal header aad (length out) ≡ cond b 1 0
    unfolding aad_refusal aad_order first
    by_room b e =
        ap (λ (l : List ℕ). cond (ltb (length out) (length l)) 1 0) is ∙ ap (λ (t : Bool). cond t 1 0) e

    pub fits : length text ≤ length out → (n : ℕ) (last : List ℕ) → n ≡ length text → last ≡ written 0 text out →
        Joins header aad out (Some n) last
    fits h n last e f =
        writes_done (aad_refusal header aad (length out)) (aad_text header aad) out
        (by_room false (le-ltb (length out) (length text) h)) n last (e ∙ ap length (sym is))
        (f ∙ ap (λ (l : List ℕ). written 0 l out) (sym is))

    pub short : length out < length text → Joins header aad out None out
    short h =
        writes_refused (aad_refusal header aad (length out)) (aad_text header aad) out 1
        (sym (by_room true (lt-ltb (length out) (length text) h))) (λ z. omega arith)

-- The header, the full stop and the aad, written one behind the other.
module _ (header aad out : List ℕ) (room : length header + 1 + length aad ≤ length out) {now : List ℕ}
    (w : now ≡ written 0 header out) where
  behind_stop : Writing 0 (header ++ (46 ∷ aad)) out aad (length header + 1) (set now (length header) 46)
  behind_stop =
      put 46 (length header + 1) refl
      (put_part header (46 ∷ aad) refl (begin 0 (header ++ (46 ∷ aad)) out (omega (arith, length-append header (46 ∷ aad), room)))
      (omega arith) w)

  pub aad_fits : length header + 1 + length aad ≤ length (set now (length header) 46)
  aad_fits = room_part aad [] (sym (append-nil aad)) behind_stop

  pub behind_aad : {last : List ℕ} → last ≡ written (length header + 1) aad (set now (length header) 46) →
      Writing 0 (header ++ (46 ∷ aad)) out [] (length header + 1 + length aad) last
  behind_aad {last} v = put_part aad [] (sym (append-nil aad)) behind_stop refl v
