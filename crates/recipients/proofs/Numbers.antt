-- Numbers of four octets and their octets undo each other.
use mathlib.Core.Path.{◌≡◌, refl, ap, sym, ◌∙◌}
use mathlib.Core.List.{List, [], ◌∷◌, ◌++◌}
use Prim.Native.Nat.{ℕ, zero, suc, ◌+◌, ◌*◌, ◌/◌, ◌%◌, ◌≤◌, ◌<◌}
use native.Mathlib.Nat.{add-zero}
use native.Mathlib.Omega.{arith}
use lib.ListN.{length, drop, get_or}
use lib.Seq.{get_or-drop}
use Rattle.prelude.specs.Buffer.{AllBelow}
use Rattle.prelude.specs.Limits.{number_limit}
use Rattle.prelude.proofs.Lists.{drop_next}
use Rattle.recipients.specs.Table.{four_octets}
use Rattle.recipients.specs.Parsed.{four_at}

-- four octets from a position on are the first four from there
four_dropped : (s : List ℕ) (m : ℕ) → four_at s m ≡ four_at (drop m s) 0
unfolding four_at
four_dropped s m =
    let here : get_or s m 0 ≡ get_or (drop m s) 0 0 =
    ap (λ (k : ℕ). get_or s k 0) (sym (add-zero m)) ∙ sym (get_or-drop m s 0 0) in
    omega (arith, get_or-drop m s 1 0, get_or-drop m s 2 0, get_or-drop m s 3 0)

four_front : (n : ℕ) (q : List ℕ) → four_at (four_octets n ++ q) 0 ≡ n
unfolding four_at
four_front n q = omega arith

-- the number that a number's octets say
pub four_said : (s : List ℕ) (m n : ℕ) (q : List ℕ) → drop m s ≡ four_octets n ++ q → four_at s m ≡ n
four_said s m n q e = four_dropped s m ∙ ap (λ (l : List ℕ). four_at l 0) e ∙ four_front n q

octets_of_lem : (a b c d : ℕ) → b < 256 → c < 256 → d < 256 → four_octets (((a * 256 + b) * 256 + c) * 256 + d) ≡ a ∷ b ∷ c ∷ d ∷ []
octets_of_lem a b c d hb hc hd =
    let n = ((a * 256 + b) * 256 + c) * 256 + d in
    let first : n / 16777216 ≡ a = omega arith in
    let second : n / 65536 % 256 ≡ b = omega arith in
    let third : n / 256 % 256 ≡ c = omega arith in
    let fourth : n % 256 ≡ d = omega arith in
    rw (first, second, third, fourth)

octet_below : (s : List ℕ) → AllBelow 256 s → (k : ℕ) → get_or s k 0 < 256
octet_below [] h k = omega arith
octet_below (x ∷ s) h zero = h.0
octet_below (x ∷ s) h (suc k) = octet_below s h.1 k

module _ (s : List ℕ) (octets : AllBelow 256 s) (at : ℕ) where
  pub four_below : four_at s at < number_limit
  unfolding four_at
  four_below =
      omega (
        arith,
        octet_below s octets at,
        octet_below s octets (at + 1),
        octet_below s octets (at + 2),
        octet_below s octets (at + 3),
      )

  -- the octets of the number that octets say
  pub octets_said : at + 4 ≤ length s → four_octets (four_at s at) ++ drop (at + 4) s ≡ drop at s
  unfolding four_at
  octets_said h =
      ap (λ (l : List ℕ). l ++ drop (at + 4) s)
      (octets_of_lem (get_or s at 0) (get_or s (at + 1) 0) (get_or s (at + 2) 0) (get_or s (at + 3) 0) (octet_below s octets (at + 1))
      (octet_below s octets (at + 2)) (octet_below s octets (at + 3)))
      ∙ sym (drop_next s at (at + 1) refl (omega arith)
      ∙ ap (λ (l : List ℕ). get_or s at 0 ∷ l) (drop_next s (at + 1) (at + 2) (omega arith) (omega arith)
      ∙ ap (λ (l : List ℕ). get_or s (at + 1) 0 ∷ l) (drop_next s (at + 2) (at + 3) (omega arith) (omega arith)
      ∙ ap (λ (l : List ℕ). get_or s (at + 2) 0 ∷ l) (drop_next s (at + 3) (at + 4) (omega arith) (omega arith)))))
