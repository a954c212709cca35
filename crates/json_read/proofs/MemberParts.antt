-- Members and elements as the code reads them: the entry that begins at a position, and where the next one begins.
use mathlib.Core.Path.{◌≡◌, refl, ap, ap₂, sym, ◌∙◌}
use mathlib.Core.Bool.{Bool, true, false, cond}
use mathlib.Core.List.{List}
use Prim.Native.Nat.{ℕ, ◌-◌, ◌<◌}
use native.Mathlib.Omega.{arith}
use lib.ListN.{length}
use lib.Dec.{eqb}
use borrow.Author.Tests.{eq-eqb, ne_eqb}
use Rattle.grammar.specs.Grammar.{quote, comma}
use Rattle.grammar.specs.Reader.{refused, ended, found, octet_at, step, skip_space, between, string_at, entry_of}
use Rattle.json_read.specs.Members.{next_from, row_here, member_of}
use Rattle.json_read.specs.declared.Position.{Position}
use Rattle.grammar.proofs.Here.{class_inside}
use Rattle.json_read.proofs.StringParts.{scan}

module _ (s : List ℕ) (at after c : ℕ) (ha : after ≡ skip_space s at) (hc : c ≡ octet_at s after) where
  stands : (b : Bool) → eqb c comma ≡ b
      → next_from s at ≡ cond b (skip_space s (step s after)) (length s)
  unfolding next_from
  stands b e =
      ap (λ (n : ℕ). cond (eqb (octet_at s n) comma) (skip_space s (step s n)) (length s)) (sym ha)
      ∙ ap (λ (n : ℕ). cond (eqb n comma) (skip_space s (step s after)) (length s)) (sym hc)
      ∙ ap (λ (t : Bool). cond t (skip_space s (step s after)) (length s)) e

  pub next_past : (q r : ℕ) → c ≡ comma → q ≡ step s after → r ≡ skip_space s q → r ≡ next_from s at
  next_past q r e f g = g ∙ ap (skip_space s) f ∙ sym (stands true (eq-eqb c comma e))

  pub next_none : (c ≡ comma → ⊥) → length s ≡ next_from s at
  next_none n = sym (stands false (ne_eqb c comma n))

-- A string that is read begins inside the text.
pub string_inside : (s : List ℕ) (at e : ℕ) → string_at s at ≡ ended e → at < length s
unfolding string_at
string_inside s at e h = cases (eqb (octet_at s at) quote) refl h
  where
    cases : (b : Bool) → eqb (octet_at s at) quote ≡ b → cond b (scan s (between false) (step s at)) refused ≡ ended e → at < length s
    cases true b h = class_inside (λ n. eqb n quote) s at refl b
    cases false b h = let z : ◌≡◌ {A = ℕ} 0 1 = cc in absurd (omega arith)

-- The answer, by the numbers that the code finds
module _ (s : List ℕ) (start size v a k : ℕ) where
  pub entry_here : (n m : ℕ) (p : Position) → n ≡ size → m ≡ a - v → p.at ≡ next_from s a
      → row_here (record { name = record { start = start; len = n }; value = record { start = v; len = m }; kind = k }) p
      ≡ member_of s (entry_of (record { start = start; size = size }) v (found a k))
  entry_here n m p e f g =
      ap₂
      (λ (x y : ℕ). row_here (record { name = record { start = start; len = x }; value = record { start = v; len = y }; kind = k }) p)
      e f
      ∙ ap
      (λ (x : ℕ). row_here
      (record { name = record { start = start; len = size }; value = record { start = v; len = a - v }; kind = k })
      (record { at = x }))
      g
