-- A refusal changes nothing: the result is the number and zeros, and the lent header buffer and list are unchanged.
use mathlib.Core.Path.{◌≡◌, ap}
use mathlib.Core.Bool.{Bool, false, cond}
use mathlib.Core.List.{List}
use Prim.Native.Nat.{ℕ}
use lib.Dec.{eqb}
use borrow.Author.Tests.{ne_eqb}
use Rattle.prelude.specs.Buffer.{written}
use Rattle.rows.specs.Tables.{listed}
use Rattle.jwe.specs.Judge.{Call, refusal, outcome, accepted, refused, result_of, header_after, list_after}

-- The result of a refusal is its number and zeros ..
module _ (c : Call) (n : refusal c ≡ 0 → ⊥) where
  fails : eqb (refusal c) 0 ≡ false
  fails = ne_eqb (refusal c) 0 n

  pub refused_result : result_of c ≡ refused (refusal c)
  unfolding result_of
  refused_result =
      ap (λ (b : Bool). cond b (accepted c.message (outcome c.message c.recipient)) (refused (refusal c))) fails

  -- .. and what was lent is unchanged.
  refused_header : (before : List ℕ) → header_after c before ≡ before
  unfolding header_after
  refused_header before =
      ap (λ (b : Bool). cond b (written 0 (outcome c.message c.recipient).header before) before) fails

  refused_list : (before : List ℕ) → list_after c before ≡ before
  unfolding list_after
  refused_list before =
      ap (λ (b : Bool). cond b (written 0 (listed (outcome c.message c.recipient).entries) before) before) fails

  pub refusal_changes_nothing : (buffer list : List ℕ) →
      (result_of c ≡ refused (refusal c)) × (header_after c buffer ≡ buffer) × (list_after c list ≡ list)
  refusal_changes_nothing buffer list = (refused_result, refused_header buffer, refused_list list)
