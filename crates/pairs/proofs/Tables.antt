-- A table of positions: an empty one, and one more position left.
use mathlib.Core.Path.{◌≡◌, refl, ap, sym, subst, ◌∙◌}
use mathlib.Core.Bool.{Bool, true, false}
use mathlib.Core.List.{List, ◌++◌}
use mathlib.Core.Logic.{◌⊎◌, inl, inr}
use Prim.Native.Nat.{ℕ, ◌≤◌, ◌<◌}
use native.Mathlib.Omega.{arith}
use lib.ListN.{length, take, get_or, set, get_or-append}
use lib.Seq.{get_or-set_same, get_or-set_other, get_or-take, length-take-le}
use lib.Dec.{eqb}
use borrow.Author.Tests.{eqb-true, eqb-false}
use Rattle.distinct.specs.Inner.Filter.{Empty}
use Rattle.grammar.specs.Places.{Member}
use Rattle.json_read.specs.declared.Position.{Position}
use Rattle.json_read.specs.declared.member.Row.{Row}
use Rattle.pairs.specs.Inner.Walks.{Spot, Table, Kept, Left, Near, Scanned, Finds, Going}
use Rattle.pairs.specs.declared.Walk.{Walk}
use Rattle.pairs.specs.declared.Found.{Found}
use Rattle.pairs.specs.declared.Found.TheVariants.{Named, Other}

pub table_empty : (t : List ℕ) (j size : ℕ) (w : List ℕ) → Empty w size → Table t j size w
table_empty t j size w e k h = inl (e k h)

pub table_left : (t : List ℕ) (j size at : ℕ) (w z : List ℕ) → Spot t j at → Left size at w z → Table t j size w →
    Table t j size z
table_left t j size at w z c l f k h = cases (l k h)
  where
    same : get_or z k 0 ≡ get_or w k 0 → (get_or w k 0 ≡ 0) ⊎ Spot t j (get_or w k 0) →
        (get_or z k 0 ≡ 0) ⊎ Spot t j (get_or z k 0)
    same e (inl g) = inl (e ∙ g)
    same e (inr g) = inr (subst (Spot t j) (sym e) g)

    cases : (get_or z k 0 ≡ get_or w k 0) ⊎ (get_or z k 0 ≡ at) → (get_or z k 0 ≡ 0) ⊎ Spot t j (get_or z k 0)
    cases (inl e) = same e (f k h)
    cases (inr e) = inr (subst (Spot t j) (sym e) c)

-- What is written behind the table does not change it.
pub kept_set : (size : ℕ) (w z : List ℕ) (at v : ℕ) → size ≤ at → Kept size w z → Kept size w (set z at v)
kept_set size w z at v l f k h =
    let n : k ≡ at → ⊥ = λ e. omega (arith, e, l, h) in
    get_or-set_other z at k v 0 n ∙ f k h

-- One position.
pub left_set : (size at number : ℕ) (w : List ℕ) → number < length w → Left size at w (set w number at)
left_set size at number w l k h = cases (eqb k number) refl
  where
    cases : (b : Bool) → eqb k number ≡ b → (get_or (set w number at) k 0 ≡ get_or w k 0) ⊎ (get_or (set w number at) k 0 ≡ at)
    cases true e = inr (ap (λ i. get_or (set w number at) i 0) (eqb-true k number e) ∙ get_or-set_same w number at 0 l)
    cases false e = inl (get_or-set_other w number k at 0 (eqb-false k number e))

-- A partner that was found, with the number of the window for which the table has positions.
module _ (s t : List ℕ) (j size : ℕ) (w : List ℕ) (m : Member) (number : ℕ)
    (table : number < size → Table t j size w) where
  pub near_finds : (b : Row) (next : Position) (k : ℕ) → Near s t j m number (Named b next k) →
      Finds s t j size w m (Named b next k)
  near_finds b next k p = (p.0, λ h. table (subst (λ n. n < size) p.1 h))

  pub scanned_finds : (f : Found) → Scanned s t j m number f → Finds s t j size w m f
  scanned_finds (Named b next k) p = near_finds b next k p
  scanned_finds Other p = p

-- What changes behind the table does not matter to a walk.
pub going_kept : (s t : List ℕ) (j size : ℕ) (w z : List ℕ) (walk : Walk) → Kept size w z → Going s t j size w walk →
    Going s t j size z walk
going_kept s t j size w z walk f g = record {
  known = g.known;
  cursor = g.cursor;
  table = λ h k l. subst (λ v. (v ≡ 0) ⊎ Spot t j v) (sym (f k l)) (g.table h k l);
}

-- Another list behind the table.
pub kept_front : (size : ℕ) (w z : List ℕ) → size ≤ length w → Kept size w (take size w ++ z)
kept_front size w z l k h =
    let e = length-take-le size w l in
    get_or-append (take size w) z 0 k (omega (arith, e, h)) ∙ get_or-take size w k 0 h
