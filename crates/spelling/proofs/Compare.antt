-- Comparing as the code does it: an octet that both have is taken from both, and a spelling's octets that stand for
-- themselves are taken as they are.
use mathlib.Core.Path.{◌≡◌, refl, ap, ap₂, sym, subst, ◌∙◌}
use mathlib.Core.Bool.{Bool, true, false, ◌&&◌}
use mathlib.Core.List.{List, [], ◌∷◌, ◌++◌}
use mathlib.Core.Option.{none}
use Prim.Native.Nat.{ℕ, zero, suc, ◌+◌, ◌-◌, ◌≤◌, ◌<◌}
use native.Mathlib.Omega.{arith}
use lib.ListN.{length, take, drop, get_or, drop_of_length-le, length-drop}
use lib.Seq.{get_or-take, get_or-drop, drop-drop, length-take-le}
use lib.Dec.{eqb, leb, ltb}
use borrow.Author.Tests.{eq-eqb, ne_eqb, eqb-true, eqb-false, leb-true, leb-false, ltb-true, ltb-false}
use Rattle.prelude.proofs.Lists.{drop_next}
use Rattle.grammar.specs.Spellings.{between, undo, undo_from, equal, alike, has}
use Rattle.std.specs.Prelude.{Option, None}
use Rattle.spelling.specs.Inner.Escapes.{last_octets, undo_at, Common}
use Rattle.spelling.proofs.Cursors.{undo_plain}

-- What the next octets of two lists say of them.
module _ (v w : List ℕ) where
  pub both_end : [] ≡ v → [] ≡ w → true ≡ equal v w
  unfolding equal
  both_end e f = ap₂ equal e f

  module _ (c : ℕ) (t : List ℕ) where
    pub left_ends : [] ≡ v → c ∷ t ≡ w → false ≡ equal v w
    unfolding equal
    left_ends e f = ap₂ equal e f

    pub right_ends : c ∷ t ≡ v → [] ≡ w → false ≡ equal v w
    unfolding equal
    right_ends e f = ap₂ equal e f

    module _ (d : ℕ) (u : List ℕ) (e : c ∷ t ≡ v) (f : d ∷ u ≡ w) where
      pub differ : (c ≡ d → ⊥) → false ≡ equal v w
      unfolding equal
      differ n = ap (λ (b : Bool). b && equal t u) (sym (ne_eqb c d n)) ∙ ap₂ equal e f

      pub same : c ≡ d → equal t u ≡ equal v w
      unfolding equal
      same i = ap (λ (b : Bool). b && equal t u) (sym (eq-eqb c d i)) ∙ ap₂ equal e f

-- From the beginning.

pub alike_start : (v w : List ℕ) → equal (undo_at v None 0) (undo_at w None 0) ≡ alike v w
unfolding alike undo
alike_start v w = refl

pub has_start : (v w : List ℕ) → equal (undo_at v None 0) (drop 0 w) ≡ has v w
unfolding has undo
has_start v w = refl

-- An octet that both have and that is no backslash.
module _ (v w : List ℕ) (k : ℕ) (h : k < length v) (i : k < length w) (e : get_or v k 0 ≡ get_or w k 0)
    (n : get_or v k 0 ≡ 92 → ⊥) where
  pub alike_passes : equal (undo_at v None (k + 1)) (undo_at w None (k + 1)) ≡ equal (undo_at v None k) (undo_at w None k)
  alike_passes =
      same (undo_at v None k) (undo_at w None k) (get_or v k 0) (undo_at v None (k + 1)) (get_or w k 0) (undo_at w None (k + 1))
      (sym (undo_plain v None k h n)) (sym (undo_plain w None k i (λ z. n (e ∙ z)))) e

  pub has_passes : equal (undo_at v None (k + 1)) (drop (k + 1) w) ≡ equal (undo_at v None k) (drop k w)
  has_passes =
      same (undo_at v None k) (drop k w) (get_or v k 0) (undo_at v None (k + 1)) (get_or w k 0) (drop (k + 1) w)
      (sym (undo_plain v None k h n)) (sym (drop_next w k (k + 1) refl i)) e

-- As many as both begin with.

pub common_fewer : (v w : List ℕ) (k : ℕ) → Common v w (suc k) → Common v w k
common_fewer v w k c = (omega (arith, c.0), (omega (arith, c.1.0), λ i l. c.1.1 i (omega (arith, l))))

pub common_more : (v w : List ℕ) (k : ℕ) → k < length v → k < length w → get_or v k 0 ≡ get_or w k 0 → (get_or v k 0 ≡ 92 → ⊥) →
    Common v w k → Common v w (k + 1)
common_more v w k h i e n c = (omega (arith, h), (omega (arith, i), λ j l. cases j l (eqb j k) refl))
  where
    cases : (j : ℕ) → j < k + 1 → (b : Bool) → eqb j k ≡ b → (get_or v j 0 ≡ get_or w j 0) × (get_or v j 0 ≡ 92 → ⊥)
    cases j l true t = subst (λ x. (get_or v x 0 ≡ get_or w x 0) × (get_or v x 0 ≡ 92 → ⊥)) (sym (eqb-true j k t)) (e, n)
    cases j l false t = c.1.1 j (omega (arith, l, eqb-false j k t))

-- A block more, up to e.
pub common_block : (v w : List ℕ) (k e : ℕ) → k ≤ e → e ≤ length v → e ≤ length w → Common v w k →
    Common (take (e - k) (drop k v)) (take (e - k) (drop k w)) (length (take (e - k) (drop k v))) → Common v w e
common_block v w k e m h i c d = (h, (i, λ j l. cases j l (ltb j k) refl))
  where
    at : (s : List ℕ) (j : ℕ) → k ≤ j → j < e → get_or (take (e - k) (drop k s)) (j - k) 0 ≡ get_or s j 0
    at s j l m =
        get_or-take (e - k) (drop k s) (j - k) 0 (omega (arith, l, m)) ∙ get_or-drop k s (j - k) 0
        ∙ ap (λ x. get_or s x 0) (omega (arith, l))

    size : length (take (e - k) (drop k v)) ≡ e - k
    size = length-take-le (e - k) (drop k v) (omega (arith, h, length-drop k v))

    cases : (j : ℕ) → j < e → (b : Bool) → ltb j k ≡ b → (get_or v j 0 ≡ get_or w j 0) × (get_or v j 0 ≡ 92 → ⊥)
    cases j l true t = c.1.1 j (ltb-true j k t)
    cases j l false t =
        let m = ltb-false j k t in
        let here = d.1.1 (j - k) (omega (arith, size, m, l)) in
        (sym (at v j m l) ∙ here.0 ∙ at w j m l, λ z. here.1 (at v j m l ∙ z))

pub common_alike : (v w : List ℕ) (k : ℕ) → Common v w k → equal (undo_at v None k) (undo_at w None k) ≡ equal (undo_at v None 0) (undo_at w None 0)
common_alike v w zero c = refl
common_alike v w (suc k) c =
    let here = c.1.1 k (omega arith) in
    let next : suc k ≡ k + 1 = omega arith in
    ap (λ n. equal (undo_at v None n) (undo_at w None n)) next
    ∙ alike_passes v w k (omega (arith, c.0)) (omega (arith, c.1.0)) here.0 here.1
    ∙ common_alike v w k (common_fewer v w k c)

pub common_has : (v w : List ℕ) (k : ℕ) → Common v w k → equal (undo_at v None k) (drop k w) ≡ has v w
common_has v w zero c = has_start v w
common_has v w (suc k) c =
    let here = c.1.1 k (omega arith) in
    let next : suc k ≡ k + 1 = omega arith in
    ap (λ n. equal (undo_at v None n) (drop n w)) next
    ∙ has_passes v w k (omega (arith, c.0)) (omega (arith, c.1.0)) here.0 here.1
    ∙ common_has v w k (common_fewer v w k c)

-- From two positions on.
pub common_from : (v w : List ℕ) (i j k : ℕ) → Common (drop i v) (drop j w) k →
    equal (undo_at v None (i + k)) (undo_at w None (j + k)) ≡ equal (undo_at v None i) (undo_at w None j)
common_from v w i j k c =
    ap₂ (λ x y. equal (undo_from (between none) x) (undo_from (between none) y)) (sym (drop-drop k i v)) (sym (drop-drop k j w))
    ∙ common_alike (drop i v) (drop j w) k c

-- From two cursors on that stand between characters, no half before.
pub common_rest : (v w : List ℕ) (h g : Option ℕ) (i j l m a b k : ℕ) → l ≡ 0 → m ≡ 0 → h ≡ None → g ≡ None →
    Common (drop i v) (drop j w) k →
    equal (last_octets l a ++ undo_at v h (i + k)) (last_octets m b ++ undo_at w g (j + k))
    ≡ equal (last_octets l a ++ undo_at v h i) (last_octets m b ++ undo_at w g j)
common_rest v w h g i j l m a b k x y e f c = rw (x, y, e, f) (common_from v w i j k c)

-- A different octet that stands for itself.
pub has_differs : (v w : List ℕ) (k : ℕ) → k < length v → k < length w → (get_or v k 0 ≡ 92 → ⊥) →
    (get_or v k 0 ≡ get_or w k 0 → ⊥) → false ≡ equal (undo_at v None k) (drop k w)
has_differs v w k h i m d =
    differ (undo_at v None k) (drop k w) (get_or v k 0) (undo_at v None (k + 1)) (get_or w k 0) (drop (k + 1) w)
    (sym (undo_plain v None k h m)) (sym (drop_next w k (k + 1) refl i)) d

-- A spelling that is at its end has the octets from k on exactly where there are none.
pub has_ends : (v w : List ℕ) (k : ℕ) → [] ≡ v → leb (length w) k ≡ equal v (drop k w)
has_ends v w k e = cases (leb (length w) k) refl
  where
    cases : (b : Bool) → leb (length w) k ≡ b → leb (length w) k ≡ equal v (drop k w)
    cases true t = t ∙ both_end v (drop k w) e (sym (drop_of_length-le w {i = k} (leb-true (length w) k t)))
    cases false t =
        t
        ∙ left_ends v (drop k w) (get_or w k 0) (drop (k + 1) w) e
        (sym (drop_next w k (k + 1) refl (leb-false (length w) k t)))
