-- What the next octets of two lists say of them, and that a cursor answers with the next octet of what is still to come.
use mathlib.Core.Path.{◌≡◌, refl, sym}
use mathlib.Core.Bool.{Bool, true, false, not, true≢false}
use mathlib.Core.List.{List, [], ◌∷◌}
use Prim.Native.Nat.{ℕ, ◌+◌, ◌≤◌, ◌<◌}
use lib.ListN.{length, drop, get_or, drop_of_length-le}
use lib.Dec.{eqb}
use borrow.Author.Tests.{eqb-true, eqb-false}
use Rattle.std.specs.Prelude.{Option, None, Some, is_some}
use Rattle.std.specs.Option.{option_eq}
use Rattle.prelude.proofs.Lists.{drop_next}
use Rattle.grammar.specs.Spellings.{equal}
use Rattle.spelling.specs.Inner.Cursors.{rest, Gives}
use Rattle.spelling.specs.declared.cursor.Cursor.{Cursor}
use Rattle.spelling.proofs.Compare.{both_end, left_ends, right_ends, differ, same}

-- a list, its first element, if it has one, and what is behind it
abbrev First : List ℕ → Option ℕ → List ℕ → Type 0
First v None t = v ≡ []
First v (Some c) t = v ≡ c ∷ t

first_given : (p q : Cursor) (c : Option ℕ) → Gives p c q → First (rest p) c (rest q)
first_given p q None g = g
first_given p q (Some c) g = g.0

differ_first : (v t w u : List ℕ) (c d : Option ℕ) → First v c t → First w d u → true ≡ not (option_eq eqb c d) → false ≡ equal v w
differ_first v t w u None None f g n = absurd (true≢false n)
differ_first v t w u None (Some d) f g n = left_ends v w d u (sym f) (sym g)
differ_first v t w u (Some c) None f g n = right_ends v w c t (sym f) (sym g)
differ_first v t w u (Some c) (Some d) f g n = cases (eqb c d) refl n
  where
    cases : (b : Bool) → eqb c d ≡ b → true ≡ not b → false ≡ equal v w
    cases true e m = absurd (true≢false m)
    cases false e m = differ v w c t d u (sym f) (sym g) (eqb-false c d e)

same_first : (v t w u : List ℕ) (c d : Option ℕ) → First v c t → First w d u → false ≡ not (option_eq eqb c d) → is_some c ≡ true →
    equal t u ≡ equal v w
same_first v t w u None d f g n i = absurd (true≢false (sym i))
same_first v t w u (Some c) None f g n i = absurd (true≢false (sym n))
same_first v t w u (Some c) (Some d) f g n i = cases (eqb c d) refl n
  where
    cases : (b : Bool) → eqb c d ≡ b → false ≡ not b → equal t u ≡ equal v w
    cases true e m = same v w c t d u (sym f) (sym g) (eqb-true c d e)
    cases false e m = absurd (true≢false (sym m))

no_first : (v t w u : List ℕ) (c d : Option ℕ) → First v c t → First w d u → false ≡ not (option_eq eqb c d) → is_some c ≡ false →
    true ≡ equal v w
no_first v t w u (Some c) d f g n i = absurd (true≢false i)
no_first v t w u None (Some d) f g n i = absurd (true≢false (sym n))
no_first v t w u None None f g n i = both_end v w (sym f) (sym g)

-- where one of them is at its end
first_ends : (v t w : List ℕ) (c : Option ℕ) (b : Bool) → First v c t → w ≡ [] → is_some c ≡ not b → b ≡ equal v w
first_ends v t w None true f e i = both_end v w (sym f) (sym e)
first_ends v t w None false f e i = absurd (true≢false (sym i))
first_ends v t w (Some c) true f e i = absurd (true≢false i)
first_ends v t w (Some c) false f e i = right_ends v w c t (sym f) (sym e)

-- two cursors' answers
module _ (p after q behind : Cursor) (c d : Option ℕ) (g : Gives p c after) (h : Gives q d behind) where
  pub differ_given : true ≡ not (option_eq eqb c d) → false ≡ equal (rest p) (rest q)
  differ_given = differ_first (rest p) (rest after) (rest q) (rest behind) c d (first_given p after c g) (first_given q behind d h)

  pub same_given : false ≡ not (option_eq eqb c d) → is_some c ≡ true → equal (rest after) (rest behind) ≡ equal (rest p) (rest q)
  same_given = same_first (rest p) (rest after) (rest q) (rest behind) c d (first_given p after c g) (first_given q behind d h)

  pub none_given : false ≡ not (option_eq eqb c d) → is_some c ≡ false → true ≡ equal (rest p) (rest q)
  none_given = no_first (rest p) (rest after) (rest q) (rest behind) c d (first_given p after c g) (first_given q behind d h)

-- a cursor's answer and the octet of w at i
module _ (p after : Cursor) (c : Option ℕ) (g : Gives p c after) (w : List ℕ) (i : ℕ) where
  module _ (l : i < length w) where
    pub differ_octet : true ≡ not (option_eq eqb c (Some (get_or w i 0))) → false ≡ equal (rest p) (drop i w)
    differ_octet =
        differ_first (rest p) (rest after) (drop i w) (drop (i + 1) w) c (Some (get_or w i 0)) (first_given p after c g)
        (drop_next w i (i + 1) refl l)

    pub same_octet : false ≡ not (option_eq eqb c (Some (get_or w i 0))) → equal (rest after) (drop (i + 1) w) ≡ equal (rest p) (drop i w)
    same_octet n =
        same_first (rest p) (rest after) (drop i w) (drop (i + 1) w) c (Some (get_or w i 0)) (first_given p after c g)
        (drop_next w i (i + 1) refl l) n (is c n)
      where
        is : (c : Option ℕ) → false ≡ not (option_eq eqb c (Some (get_or w i 0))) → is_some c ≡ true
        is None n = absurd (true≢false (sym n))
        is (Some c) n = refl

  pub octets_end : length w ≤ i → (b : Bool) → is_some c ≡ not b → b ≡ equal (rest p) (drop i w)
  octets_end l b = first_ends (rest p) (rest after) (drop i w) c b (first_given p after c g) (drop_of_length-le w l)
