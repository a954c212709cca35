-- The levels of the relation: more levels than a value has change nothing, so that `Same` meets its own equation, and
-- is the only relation that does.
use mathlib.Core.List.{List, [], ◌∷◌, ◌++◌, append-nil}
use mathlib.Core.Logic.{◌↔◌}
use Prim.Native.Nat.{ℕ, zero, suc, ◌≤◌, ◌<◌}
use native.Mathlib.Omega.{arith}
use native.Mathlib.Nat.{le-max_left, le-max_right}
use Rattle.grammar.specs.Grammar.{Bracket, curly, square, Label, Value, nested, empty, string, number, literal, Entries}
use Rattle.grammar.specs.Grammar.{last, more}
use Rattle.grammar.specs.Places.{levels, levels_entries}
use Rattle.grammar.specs.Bounds.{Every}
use Rattle.meets.specs.Members.{Member, member_of, element_of, members_in, elements_in, members_of, elements_of, OneForOne}
use Rattle.meets.proofs.OneForOne.{zip_into}
use Rattle.meets.proofs.Deciding.{every_map, some_map, zip_with}
use Rattle.same_values.specs.Same.{ByName, SameWith, strings, numbers, literals, arrays, objects, repeating}
use Rattle.same_values.specs.Same.{SameWithin, Same}

-- What stands in a value has fewer levels.

abbrev pub Shallow : ℕ → Value → Type 0
Shallow l c = levels c < l

abbrev pub ShallowMember : ℕ → Member → Type 0
ShallowMember l m = levels m.value < l

one_shallow : (b : Bracket) (t : Label b) (v : Value) (l : ℕ) → levels v < l → (ms : List Member) (vs : List Value) →
    Every (ShallowMember l) ms → Every (Shallow l) vs →
    Every (ShallowMember l) (member_of b t v ++ ms) × Every (Shallow l) (element_of b t v ++ vs)
unfolding member_of element_of
one_shallow curly t v l h ms vs g i = ((h, g), i)
one_shallow square t v l h ms vs g i = (g, (h, i))

entries_shallow : {b : Bracket} (es : Entries b) (l : ℕ) → levels_entries es < l →
    Every (ShallowMember l) (members_in es) × Every (Shallow l) (elements_in es)
unfolding levels members_in elements_in
entries_shallow (last {b} t v) l h =
    let r = one_shallow b t v l h [] [] tt tt in
    (rw append-nil at r.0, rw append-nil at r.1)
entries_shallow (more {b} t v x es) l h =
    let a = le-max_left (levels v) (levels_entries es) in
    let c = le-max_right (levels v) (levels_entries es) in
    let r = entries_shallow es l (omega (arith, c)) in
    one_shallow b t v l (omega (arith, a)) (members_in es) (elements_in es) r.0 r.1

pub value_shallow : (v : Value) (l : ℕ) → levels v ≤ l →
    Every (ShallowMember l) (members_of v) × Every (Shallow l) (elements_of v)
unfolding levels members_of elements_of
value_shallow (nested b x es y) l h = entries_shallow es l (omega arith)
value_shallow (empty b x y) l h = (tt, tt)
value_shallow (string x) l h = (tt, tt)
value_shallow (number x) l h = (tt, tt)
value_shallow (literal x) l h = (tt, tt)

-- What is related stays related where each in the left value does.

module _ (R S : Value → Value → Type 0) where
  abbrev Kept : Value → Type 0
  Kept c = (u : Value) → R c u → S c u

  in_order_map : (vs ws : List Value) → Every Kept vs → OneForOne R vs ws → OneForOne S vs ws
  in_order_map vs ws k z =
      zip_into (λ v w. R v w × Kept v) S (λ v w p. p.1 w p.0) vs ws (zip_with R Kept vs ws z k)

  by_name_map : (ms ns : List Member) → Every (λ m. Kept m.value) ms → ByName R ms ns → ByName S ms ns
  by_name_map [] ns k h = tt
  by_name_map (m ∷ ms) ns k h =
      (some_map _ _ (λ n p. (p.0, k.0 n.value p.1)) ns h.0, by_name_map ms ns k.1 h.1)

  pub with_map : (v w : Value) → Every (λ m. Kept m.value) (members_of v) → Every Kept (elements_of v) →
      SameWith R v w → SameWith S v w
  with_map v w km ke (strings x y e f h) = strings x y e f h
  with_map v w km ke (numbers x y e f h) = numbers x y e f h
  with_map v w km ke (literals x e f) = literals x e f
  with_map v w km ke (arrays e f h) = arrays e f (in_order_map (elements_of v) (elements_of w) ke h)
  with_map v w km ke (objects e f d g n h) = objects e f d g n (by_name_map (members_of v) (members_of w) km h)
  with_map v w km ke (repeating e f d h) = repeating e f d h

  -- The same, from what holds of every value with fewer levels.
  pub with_below : (v w : Value) (l : ℕ) → levels v ≤ l → ((c : Value) → levels c < l → Kept c) →
      SameWith R v w → SameWith S v w
  with_below v w l h k =
      let r = value_shallow v l h in
      with_map v w (every_map (ShallowMember l) (λ m. Kept m.value) (λ m g. k m.value g) (members_of v) r.0)
      (every_map (Shallow l) Kept k (elements_of v) r.1)

-- Levels beyond those that the value has change nothing.
pub within_any : (l m : ℕ) (v w : Value) → levels v ≤ l → levels v ≤ m → SameWithin l v w → SameWithin m v w
unfolding SameWithin
within_any zero zero v w g h p = p
within_any zero (suc m) v w g h p = with_below (λ _ _. ⊥) (SameWithin m) v w 0 g (λ c i u z. absurd z) p
within_any (suc l) zero v w g h p = with_below (SameWithin l) (λ _ _. ⊥) v w 0 h (λ c i. absurd (omega arith)) p
within_any (suc l) (suc m) v w g h p =
    with_below (SameWithin l) (SameWithin m) v w (levels v) (omega arith)
    (λ c i u. within_any l m c u (omega arith) (omega arith)) p

pub same_within : (l : ℕ) (v w : Value) → levels v ≤ l → SameWithin l v w ↔ Same v w
unfolding Same
same_within l v w h = (within_any l (levels v) v w h (omega arith), within_any (levels v) l v w (omega arith) h)

-- The equation.
pub same_is : (v w : Value) → Same v w ↔ SameWith Same v w
unfolding SameWithin
same_is v w =
    let l = levels v in
    let s = same_within (suc l) v w (omega arith) in (
      (λ p. with_below (SameWithin l) Same v w l (omega arith) (λ c i u. (same_within l c u (omega arith)).0) (s.1 p)),
      (λ p. s.0 (with_below Same (SameWithin l) v w l (omega arith) (λ c i u. (same_within l c u (omega arith)).1) p)),
    )

-- It has one solution.
pub same_only : (R : Value → Value → Type 0) → ((v w : Value) → R v w ↔ SameWith R v w) → (v w : Value) →
    R v w ↔ Same v w
same_only R eq v w = (there (levels v) v w (omega arith), back (levels v) v w (omega arith))
  where
    there : (l : ℕ) (v w : Value) → levels v ≤ l → R v w → Same v w
    there zero v w h p = (same_is v w).1 (with_below R Same v w 0 h (λ c i. absurd (omega arith)) ((eq v w).0 p))
    there (suc l) v w h p =
        (same_is v w).1 (with_below R Same v w (suc l) h (λ c i u. there l c u (omega arith)) ((eq v w).0 p))

    back : (l : ℕ) (v w : Value) → levels v ≤ l → Same v w → R v w
    back zero v w h p = (eq v w).1 (with_below Same R v w 0 h (λ c i. absurd (omega arith)) ((same_is v w).0 p))
    back (suc l) v w h p =
        (eq v w).1 (with_below Same R v w (suc l) h (λ c i u. back l c u (omega arith)) ((same_is v w).0 p))
