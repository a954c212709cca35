-- The elements of `recipients`, walked along: so many are objects and their starts are written, the rest is still to
-- come. What is written matters only where there are no more than 8.
use mathlib.Core.Path.{◌≡◌, refl, ap, ap₂, sym, subst, ◌∙◌}
use mathlib.Core.Bool.{Bool, true, false, ◌||◌, cond}
use mathlib.Core.List.{List, [], ◌∷◌}
use Prim.Native.Nat.{ℕ, ◌+◌, ◌≤◌}
use native.Mathlib.Omega.{arith}
use lib.ListN.{length, set, length-set}
use lib.Dec.{eqb, ltb}
use borrow.Author.Tests.{ne_eqb, lt-ltb, le-ltb}
use Rattle.prelude.specs.Buffer.{written}
use Rattle.prelude.proofs.Writing.{Writing, begin, put, done}
use Rattle.grammar.specs.Places.{Element}
use Rattle.prelude.specs.Any.{any}
use Rattle.prelude.specs.Refusals.{first, stage_of}
use Rattle.jose.specs.HeaderRules.{is_empty}
use Rattle.prelude.specs.Refusals.{Stage}
use Rattle.prelude.specs.Refusals.{Passed, Refused}
use Rattle.shape.specs.Shape.{no_object, wrong_elements}
use Rattle.shape.specs.Inner.Answers.{array_order, starts_of, counted, Leaves}

-- What is known at a turn: `xs` are all elements, `rest` those to come, `count` those before.
pub record Walking (xs rest : List Element) (count : ℕ) (before now : List ℕ) : Type 0 where
  pub few : count ≤ 8
  pub sum : count + length rest ≡ length xs
  pub some : any no_object rest ≡ any no_object xs
  pub same : length now ≡ length before
  pub room : 8 ≤ length before
  pub starts : length xs ≤ 8 → Writing 0 (starts_of xs) before (starts_of rest) count now

pub starts_length : (xs : List Element) → length (starts_of xs) ≡ length xs
unfolding starts_of
starts_length [] = refl
starts_length (x ∷ xs) = omega (arith, starts_length xs)

pub walking : (xs rest : List Element) (before : List ℕ) → rest ≡ xs → 8 ≤ length before →
    Walking xs rest 0 before before
walking xs rest before e h =
    subst (λ (l : List Element). Walking xs l 0 before before) (sym e) (record {
      few = omega arith;
      sum = omega arith;
      some = refl;
      same = refl;
      room = h;
      starts = λ k. begin 0 (starts_of xs) before (omega (arith, starts_length xs));
    })

-- 10 and 11, by what is known of all elements.
stage_is : (xs : List Element) (none some more : Bool) → is_empty xs ≡ none → any no_object xs ≡ some →
    ltb 8 (length xs) ≡ more →
    stage_of (cond (none || some) 10 (cond more 11 0)) (length xs) ≡ stage_of (first (array_order xs)) (length xs)
unfolding first array_order wrong_elements
stage_is xs none some more n s m =
    sym (ap₂ (λ (x y : Bool). stage_of (cond (x || y) 10 (cond (ltb 8 (length xs)) 11 0)) (length xs)) n s
    ∙ ap (λ (z : Bool). stage_of (cond (none || some) 10 (cond z 11 0)) (length xs)) m)

empty_is : (xs : List Element) → eqb (length xs) 0 ≡ is_empty xs
empty_is [] = refl
empty_is (x ∷ xs) = ne_eqb (length (x ∷ xs)) 0 (λ z. omega arith)

-- Wrong, where one is no object.
pub refused_10 : (xs : List Element) → true ≡ any no_object xs →
    Refused 10 ≡ stage_of (first (array_order xs)) (length xs)
unfolding stage_of
refused_10 xs e =
    cases (is_empty xs) ∙ stage_is xs (is_empty xs) true (ltb 8 (length xs)) refl (sym e) refl
  where
    cases : (b : Bool) → Refused 10 ≡ stage_of (cond (b || true) 10 (cond (ltb 8 (length xs)) 11 0)) (length xs)
    cases true = refl
    cases false = refl

-- Too many.
pub refused_11 : (xs : List Element) → false ≡ any no_object xs → 9 ≤ length xs →
    Refused 11 ≡ stage_of (first (array_order xs)) (length xs)
unfolding stage_of
refused_11 xs e h =
    stage_is xs false false true (sym (empty_is xs) ∙ ne_eqb (length xs) 0 (λ z. omega arith)) (sym e)
    (lt-ltb 8 (length xs) (omega arith))

-- All are objects, and no more than 8.
pub passed_8 : (xs : List Element) (n : ℕ) (r : Stage) → r ≡ counted n → n ≡ length xs → n ≤ 8 →
    false ≡ any no_object xs → r ≡ stage_of (first (array_order xs)) (length xs)
unfolding stage_of
passed_8 xs n r a e h s =
    a ∙ ap (λ (m : ℕ). counted m) e ∙ cases (is_empty xs) (empty_is xs)
    ∙ stage_is xs (is_empty xs) false false refl (sym s) (le-ltb 8 (length xs) (omega arith))
  where
    cases : (b : Bool) → eqb (length xs) 0 ≡ b →
        counted (length xs) ≡ stage_of (cond (b || false) 10 (cond false 11 0)) (length xs)
    cases true t = ap (λ (z : Bool). cond z (Refused 10) (Passed (length xs))) t
    cases false t = ap (λ (z : Bool). cond z (Refused 10) (Passed (length xs))) t

-- What any answer leaves, where all is written.
leaves_both : (numbers before now : List ℕ) → now ≡ written 0 numbers before → length now ≡ length before →
    (r : Stage) → Leaves numbers before now r
leaves_both numbers before now w s (Passed n) = w
leaves_both numbers before now w s (Refused n) = s

module _ {xs rest : List Element} {count : ℕ} {before now : List ℕ} (w : Walking xs rest count before now) where
  -- An object more.
  pub walked_on : (x : Element) (others : List Element) → rest ≡ x ∷ others → (count ≡ 8 → ⊥) →
      any no_object others ≡ any no_object xs → Walking xs others (count + 1) before (set now count x.start)
  unfolding starts_of
  walked_on x others e h s =
      let more : length rest ≡ length others + 1 = ap length e ∙ omega arith in
      record {
        few = omega (arith, w.few);
        sum = omega (arith, w.sum);
        some = s;
        same = length-set now count x.start ∙ w.same;
        room = w.room;
        starts = λ k. put x.start (count + 1) refl
            (subst (λ (l : List Element). Writing 0 (starts_of xs) before (starts_of l) count now) e (w.starts k));
      }

  -- One after the eighth.
  pub over : (x : Element) (others : List Element) → rest ≡ x ∷ others → count ≡ 8 → 9 ≤ length xs
  over x others e h = let more : length rest ≡ length others + 1 = ap length e ∙ omega arith in omega (arith, w.sum)

  -- None is to come.
  module _ (e : rest ≡ []) (r : Stage) (a : r ≡ counted count) where
    all : count ≡ length xs
    all = let none : length rest ≡ 0 = ap length e in omega (arith, w.sum)

    pub walked_out : false ≡ any no_object xs → (r ≡ stage_of (first (array_order xs)) (length xs))
        × Leaves (starts_of xs) before now r
    unfolding starts_of
    walked_out s = (
      passed_8 xs count r a all w.few s,
      leaves_both (starts_of xs) before now
          (done (subst (λ (l : List Element). Writing 0 (starts_of xs) before (starts_of l) count now) e
          (w.starts (omega (arith, w.few, all)))))
          w.same r,
    )
