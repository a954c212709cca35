-- A compact message split where its full stops are found, and one component after the other asked.
use mathlib.Core.Path.{◌≡◌, refl, ap, ap₂, sym, ◌∙◌}
use mathlib.Core.Bool.{Bool, true, false, ◌&&◌, ◌||◌, cond}
use mathlib.Core.List.{List, [], ◌∷◌}
use Prim.Native.Nat.{ℕ, ◌+◌, ◌≤◌, ◌<◌}
use native.Mathlib.Omega.{arith}
use lib.ListN.{length}
use lib.Dec.{eqb, ltb}
use borrow.Author.Tests.{lt-ltb, le-ltb, eq-eqb, ne_eqb}
use Rattle.parts.specs.Parts.{seek}
use Rattle.prelude.specs.declared.Place.{Place}
use Rattle.prelude.specs.Any.{any}
use Rattle.headers.specs.Components as headers
use Rattle.prelude.specs.Ascii.{full_stop}
use Rattle.jwe.specs.Compact.{after, Stops, stops, four_stops, between, compact_components}
use Rattle.headers.specs.Answers.{code_place, code_components, components_of}
use Rattle.jwe.specs.Answers.{split_of}
use Rattle.headers.specs.declared.Components.{Components}
use Rattle.std.specs.Prelude.{Some, None}

-- One of a list, or one of those behind it

module _ {A : Type 0} (f : A → Bool) (x : A) (xs : List A) where
  pub any_here : f x ≡ true → any f (x ∷ xs) ≡ true
  unfolding any
  any_here e = ap (λ (b : Bool). b || any f xs) e

  pub any_behind : f x ≡ false → any f (x ∷ xs) ≡ any f xs
  unfolding any
  any_behind e = ap (λ (b : Bool). b || any f xs) e

-- None of a list: not the first of it.
pub none_first : {A : Type 0} (f : A → Bool) (x : A) (xs : List A) → any f (x ∷ xs) ≡ false → f x ≡ false
unfolding any
none_first f x xs e = cases (f x) e
  where
    cases : (b : Bool) → (b || any f xs) ≡ false → b ≡ false
    cases true e = e
    cases false e = refl

pub any_last : {A : Type 0} (f : A → Bool) (x : A) → any f (x ∷ []) ≡ f x
unfolding any
any_last f x = cases (f x)
  where
    cases : (b : Bool) → (b || false) ≡ b
    cases true = refl
    cases false = refl

-- The components between full stops
abbrev components : List ℕ → Stops → headers.Components
components message s = record {
  protected = record { start = 0; size = s.first };
  key = between s.first s.second;
  iv = between s.second s.third;
  aad = headers.absent;
  ciphertext = between s.third s.fourth;
  tag = between s.fourth (length message);
}

module _ (message : List ℕ) (a b c d e : ℕ)
    (first : a ≡ seek full_stop message 0) (second : b ≡ seek full_stop message (a + 1))
    (third : c ≡ seek full_stop message (b + 1)) (fourth : d ≡ seek full_stop message (c + 1))
    (fifth : e ≡ seek full_stop message (d + 1)) where
  next : (x y z : ℕ) → y ≡ x → z ≡ seek full_stop message (x + 1) → after message y ≡ z
  next x y z p q = ap (λ (k : ℕ). seek full_stop message (k + 1)) p ∙ sym q

  stops_are : stops message ≡ record { first = a; second = b; third = c; fourth = d }
  unfolding stops
  stops_are =
      let p = sym first in
      let q = next a (seek full_stop message 0) b p second in
      let r = next b b c refl third in
      ap₂
      (λ (x y : ℕ). record {
        first = x;
        second = y;
        third = after message y;
        fourth = after message (after message y);
      })
      p q
      ∙ ap₂ (λ (x y : ℕ). record { first = a; second = b; third = x; fourth = y }) r (next c _ d r fourth)

  four_are : four_stops message ≡ (ltb d (length message) && eqb e (length message))
  unfolding four_stops
  four_are =
      ap (λ (s : Stops). ltb s.fourth (length message) && eqb (after message s.fourth) (length message)) stops_are
      ∙ ap (λ (x : ℕ). ltb d (length message) && eqb x (length message)) (sym fifth)

  components_are : compact_components message
      ≡ components message (record { first = a; second = b; third = c; fourth = d })
  unfolding compact_components
  components_are = ap (components message) stops_are

  split_is : (t : Bool) → four_stops message ≡ t →
      split_of message ≡ cond t (Some (code_components (compact_components message))) None
  unfolding split_of
  split_is t e = ap (λ (x : Bool). cond x (Some (code_components (compact_components message))) None) e

  pub split_few : length message ≤ d → None ≡ split_of message
  split_few h =
      sym (split_is false (four_are ∙ ap (λ (t : Bool). t && eqb e (length message)) (le-ltb d (length message) h)))

  pub split_many : d < length message → (e ≡ length message → ⊥) → None ≡ split_of message
  split_many h f =
      sym (split_is false (four_are ∙ ap₂ ◌&&◌ (lt-ltb d (length message) h) (ne_eqb e (length message) f)))

  pub split_four : d < length message → e ≡ length message → (key iv ciphertext tag : Place) →
      key ≡ code_place (between a b) → iv ≡ code_place (between b c) → ciphertext ≡ code_place (between c d) →
      tag ≡ code_place (between d (length message)) →
      Some (record {
        protected = record { start = 0; len = a };
        key = key;
        iv = iv;
        aad = record { start = 0; len = 0 };
        ciphertext = ciphertext;
        tag = tag;
      })
      ≡ split_of message
  split_four h l key iv ciphertext tag k i x t =
      ap₂ (λ (y z : Place). Some (record {
        protected = record { start = 0; len = a };
        key = y;
        iv = z;
        aad = record { start = 0; len = 0 };
        ciphertext = ciphertext;
        tag = tag;
      })) k i
      ∙ ap₂ (λ (y z : Place). Some (record {
        protected = record { start = 0; len = a };
        key = code_place (between a b);
        iv = code_place (between b c);
        aad = record { start = 0; len = 0 };
        ciphertext = y;
        tag = z;
      })) x t
      ∙ ap (λ (q : headers.Components). Some (code_components q)) (sym components_are)
      ∙ sym (split_is true (four_are ∙ ap₂ ◌&&◌ (lt-ltb d (length message) h) (eq-eqb e (length message) l)))

-- What the answer tells

module _ (message : List ℕ) where
  pub four_told : (q : Components) → Some q ≡ split_of message →
      (four_stops message ≡ true) × (q ≡ code_components (compact_components message))
  unfolding split_of
  four_told q e = cases (four_stops message) e
    where
      cases : (b : Bool) → Some q ≡ cond b (Some (code_components (compact_components message))) None →
          (b ≡ true) × (q ≡ code_components (compact_components message))
      cases true e = (refl, cc)
      cases false e = let z : ◌≡◌ {A = ℕ} 0 1 = cc in absurd (omega arith)

  pub other_told : None ≡ split_of message → four_stops message ≡ false
  unfolding split_of
  other_told e = cases (four_stops message) e
    where
      cases : (b : Bool) → None ≡ cond b (Some (code_components (compact_components message))) None → b ≡ false
      cases true e = let z : ◌≡◌ {A = ℕ} 0 1 = cc in absurd (omega arith)
      cases false e = refl

  module _ (q : Components) (e : q ≡ code_components (compact_components message)) where
    pub asked_are : any (headers.misspelled message) (headers.places (components_of q))
        ≡ any (headers.misspelled message) (headers.places (compact_components message))
    asked_are = ap (λ (x : Components). any (headers.misspelled message) (headers.places (components_of x))) e
