-- Two lists of tests that give the same refusal, whatever stands behind them.
use mathlib.Core.Path.{◌≡◌, refl, sym, ap, subst, ◌∙◌}
use mathlib.Core.List.{List, [], ◌∷◌, ◌++◌, append_assoc, append-nil, flat_map}
use mathlib.Core.Bool.{Bool, true, false, ◌||◌, cond}
use Prim.Native.Nat.{ℕ}
use Rattle.prelude.specs.Any.{any}
use Rattle.prelude.specs.Refusals.{Test, ◌if◌, first}
use Rattle.jose.proofs.Alike.{Beside}

pub record Agree (xs ys : List Test) : Type 0 where
  pub before : (ts us : List Test) → first ts ≡ first us → first (xs ++ ts) ≡ first (ys ++ us)

pub step_first : (n : ℕ) {a b : Bool} (ts us : List Test) → a ≡ b → (a ≡ false → first ts ≡ first us) →
    first (n if a ∷ ts) ≡ first (n if b ∷ us)
unfolding first
step_first n {a} {b} ts us e f = ap (λ z. cond z n (first ts)) e ∙ cases b refl
  where
    cases : (c : Bool) → b ≡ c → cond b n (first ts) ≡ cond b n (first us)
    cases true g = ap (λ z. cond z n (first ts)) g ∙ sym (ap (λ z. cond z n (first us)) g)
    cases false g = ap (cond b n) (f (e ∙ g))

pub agree_test : (n : ℕ) {a b : Bool} → a ≡ b → Agree (n if a ∷ []) (n if b ∷ [])
agree_test n e = record { before = λ ts us f. step_first n ts us e (λ _. f) }

-- The same list.

refl_before : (xs ts us : List Test) → first ts ≡ first us → first (xs ++ ts) ≡ first (xs ++ us)
unfolding first
refl_before [] ts us e = e
refl_before (x ∷ xs) ts us e = ap (cond x.fails x.number) (refl_before xs ts us e)

pub agree_refl : {xs : List Test} → Agree xs xs
agree_refl {xs} = record { before = refl_before xs }

pub agree_same : {xs ys : List Test} → xs ≡ ys → Agree xs ys
agree_same {xs} e = subst (Agree xs) e agree_refl

pub agree_trans : {xs ys zs : List Test} → Agree xs ys → Agree ys zs → Agree xs zs
agree_trans f g = record { before = λ ts us e. f.before ts ts refl ∙ g.before ts us e }

-- Where nothing stands behind them.
pub agreed : {xs ys : List Test} → Agree xs ys → first xs ≡ first ys
agreed {xs} {ys} f = ap first (sym (append-nil xs)) ∙ f.before [] [] refl ∙ ap first (append-nil ys)

-- One behind the other.
pub agree_append : {xs ys vs ws : List Test} → Agree xs ys → Agree vs ws → Agree (xs ++ vs) (ys ++ ws)
agree_append {xs} {ys} {vs} {ws} f g = record {
  before = λ ts us e.
      ap first (append_assoc xs vs ts) ∙ f.before (vs ++ ts) (ws ++ us) (g.before ts us e)
      ∙ sym (ap first (append_assoc ys ws us));
}

-- A test that passes is as good as none.
pub agree_pass : (n : ℕ) {a : Bool} → a ≡ false → Agree (n if a ∷ []) []
unfolding first
agree_pass n {a} e = record { before = λ ts us f. ap (λ z. cond z n (first ts)) e ∙ f }

pub agree_before : {xs ys vs : List Test} → Agree xs ys → Agree vs [] → Agree (xs ++ vs) ys
agree_before {xs} {ys} {vs} f g = agree_trans (agree_append f g) (agree_same (append-nil ys))

-- For each of a list.
pub agree_each : {A B : Type 0} (R : A → B → Type 0) (f : A → List Test) (g : B → List Test) →
    ((x : A) (y : B) → R x y → Agree (f x) (g y)) → (xs : List A) (ys : List B) → Beside R xs ys →
    Agree (flat_map f xs) (flat_map g ys)
unfolding flat_map
agree_each R f g h [] [] z = agree_refl
agree_each R f g h [] (y ∷ ys) z = absurd z
agree_each R f g h (x ∷ xs) [] z = absurd z
agree_each R f g h (x ∷ xs) (y ∷ ys) z = agree_append (h x y z.0) (agree_each R f g h xs ys z.1)

-- Two tests of one number are one.

or_before : (n : ℕ) (a b : Bool) (ts us : List Test) → first ts ≡ first us →
    first (n if a ∷ n if b ∷ ts) ≡ first (n if (a || b) ∷ us)
unfolding first
or_before n true b ts us e = refl
or_before n false b ts us e = ap (cond b n) e

pub agree_or : (n : ℕ) (a b : Bool) → Agree (n if a ∷ n if b ∷ []) (n if (a || b) ∷ [])
agree_or n a b = record { before = or_before n a b }

pub agree_any : {A : Type 0} (n : ℕ) (p : A → Bool) (xs : List A) →
    Agree (flat_map (λ x. n if p x ∷ []) xs) (n if any p xs ∷ [])
unfolding flat_map any first
agree_any n p [] = record { before = λ ts us e. e }
agree_any n p (x ∷ xs) =
    agree_trans (agree_append (agree_refl {xs = n if p x ∷ []}) (agree_any n p xs)) (agree_or n (p x) (any p xs))
