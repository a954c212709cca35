-- An algorithm by the number of its variant.
use mathlib.Core.Path.{◌≡◌, refl, ap, sym, ◌∙◌}
use mathlib.Core.List.{List, [], ◌∷◌}
use mathlib.Core.Logic.{inl, inr}
use Prim.Native.Nat.{ℕ}
use lib.ListN.{get_or}
use types.Run.{OneOf}
use denote.Enum.Declared.{tag_of}
use Rattle.algorithms.specs.Algorithms.{algs}
use Rattle.algorithms.specs.declared.Alg.{Alg}
use Rattle.algorithms.specs.declared.Alg.TheVariants.{Rsa15, RsaOaep, RsaOaep256, A128Kw, A192Kw, A256Kw}
use Rattle.algorithms.specs.declared.Alg.TheVariants.{A128GcmKw, A192GcmKw, A256GcmKw, Pbes2A128Kw}
use Rattle.algorithms.specs.declared.Alg.TheVariants.{Pbes2A192Kw, Pbes2A256Kw, EcdhEs, EcdhEsA128Kw}
use Rattle.algorithms.specs.declared.Alg.TheVariants.{EcdhEsA192Kw, EcdhEsA256Kw, Dir}
use Rattle.algorithms.specs.contracts.Alg.{the_type}

-- The number of a variant, counted from 0.
abbrev pub tag : Alg → ℕ
tag a = tag_of the_type a

-- The variants of `Alg` stand in the order of the table ..
pub alg_at : (a : Alg) → get_or algs (tag a) Dir ≡ a
unfolding algs
alg_at Rsa15 = refl
alg_at RsaOaep = refl
alg_at RsaOaep256 = refl
alg_at A128Kw = refl
alg_at A192Kw = refl
alg_at A256Kw = refl
alg_at A128GcmKw = refl
alg_at A192GcmKw = refl
alg_at A256GcmKw = refl
alg_at Pbes2A128Kw = refl
alg_at Pbes2A192Kw = refl
alg_at Pbes2A256Kw = refl
alg_at EcdhEs = refl
alg_at EcdhEsA128Kw = refl
alg_at EcdhEsA192Kw = refl
alg_at EcdhEsA256Kw = refl
alg_at Dir = refl

-- .. so that an arm of a `match`, which knows the numbers of its variants, answers f where its value is f of each.
module _ {A : Type 0} (f : Alg → A) (value : A) where
  abbrev pub At : List ℕ → Type 0
  At [] = Unit {0}
  At (k ∷ ks) = (value ≡ f (get_or algs k Dir)) × At ks

  one : (a : Alg) (k : ℕ) → value ≡ f (get_or algs k Dir) → tag a ≡ k → value ≡ f a
  one a k e o = e ∙ ap (λ (n : ℕ). f (get_or algs n Dir)) (sym o) ∙ ap f (alg_at a)

  pub arm : (a : Alg) (ks : List ℕ) → At ks → OneOf ks (tag a) → value ≡ f a
  arm a [] e o = absurd o
  arm a (k ∷ []) e o = one a k e.0 o
  arm a (k ∷ l ∷ ks) e (inl o) = one a k e.0 o
  arm a (k ∷ l ∷ ks) e (inr o) = arm a (l ∷ ks) e.1 o
