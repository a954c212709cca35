-- A string's number among names of which no two are equal: it is that of the name that it has.
use mathlib.Core.Path.{◌≡◌, refl, sym, ap, subst, ◌∙◌}
use mathlib.Core.List.{List, [], ◌∷◌}
use mathlib.Core.Bool.{Bool, true, false, not, ◌&&◌, cond, true≢false}
use mathlib.Core.Logic.{◌↔◌}
use Prim.Native.Nat.{ℕ, zero, suc, ◌<◌}
use native.Mathlib.Omega.{arith}
use lib.Dec.{T}
use lib.ListN.{length, get_or}
use Rattle.prelude.specs.Ascii.{ascii}
use Rattle.grammar.specs.Grammar.{Str}
use Rattle.grammar.specs.Strings.{HasOctets}
use Rattle.grammar.specs.Spellings.{equal}
use Rattle.grammar.proofs.Spellings.{equal_same}
use Rattle.grammar.proofs.Scan.{T→true, both_T, false_of}
use Rattle.names.specs.Names.{number_in, any}
use Rattle.algorithms.specs.Algorithms.{algs, alg_name, alg_names, encs, enc_name, enc_names}
use Rattle.jose.specs.Registered.{registered}
use Rattle.shape.specs.Shape.{member_names}
use Rattle.meets.proofs.Saying.{Spells, number_first}

-- Whether no two of some names are equal.
unfoldable pub apart : List (List ℕ) → Bool
apart [] = true
apart (o ∷ ws) = not (any (equal o) ws) && apart ws

any_at : (test : List ℕ → Bool) (ws : List (List ℕ)) (i : ℕ) → i < length ws → test (get_or ws i []) ≡ true →
    any test ws ≡ true
unfolding any
any_at test [] i l e = absurd (omega arith)
any_at test (o ∷ ws) zero l e = ap (λ (b : Bool). cond b true (any test ws)) e
any_at test (o ∷ ws) (suc i) l e = cases (test o) (any_at test ws i (omega arith) e)
  where
    cases : (b : Bool) → any test ws ≡ true → cond b true (any test ws) ≡ true
    cases true h = refl
    cases false h = h

apart_at : (ws : List (List ℕ)) (i j : ℕ) → T (apart ws) → i < length ws → j < i → get_or ws j [] ≡ get_or ws i [] → ⊥
unfolding apart
apart_at [] i j t l k e = omega arith
apart_at (o ∷ ws) zero j t l k e = omega arith
apart_at (o ∷ ws) (suc i) zero t l k e =
    let u = both_T (not (any (equal o) ws)) (apart ws) t in
    let same : equal o (get_or ws i []) ≡ true =
    T→true (equal o (get_or ws i [])) (subst (λ z. T (equal o z)) e (equal_same o)) in
    true≢false (sym (any_at (equal o) ws i (omega arith) same) ∙ false_of (any (equal o) ws) u.0)
apart_at (o ∷ ws) (suc i) (suc j) t l k e =
    apart_at ws i j (both_T (not (any (equal o) ws)) (apart ws) t).1 (omega arith) (omega arith) e

-- The number of a spelling is a name's exactly where the string has the name.
pub number_exactly : (w : List ℕ) (x : Str) → Spells w x → (ws : List (List ℕ)) → T (apart ws) → (i : ℕ) →
    i < length ws → (number_in ws w ≡ suc i) ↔ HasOctets x (get_or ws i [])
number_exactly w x h ws t i l =
    let f = number_first w x h ws i in
    ((λ e. (f.0 e).1), (λ p. f.1 (l, p, λ j k q. apart_at ws i j t l k (sym q ∙ p))))

-- Our lists are such.

pub registered_apart : T (apart registered)
unfolding apart registered any equal ascii
registered_apart = tt

pub members_apart : T (apart member_names)
unfolding apart member_names any equal ascii
members_apart = tt

pub algs_apart : T (apart alg_names)
unfolding apart alg_names algs alg_name any equal ascii
algs_apart = tt

pub encs_apart : T (apart enc_names)
unfolding apart enc_names encs enc_name any equal ascii
encs_apart = tt
