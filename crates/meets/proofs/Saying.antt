-- What the tests on spellings decide of the strings that are spelled so: has, alike and number_in.
use mathlib.Core.Path.{◌≡◌, refl, sym, subst, subst₂}
use mathlib.Core.List.{List, [], ◌∷◌}
use mathlib.Core.Bool.{Bool, true, false, cond, true≢false}
use mathlib.Core.Logic.{◌↔◌, ◌⊎◌, inl, inr}
use Prim.Native.Nat.{ℕ, zero, suc, ◌+◌, ◌-◌, ◌<◌}
use native.Mathlib.Omega.{arith}
use lib.Dec.{T}
use lib.ListN.{length, get_or}
use Rattle.parts.specs.Parts.{part}
use Rattle.grammar.specs.Grammar.{Str, leaves_chars, string}
use Rattle.grammar.specs.Places as places
use Rattle.grammar.specs.Strings.{SayAlike, HasOctets}
use Rattle.grammar.specs.Spellings.{alike, has, sayable}
use Rattle.grammar.proofs.Theorems.{alike_decides, has_decides}
use Rattle.grammar.proofs.Parse.{true→T}
use Rattle.grammar.proofs.Scan.{T→true}
use Rattle.names.specs.Names.{number_in, any}
use Rattle.names.proofs.Laws.{number_none, number_is, number_earlier}
use Rattle.meets.specs.Members.{Member, Among}
use Rattle.meets.proofs.Standing.{Stands, MemberStands, string_stands}

-- Octets that spell a string which says code points.
pub record Spells (w : List ℕ) (x : Str) : Type 0 where
  pub spelled : w ≡ leaves_chars x.chars
  pub sayable : T (sayable x)

-- A member's name is spelled so, and so is a string value, without its quotation marks.

pub name_spells : (s : List ℕ) (p : Member) (m : places.Member) → MemberStands s p m →
    Spells (part s m.name_start m.name_size) p.name
name_spells s p m h = record { spelled = h.spelled; sayable = h.sayable }

pub string_spells : (s : List ℕ) (x : Str) (at size : ℕ) → Stands s (string x) at size →
    Spells (part s (at + 1) (size - 2)) x
string_spells s x at size h = let e = string_stands s x at size h in record { spelled = e.0; sayable = e.1 }

-- A test that is true, and one that is false.

decided : {P : Type 0} (b : Bool) → T b ↔ P → (b ≡ true) ↔ P
decided b h = ((λ e. h.0 (true→T b e)), (λ p. T→true b (h.1 p)))

pub refuted : {P : Type 0} (b : Bool) → (b ≡ true) ↔ P → (b ≡ false) ↔ (P → ⊥)
refuted true h = ((λ e. absurd (true≢false e)), (λ n. absurd (n (h.0 refl))))
refuted false h = ((λ e p. true≢false (sym (h.1 p))), (λ n. refl))

module _ (w : List ℕ) (x : Str) (h : Spells w x) where
  pub has_spells : (o : List ℕ) → (has w o ≡ true) ↔ HasOctets x o
  has_spells o =
      decided (has w o)
      (subst (λ z. T (has z o) ↔ HasOctets x o) (sym h.spelled) (has_decides x o h.sayable))

  pub has_not : (o : List ℕ) → (has w o ≡ false) ↔ (HasOctets x o → ⊥)
  has_not o = refuted (has w o) (has_spells o)

  pub alike_spells : (v : List ℕ) (y : Str) → Spells v y → (alike w v ≡ true) ↔ SayAlike x y
  alike_spells v y g =
      decided (alike w v)
      (subst₂ (λ z u. T (alike z u) ↔ SayAlike x y) (sym h.spelled) (sym g.spelled)
      (alike_decides x y h.sayable g.sayable))

  pub alike_not : (v : List ℕ) (y : Str) → Spells v y → (alike w v ≡ false) ↔ (SayAlike x y → ⊥)
  alike_not v y g = refuted (alike w v) (alike_spells v y g)

  -- One of some names.
  any_spells : (ws : List (List ℕ)) → (any (has w) ws ≡ true) ↔ Among ws x
  unfolding any
  any_spells [] = ((λ e. absurd (true≢false (sym e))), (λ p. absurd p))
  any_spells (o ∷ ws) = cases (has w o) (has_spells o) (any_spells ws)
    where
      cases : (b : Bool) → (b ≡ true) ↔ HasOctets x o → (any (has w) ws ≡ true) ↔ Among ws x →
          (cond b true (any (has w) ws) ≡ true) ↔ (HasOctets x o ⊎ Among ws x)
      cases true one others = ((λ e. inl (one.0 refl)), (λ p. refl))
      cases false one others = (
        (λ e. inr (others.0 e)),
        (λ p. elim p [ inl q ↦ absurd (true≢false (sym (one.1 q))) | inr q ↦ others.1 q ]),
      )

  -- Its number is 0 where it has none of them ..
  pub number_zero : (ws : List (List ℕ)) → (number_in ws w ≡ 0) ↔ (Among ws x → ⊥)
  number_zero ws =
      let a = number_none ws w in
      let b = refuted (any (has w) ws) (any_spells ws) in
      ((λ e. b.0 (a.0 e)), (λ n. a.1 (b.1 n)))

  pub number_among : (ws : List (List ℕ)) → (number_in ws w ≡ 0 → ⊥) ↔ Among ws x
  number_among ws = cases (any (has w) ws) (any_spells ws) (number_none ws w)
    where
      cases : (b : Bool) → (b ≡ true) ↔ Among ws x → (number_in ws w ≡ 0) ↔ (b ≡ false) →
          (number_in ws w ≡ 0 → ⊥) ↔ Among ws x
      cases true a n = ((λ _. a.0 refl), (λ _ e. true≢false (n.0 e)))
      cases false a n = ((λ f. absurd (f (n.1 refl))), (λ p. absurd (true≢false (sym (a.1 p)))))

  -- .. and else that of the first that it has, counted from 1.

  abbrev First : List (List ℕ) → ℕ → Type 0
  First ws i =
      (i < length ws) × HasOctets x (get_or ws i []) × ((j : ℕ) → j < i → HasOctets x (get_or ws j []) → ⊥)

  number_found : (ws : List (List ℕ)) (i : ℕ) → number_in ws w ≡ suc i → First ws i
  number_found ws i e =
      let a = number_is ws w i e in (
        a.0,
        (has_spells (get_or ws i [])).0 a.1,
        λ j k. (has_not (get_or ws j [])).0 (number_earlier ws w i j e k),
      )

  among_at : (ws : List (List ℕ)) (i : ℕ) → i < length ws → HasOctets x (get_or ws i []) → Among ws x
  among_at [] i l p = absurd (omega arith)
  among_at (o ∷ ws) zero l p = inl p
  among_at (o ∷ ws) (suc i) l p = inr (among_at ws i (omega arith) p)

  found_number : (ws : List (List ℕ)) (i : ℕ) → First ws i → number_in ws w ≡ suc i
  found_number ws i f = cases (number_in ws w) refl
    where
      cases : (n : ℕ) → number_in ws w ≡ n → n ≡ suc i
      cases zero e = absurd ((number_zero ws).0 e (among_at ws i f.0 f.1))
      cases (suc k) e =
          let g = number_found ws k e in
          let later : ¬ (k < i) = λ l. f.2 k l g.1 in
          let earlier : ¬ (i < k) = λ l. g.2 i l f.1 in
          omega arith

  pub number_first : (ws : List (List ℕ)) (i : ℕ) → (number_in ws w ≡ suc i) ↔ First ws i
  number_first ws i = (number_found ws i, found_number ws i)
