-- The entries that are still to come, by what the code finds at a place: none, or one and those behind it.
use mathlib.Core.Path.{◌≡◌, refl, ap, sym, subst, ◌∙◌}
use mathlib.Core.Bool.{Bool, true, false, ◌||◌}
use mathlib.Core.List.{List, [], ◌∷◌}
use Prim.Native.Nat.{ℕ, ◌-◌, ◌<◌, ◌≤◌}
use lib.ListN.{length, get_or}
use denote.Param.Members.{Mut}
use Rattle.std.specs.Prelude as std
use Rattle.std.specs.Fn.{Called}
use Rattle.std.specs.Iterator.{YieldsFirstBy, YieldsThen}
use Rattle.std.specs.List.{FoldsTo, list_any}
use Rattle.std.specs.Option.{MatchOption}
use Rattle.std.proofs.lemmas.Iterator.{YieldsList}
use Rattle.std.proofs.lemmas.Iterator.Consumers.{YieldsList-from_first}
use Rattle.std.proofs.lemmas.Iterator.Search.{any_from_yields_List}
use Rattle.prelude.specs.Any.{any}
use Rattle.json_read.specs.Inner.Rows.{rows_left, elements_left}
use Rattle.json_read.specs.declared.member.Rows.{Rows}
use Rattle.grammar.specs.Grammar.{Bracket, curly}
use Rattle.grammar.specs.Places.{Member, Element}
use Rattle.grammar.specs.Reader.{entry_at, value_at, rows_at, as_element, elements_of}
use Rattle.json_read.specs.Members.{row_here, member_of, bracket_of, row_member, five_of, numbers}
use Rattle.json_read.specs.Inner.Known.{Given, Known, KnownEntry, KnownFrom}
use Rattle.json_read.specs.declared.Position.{Position}
use Rattle.json_read.specs.declared.member.Row.{Row}
use Rattle.json_read.proofs.Knowing.{given_map, known_entry, known_next}
use Rattle.json_read.proofs.MemberRows.{the_read, rows_more, rows_at_most}
use Rattle.json_read.proofs.ValueParts.{element_here}

abbrev from_five : List ℕ → Member
from_five w = record {
  name_start = get_or w 0 0;
  name_size = get_or w 1 0;
  value_start = get_or w 2 0;
  value_size = get_or w 3 0;
  kind = get_or w 4 0;
}

-- A row is the member that it was made of.
pub row_member_lem : (r : Row) (m : Member) → five_of r ≡ numbers m → row_member r ≡ m
row_member_lem r m e = ap from_five e

-- What reading one asks for, by the bracket.
module _ (array judged : Bool) (l : ℕ) (s : List ℕ) (at : ℕ) (known : Given judged (KnownEntry (bracket_of array) l s at)) where
  pub given_member : array ≡ false → Given judged (KnownEntry curly l s at)
  given_member e = subst (λ a. Given judged (KnownEntry (bracket_of a) l s at)) e known

  pub given_element : array ≡ true → Given judged (Known l s at)
  given_element e =
      given_map judged (λ k. k at (element_here s at))
      (subst (λ a. Given judged (KnownEntry (bracket_of a) l s at)) e known)

module _ (b : Bracket) (l : ℕ) (s : List ℕ) (left at : ℕ) (h : 0 < left) where
  pub given_entry : (judged : Bool) → Given judged (KnownFrom b l s left at) → Given judged (KnownEntry b l s at)
  given_entry judged = given_map judged (known_entry b l s left at h)

  -- One more.
  module _ (row : Row) (next : Position) (e : row_here row next ≡ member_of s (entry_at (value_at l s) b s at)) where
    pub row_more : rows_at (value_at l s) b s left at ≡ row_member row ∷ rows_at (value_at l s) b s (left - 1) next.at
    row_more =
        let read = the_read b s l left at h row next e in
        rows_more b s l left at h row next e
        ∙ ap (λ (m : Member). m ∷ rows_at (value_at l s) b s (left - 1) next.at)
        (sym (row_member_lem row read.entry.row read.five))

    pub given_more : (judged : Bool) → Given judged (KnownFrom b l s left at) →
        Given judged (KnownFrom b l s (left - 1) next.at)
    given_more judged = given_map judged (known_next b l s left at h (the_read b s l left at h row next e))

-- Chains over them.

any_is : {A : Type 0} (f : A → Bool) (xs : List A) → list_any f xs ≡ any f xs
unfolding any
any_is f [] = refl
any_is f (x ∷ xs) = ap (λ b. f x || b) (any_is f xs)

pub rows_given : (e : Rows) → YieldsList (YieldsFirstBy row_member rows_left) row_member e (rows_left e)
rows_given e = YieldsList-from_first row_member rows_left (rows_left e) refl

-- `any`, whose closure computes a test of each.
pub any_left : {F : Type 0} {g : Mut F (Row × Unit {0}) Bool} (e u : Rows) (f : F) (test : Member → Bool) (r : Bool) →
    ((xs : List Row) × (o : std.Option Row) × (j : F) × YieldsThen (YieldsFirstBy row_member rows_left) e xs o u
    × FoldsTo (λ p x q. Called g p (x, tt) false q) f xs j
    × MatchOption o (r ≡ false) (λ x. (r ≡ true) × ((h : F) × Called g j (x, tt) true h))) →
    ((x : Row) (b : Bool) (q : F) → Called g f (x, tt) b q → (q ≡ f) × (b ≡ test (row_member x))) →
    r ≡ any test (rows_left e)
any_left e u f test r ran tests =
    any_from_yields_List test u f r ran (rows_given e) tests ∙ any_is test (rows_left e)

any_elements : (f : Element → Bool) (ms : List Member) → any (λ m. f (as_element m)) ms ≡ any f (elements_of ms)
unfolding any elements_of
any_elements f [] = refl
any_elements f (m ∷ ms) = ap (λ b. f (as_element m) || b) (any_elements f ms)

-- The same of elements.
pub any_element_left : {F : Type 0} {g : Mut F (Row × Unit {0}) Bool} (e u : Rows) (f : F) (test : Element → Bool) (r : Bool) →
    ((xs : List Row) × (o : std.Option Row) × (j : F) × YieldsThen (YieldsFirstBy row_member rows_left) e xs o u
    × FoldsTo (λ p x q. Called g p (x, tt) false q) f xs j
    × MatchOption o (r ≡ false) (λ x. (r ≡ true) × ((h : F) × Called g j (x, tt) true h))) →
    ((x : Row) (b : Bool) (q : F) → Called g f (x, tt) b q → (q ≡ f) × (b ≡ test (as_element (row_member x)))) →
    r ≡ any test (elements_left e)
any_element_left e u f test r ran tests =
    any_left e u f (λ m. test (as_element m)) r ran tests ∙ any_elements test (rows_left e)

-- What a step of the iterator says of the elements.

pub element_more : (e u : Rows) {m : Member} → rows_left e ≡ m ∷ rows_left u →
    elements_left e ≡ as_element m ∷ elements_left u
unfolding elements_of
element_more e u h = ap elements_of h

pub element_none : (e : Rows) → rows_left e ≡ [] → elements_left e ≡ []
unfolding elements_of
element_none e h = ap elements_of h

-- They are no more than the turns that are left.
pub no_more : (e : Rows) → length (rows_left e) ≤ e.left
no_more e = rows_at_most (bracket_of e.array) e.text.now e.levels e.left e.at.at
