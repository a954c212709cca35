-- Loops along the members of an object or the elements of an array, in a text that has been judged: what is asked of
-- those from here on stays the answer for all. Stated once for every question that goes row by row.
use mathlib.Core.Path.{◌≡◌, refl, ap, sym, subst, ◌∙◌}
use mathlib.Core.Bool.{Bool, true, false, ◌||◌, cond}
use mathlib.Core.List.{List, [], ◌∷◌}
use Prim.Native.Nat.{ℕ, ◌-◌, ◌<◌}
use lib.ListN.{length, get_or}
use Rattle.grammar.specs.Grammar.{Bracket, curly}
use Rattle.grammar.specs.Places.{Member}
use Rattle.grammar.specs.Reader.{step, entry_at, value_at, members_at}
use Rattle.json_read.specs.Members.{first_in, row_here, member_of, five_of, numbers}
use Rattle.json_read.specs.Inner.Known.{KnownEntry, KnownFrom, KnownIn}
use Rattle.json_read.specs.declared.Position.{Position}
use Rattle.json_read.specs.declared.member.Row.{Row}
use Rattle.std.specs.Prelude.{None}
use Rattle.json_read.proofs.MemberRows.{rows_first, rows_spent, rows_none, rows_more, the_read}
use Rattle.json_read.proofs.Knowing.{known_entry, known_next}
use Rattle.prelude.specs.Any.{any, any_pair}
use Rattle.distinct.specs.Names.{depth}
use Rattle.distinct.specs.Inner.Walking.{row_member, rows_from}

abbrev from_five : List ℕ → Member
from_five w = record {
  name_start = get_or w 0 0;
  name_size = get_or w 1 0;
  value_start = get_or w 2 0;
  value_size = get_or w 3 0;
  kind = get_or w 4 0;
}

-- A row is the member that it was made of.
pub row_member_lem : (r : Row) (m : Member) → five_of r ≡ numbers m → row_member r ≡ m
row_member_lem r m e = ap from_five e

-- From the first one on they are all.

pub members_all : (s : List ℕ) (at q : ℕ) → q ≡ first_in s at → rows_from curly s (length s) q ≡ members_at depth s at
unfolding members_at
members_all s at q e = rows_first curly s depth (step s at) q e

-- What is known from the first one on.
pub known_all : (b : Bracket) (s : List ℕ) (at q : ℕ) → q ≡ first_in s at → KnownIn b depth s at →
    KnownFrom b depth s (length s) q
known_all b s at q e k = subst (KnownFrom b depth s (length s)) (sym e) k

module _ (b : Bracket) (s : List ℕ) (left at : ℕ) where
  -- No turn is left.
  pub none_spent : left ≡ 0 → rows_from b s left at ≡ []
  none_spent e = rows_spent b s depth left at e

  module _ (h : 0 < left) where
    -- No row is left.
    pub none_here : None ≡ member_of s (entry_at (value_at depth s) b s at) → rows_from b s left at ≡ []
    none_here e = rows_none b s depth left at h e

    pub entry_known : KnownFrom b depth s left at → KnownEntry b depth s at
    entry_known k = known_entry b depth s left at h k

    -- One row more.
    module _ (row : Row) (next : Position) (e : row_here row next ≡ member_of s (entry_at (value_at depth s) b s at)) where
      pub row_more : rows_from b s left at ≡ row_member row ∷ rows_from b s (left - 1) next.at
      row_more =
          let read = the_read b s depth left at h row next e in
          rows_more b s depth left at h row next e
          ∙ ap (λ (m : Member). m ∷ rows_from b s (left - 1) next.at)
          (sym (row_member_lem row read.entry.row read.five))

      pub known_more : KnownFrom b depth s left at → KnownFrom b depth s (left - 1) next.at
      known_more k = known_next b depth s left at h (the_read b s depth left at h row next e) k

-- A question on rows: one of which a test is true gives `hit`; where there is none, `miss`.
pub record Asked (question : List Member → Bool) (test : Member → List Member → Bool) (hit miss : Bool) : Type 0 where
  pub of_none : question [] ≡ miss
  pub of_one : (x : Member) (xs : List Member) → question (x ∷ xs) ≡ cond (test x xs) hit (question xs)

or_cond : (a b : Bool) → a || b ≡ cond a true b
or_cond true b = refl
or_cond false b = refl

-- Whether one passes, and whether two do.

pub of_any : (f : Member → Bool) → Asked (any f) (λ x xs. f x) true false
unfolding any
of_any f = record { of_none = refl; of_one = λ x xs. or_cond (f x) (any f xs) }

pub of_pair : (f : Member → Member → Bool) → Asked (any_pair f) (λ x xs. any (f x) xs) true false
unfolding any_pair
of_pair f = record { of_none = refl; of_one = λ x xs. or_cond (any (f x) xs) (any_pair f xs) }

module _ {question : List Member → Bool} {test : Member → List Member → Bool} {hit miss : Bool}
    (asked : Asked question test hit miss) (answer : Bool) (b : Bracket) (s : List ℕ) (left at : ℕ)
    (so : question (rows_from b s left at) ≡ answer) where
  over : rows_from b s left at ≡ [] → miss ≡ answer
  over e = sym asked.of_none ∙ sym (ap question e) ∙ so

  -- There are no more turns.
  pub walk_spent : left ≡ 0 → miss ≡ answer
  walk_spent e = over (none_spent b s left at e)

  module _ (h : 0 < left) where
    -- There are no more rows.
    pub walk_end : None ≡ member_of s (entry_at (value_at depth s) b s at) → miss ≡ answer
    walk_end e = over (none_here b s left at h e)

    module _ (row : Row) (next : Position)
        (e : row_here row next ≡ member_of s (entry_at (value_at depth s) b s at)) where
      here : cond (test (row_member row) (rows_from b s (left - 1) next.at)) hit
          (question (rows_from b s (left - 1) next.at)) ≡ answer
      here =
          sym (asked.of_one (row_member row) (rows_from b s (left - 1) next.at))
          ∙ sym (ap question (row_more b s left at h row next e)) ∙ so

      -- This one passes.
      pub walk_found : test (row_member row) (rows_from b s (left - 1) next.at) ≡ true → hit ≡ answer
      walk_found t =
          sym (ap (λ (z : Bool). cond z hit (question (rows_from b s (left - 1) next.at))) t) ∙ here

      -- This one does not.
      pub walk_on : test (row_member row) (rows_from b s (left - 1) next.at) ≡ false →
          question (rows_from b s (left - 1) next.at) ≡ answer
      walk_on t =
          sym (ap (λ (z : Bool). cond z hit (question (rows_from b s (left - 1) next.at))) t) ∙ here
