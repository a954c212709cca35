-- The rows of an object or an array, by reading one entry after the other until none begins.
use mathlib.Core.Path.{◌≡◌, refl, ap, sym, ◌∙◌}
use mathlib.Core.Bool.{Bool, true, false, cond}
use mathlib.Core.List.{List, [], ◌∷◌}
use mathlib.Core.Option.{Option, none, some}
use Prim.Native.Nat.{ℕ, zero, suc, ◌-◌, ◌≤◌, ◌<◌}
use native.Mathlib.Omega.{arith}
use lib.ListN.{length}
use lib.Dec.{eqb}
use borrow.Author.Tests.{eqb-true}
use Rattle.grammar.specs.Grammar.{Bracket, curly, square, comma, closing}
use Rattle.grammar.specs.Places as places
use Rattle.grammar.specs.Reader.{Answer, octet_at, step, skip_space, Entry, entry_of}
use Rattle.grammar.specs.Reader.{entry_at, before_at, rows_after, rows_at, rows_in, value_with, value_at, nested_within}
use Rattle.grammar.specs.Reader.{members_at, elements_of, elements_at}
use Rattle.json_read.specs.Members.{next_from, row_here, member_of, numbers, five_of}
use Rattle.json_read.specs.declared.Position.{Position}
use Rattle.json_read.specs.declared.member.Row.{Row}
use Rattle.json_read.specs.declared.member.Member.{Member}
use Rattle.std.specs.Prelude.{None}
use Rattle.grammar.proofs.Here.{octet_end}
use Rattle.grammar.proofs.Turns.{rows_turn, member_no_name, value_is}
use Rattle.json_read.proofs.NumberParts.{same_found}
use Rattle.json_read.proofs.StringParts.{string_not}

-- What an answer of the code says of the entry

is_none : (s : List ℕ) (o : Option Entry) → None ≡ member_of s o → o ≡ none
is_none s none e = refl
is_none s (some x) e = let z : ◌≡◌ {A = ℕ} 0 1 = cc in absurd (omega arith)

pub record Read (s : List ℕ) (o : Option Entry) (row : Row) (next : Position) : Type 0 where
  pub entry : Entry
  pub is : o ≡ some entry
  pub five : five_of row ≡ numbers entry.row
  pub on : next.at ≡ next_from s entry.after

is_read : (s : List ℕ) (o : Option Entry) (row : Row) (next : Position) → row_here row next ≡ member_of s o → Read s o row next
is_read s none row next e = let z : ◌≡◌ {A = ℕ} 0 1 = cc in absurd (omega arith)
is_read s (some x) row next e =
    let m = same_found e in
    record { entry = x; is = refl; five = ap (λ (q : Member). five_of q.row) m; on = ap (λ (q : Member). q.next.at) m }

-- No entry begins at the text's end, nor at the closing bracket

pub outside : (b : Bracket) (s : List ℕ) (l at : ℕ) (c : ℕ) → c ≡ octet_at s at → (c ≡ 256) → entry_at (value_at l s) b s at ≡ none
unfolding entry_at before_at value_with
outside curly s l at c e h =
    sym (member_no_name (value_at l s) s at (string_not s at (λ q. let z = sym h ∙ e ∙ q in omega (arith, z))))
outside square s l at c e h =
    ap (λ (r : Answer). entry_of (record { start = 0; size = 0 }) at r)
    (value_is s l at c e ∙ ap (value_with (λ b p. nested_within l b s p) s at) h)

pub closed : (b : Bracket) (s : List ℕ) (l at : ℕ) (c : ℕ) → c ≡ octet_at s at → c ≡ closing b → entry_at (value_at l s) b s at ≡ none
unfolding entry_at before_at value_with
closed curly s l at c e h =
    sym (member_no_name (value_at l s) s at (string_not s at (λ q. let z = sym h ∙ e ∙ q in omega (arith, z))))
closed square s l at c e h =
    ap (λ (r : Answer). entry_of (record { start = 0; size = 0 }) at r)
    (value_is s l at c e ∙ ap (value_with (λ b p. nested_within l b s p) s at) h)

module _ (b : Bracket) (s : List ℕ) (l : ℕ) where
  rows_stop : (n at : ℕ) → entry_at (value_at l s) b s at ≡ none → rows_at (value_at l s) b s n at ≡ []
  unfolding rows_at
  rows_stop zero at e = refl
  rows_stop (suc n) at e = ap (rows_after s (rows_at (value_at l s) b s n)) e

  rows_over : (n : ℕ) → rows_at (value_at l s) b s n (length s) ≡ []
  rows_over n = rows_stop n (length s) (outside b s l (length s) 256 (octet_end s (length s) (omega arith)) refl)

  -- past the opening bracket there are rows from the first octet on that is not space
  pub rows_first : (at q : ℕ) → q ≡ skip_space s at → rows_at (value_at l s) b s (length s) q ≡ rows_in (value_at l s) b s at
  unfolding rows_in
  rows_first at q e =
      ap (rows_at (value_at l s) b s (length s)) e ∙ cases (eqb (octet_at s (skip_space s at)) (closing b)) refl
    where
      cases : (t : Bool) → eqb (octet_at s (skip_space s at)) (closing b) ≡ t
          → rows_at (value_at l s) b s (length s) (skip_space s at)
          ≡ cond (eqb (octet_at s (skip_space s at)) (closing b)) [] (rows_at (value_at l s) b s (length s) (skip_space s at))
      cases true t =
          rows_stop (length s) (skip_space s at)
          (closed b s l (skip_space s at) (octet_at s (skip_space s at)) refl (eqb-true (octet_at s (skip_space s at)) (closing b) t))
          ∙ sym (ap (λ (x : Bool). cond x [] (rows_at (value_at l s) b s (length s) (skip_space s at))) t)
      cases false t = sym (ap (λ (x : Bool). cond x [] (rows_at (value_at l s) b s (length s) (skip_space s at))) t)

  -- no turn is left
  pub rows_spent : (n at : ℕ) → n ≡ 0 → rows_at (value_at l s) b s n at ≡ []
  unfolding rows_at
  rows_spent n at e = ap (λ (k : ℕ). rows_at (value_at l s) b s k at) e

  -- there are no more rows than turns
  pub rows_at_most : (n at : ℕ) → length (rows_at (value_at l s) b s n at) ≤ n
  unfolding rows_at
  rows_at_most zero at = omega arith
  rows_at_most (suc n) at = cases (entry_at (value_at l s) b s at) (rows_at_most n)
    where
      both : (t : Bool) (q : ℕ) → length (rows_at (value_at l s) b s n q) ≤ n
          → length (cond t (rows_at (value_at l s) b s n q) []) ≤ n
      both true q h = h
      both false q h = omega arith

      cases : (o : Option Entry) → ((q : ℕ) → length (rows_at (value_at l s) b s n q) ≤ n)
          → length (rows_after s (rows_at (value_at l s) b s n) o) ≤ suc n
      cases none fewer = omega arith
      cases (some x) fewer =
          let after = skip_space s x.after in
          let q = skip_space s (step s after) in
          omega (arith, both (eqb (octet_at s after) comma) q (fewer q))

  module _ (left at : ℕ) (h : 0 < left) where
    pub rows_none : None ≡ member_of s (entry_at (value_at l s) b s at) → rows_at (value_at l s) b s left at ≡ []
    rows_none e = rows_stop left at (is_none s (entry_at (value_at l s) b s at) e)

    -- one row more, and the rows from the next entry on
    module _ (row : Row) (next : Position) (e : row_here row next ≡ member_of s (entry_at (value_at l s) b s at)) where
      pub the_read : Read s (entry_at (value_at l s) b s at) row next
      the_read = is_read s (entry_at (value_at l s) b s at) row next e

      pub rows_more : rows_at (value_at l s) b s left at
          ≡ the_read.entry.row ∷ rows_at (value_at l s) b s (left - 1) next.at
      unfolding next_from
      rows_more =
          sym (rows_turn (value_at l s) b s left at h (some the_read.entry) (sym the_read.is))
          ∙ ap (λ (rest : List places.Member). the_read.entry.row ∷ rest)
          (others (eqb (octet_at s (skip_space s the_read.entry.after)) comma) refl)
        where
          rows : ℕ → List places.Member
          rows = rows_at (value_at l s) b s (left - 1)

          others : (t : Bool) → eqb (octet_at s (skip_space s the_read.entry.after)) comma ≡ t
              → cond (eqb (octet_at s (skip_space s the_read.entry.after)) comma)
              (rows_at (value_at l s) b s (left - 1) (skip_space s (step s (skip_space s the_read.entry.after)))) []
              ≡ rows_at (value_at l s) b s (left - 1) next.at
          others true f =
              let after = skip_space s the_read.entry.after in
              ap (λ (x : Bool). cond x (rows (skip_space s (step s after))) []) f
              ∙ sym (ap rows (the_read.on ∙ ap (λ (x : Bool). cond x (skip_space s (step s after)) (length s)) f))
          others false f =
              let after = skip_space s the_read.entry.after in
              ap (λ (x : Bool). cond x (rows (skip_space s (step s after))) []) f
              ∙ sym (ap rows (the_read.on ∙ ap (λ (x : Bool). cond x (skip_space s (step s after)) (length s)) f)
              ∙ rows_over (left - 1))

pub elements_length : (rows : List places.Member) → length (elements_of rows) ≡ length rows
unfolding elements_of
elements_length [] = refl
elements_length (m ∷ rest) = ap suc (elements_length rest)

-- Every member, and every element, from the first entry on

pub members_first : (s : List ℕ) (l at p q : ℕ) → p ≡ step s at → q ≡ skip_space s p
    → rows_at (value_at l s) curly s (length s) q ≡ members_at l s at
unfolding members_at
members_first s l at p q e f = rows_first curly s l p q f ∙ ap (rows_in (value_at l s) curly s) e

pub elements_first : (s : List ℕ) (l at p q : ℕ) → p ≡ step s at → q ≡ skip_space s p
    → length (rows_at (value_at l s) square s (length s) q) ≡ length (elements_at l s at)
unfolding elements_at
elements_first s l at p q e f =
    ap length (rows_first square s l p q f ∙ ap (rows_in (value_at l s) square s) e)
    ∙ sym (elements_length (rows_in (value_at l s) square s (step s at)))
