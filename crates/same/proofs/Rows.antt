-- What the rows of a judged text read: the elements of an array, and that each row's value stands where the row says.
use mathlib.Core.Path.{◌≡◌, ap, sym, subst, ◌∙◌}
use Rattle.grammar.specs.Bounds.{Every}
use mathlib.Core.Bool.{Bool, true, false, not}
use Rattle.std.specs.Prelude as std
use Rattle.std.specs.Prelude.{Some, None}
use Rattle.std.specs.Iterator.{YieldsFirstBy}
use Rattle.json_read.specs.Inner.Rows.{rows_left}
use Rattle.json_read.specs.declared.member.Rows.{Rows}
use mathlib.Core.List.{List, [], ◌∷◌, ◌++◌}
use Prim.Native.Nat.{ℕ}
use Rattle.grammar.specs.Grammar.{Bracket, square}
use Rattle.grammar.specs.Places.{Member, Element, kind_nested}
use Rattle.grammar.specs.Reader.{step, found, value_at, as_element, members_at, rows_in}
use Rattle.json_read.specs.Inner.Known.{KnownIn}
use Rattle.json_read.specs.declared.member.Row.{Row}
use Rattle.json_read.proofs.Knowing.{value_known}
use Rattle.json_read.proofs.RowValues as json
use Rattle.json_read.proofs.RowValues.{entry_reads, members_read_lem}
use Rattle.distinct.specs.Inner.Walking.{row_member}
use Rattle.same.specs.Same.{depth}
use Rattle.same.specs.Inner.Walking.{Reads, is_none}

-- A value of a kind, where it stands.
pub reads_in : (b : Bracket) (s : List ℕ) (x : Element) → x.kind ≡ kind_nested b → Reads s x →
    KnownIn b depth s x.start
reads_in b s x e r = value_known b depth s x.start r.end (r.is ∙ ap (found r.end) e)

-- The values of an object's members, or an array's elements, read: of one among them, and of those from a position on.

abbrev pub RowReads : List ℕ → Member → Type 0
RowReads s m = json.Reads depth s m.value_start m.kind

pub member_reads : (s : List ℕ) (m : Member) → RowReads s m → Reads s (as_element m)
member_reads s m r = record { end = r.end; is = r.is }

pub among_reads : (s : List ℕ) (at : ℕ) (xs : List Member) (m : Member) (ys : List Member) →
    members_at depth s at ≡ xs ++ (m ∷ ys) → Reads s (as_element m)
among_reads s at xs m ys e = member_reads s m (one xs (subst (Every (RowReads s)) e (members_read_lem depth s at)))
  where
    one : (xs : List Member) → Every (RowReads s) (xs ++ (m ∷ ys)) → RowReads s m
    one [] h = h.0
    one (x ∷ xs) h = one xs h.1

pub all_read : (s : List ℕ) (at : ℕ) (rows : List Member) → rows ≡ members_at depth s at → Every (RowReads s) rows
all_read s at rows e = subst (Every (RowReads s)) (sym e) (members_read_lem depth s at)

pub first_reads : (s : List ℕ) (rows : List Member) (m : Member) (others : List Member) → rows ≡ m ∷ others →
    Every (RowReads s) rows → Reads s (as_element m) × Every (RowReads s) others
first_reads s rows m others e h =
    let k = subst (Every (RowReads s)) e h in
    (member_reads s m k.0, k.1)

pub elements_read : (s : List ℕ) (at : ℕ) (rows : List Member) → rows ≡ rows_in (value_at depth s) square s (step s at) →
    Every (RowReads s) rows
elements_read s at rows e = subst (Every (RowReads s)) (sym e) (json.rows_read depth s square (step s at))

-- Whether one is left, as the code asks it.
pub none_is : (e u : Rows) (o : std.Option Row) (b : Bool) → std.is_some o ≡ not b → YieldsFirstBy row_member rows_left e o u →
    b ≡ is_none (rows_left e)
none_is e u None true n h = sym (ap is_none h.0)
none_is e u (Some row) false n h = sym (ap is_none h)
none_is e u None false n h = cc
none_is e u (Some row) true n h = cc
