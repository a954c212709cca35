-- The value of every row that the reader collects reads, as it is made only of one that was found; so in a row that is
-- an object or an array, what opens reads.
use mathlib.Core.Path.{◌≡◌, refl}
use mathlib.Core.List.{List, [], ◌∷◌}
use mathlib.Core.Option.{Option, none, some}
use Prim.Native.Nat.{ℕ, zero, suc}
use lib.ListN.{length}
use lib.Dec.{eqb}
use Rattle.grammar.specs.Grammar.{comma, closing, Bracket, curly, square}
use Rattle.grammar.specs.Places.{kind_nested, Place, Member}
use Rattle.grammar.specs.Bounds.{Every}
use Rattle.grammar.specs.Reader.{octet_at, step, skip_space, Answer, nothing, found, Before, before_at, Entry, entry_of}
use Rattle.grammar.specs.Reader.{value_after, entry_at, rows_after, rows_at, rows_in, value_at, members_at, elements_of}
use Rattle.grammar.specs.Reader.{elements_at}
use Rattle.grammar.proofs.Endings.{either}
use Rattle.json_read.specs.Inner.Known.{KnownIn}
use Rattle.json_read.proofs.Knowing.{value_known}

-- A value of the kind k stands at a position.
pub record Reads (l : ℕ) (s : List ℕ) (at k : ℕ) : Type 0 where
  pub end : ℕ
  pub is : value_at l s at ≡ found end k

pub reads_known : (b : Bracket) {l : ℕ} {s : List ℕ} {at : ℕ} → Reads l s at (kind_nested b) → KnownIn b l s at
reads_known b {l} {s} {at} r = value_known b l s at r.end r.is

module _ (l : ℕ) (s : List ℕ) (b : Bracket) where
  abbrev RowReads : Member → Type 0
  RowReads m = Reads l s m.value_start m.kind

  abbrev EntryReads : Option Entry → Type 0
  EntryReads none = Unit {0}
  EntryReads (some x) = RowReads x.row

  pub entry_reads : (at : ℕ) → EntryReads (entry_at (value_at l s) b s at)
  unfolding entry_at
  entry_reads at = cases (before_at b s at)
    where
      whole : (q : Place) (v : ℕ) (r : Answer) → value_at l s v ≡ r → EntryReads (entry_of q v r)
      whole q v nothing h = tt
      whole q v (found e k) h = record { end = e; is = h }

      cases : (o : Option Before) → EntryReads (value_after (value_at l s) o)
      cases none = tt
      cases (some x) = whole x.name x.value (value_at l s x.value) refl

  rows_at_read : (n at : ℕ) → Every RowReads (rows_at (value_at l s) b s n at)
  unfolding rows_at
  rows_at_read zero at = tt
  rows_at_read (suc n) at = cases (entry_at (value_at l s) b s at) (entry_reads at) (rows_at_read n)
    where
      cases : (x : Option Entry) → EntryReads x → ((q : ℕ) → Every RowReads (rows_at (value_at l s) b s n q)) →
          Every RowReads (rows_after s (rows_at (value_at l s) b s n) x)
      cases none h more = tt
      cases (some x) h more =
          let q = skip_space s x.after in
          let others = more (skip_space s (step s q)) in
          (h, either (Every RowReads) (eqb (octet_at s q) comma) (λ _. others) (λ _. tt))

  pub rows_read : (at : ℕ) → Every RowReads (rows_in (value_at l s) b s at)
  unfolding rows_in
  rows_read at =
      let q = skip_space s at in
      either (Every RowReads) (eqb (octet_at s q) (closing b)) (λ _. tt) (λ _. rows_at_read (length s) q)

pub members_read_lem : (l : ℕ) (s : List ℕ) (at : ℕ) →
    Every (λ m. Reads l s m.value_start m.kind) (members_at l s at)
unfolding members_at
members_read_lem l s at = rows_read l s curly (step s at)

pub elements_read : (l : ℕ) (s : List ℕ) (at : ℕ) → Every (λ x. Reads l s x.start x.kind) (elements_at l s at)
unfolding elements_at elements_of
elements_read l s at = cases (rows_in (value_at l s) square s (step s at)) (rows_read l s square (step s at))
  where
    cases : (ms : List Member) → Every (λ m. Reads l s m.value_start m.kind) ms →
        Every (λ x. Reads l s x.start x.kind) (elements_of ms)
    cases [] h = tt
    cases (m ∷ ms) h = (h.0, cases ms h.1)
