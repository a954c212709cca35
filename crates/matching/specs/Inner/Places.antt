-- Entries by their numbers in a table, and what is known of each.
use Rattle.std.specs.Prelude.{◌≡◌, List, [], ◌∷◌, Option, None, Some, IfSome, ℕ, zero, suc, ◌<◌, length, drop, get_or}
use Rattle.std.specs.Coded.{coded_ℕ, Coded-set, ×_prop, Unit-prop}
use Rattle.std.proofs.Math.Option as lists
use mathlib.Core.Path.{sym, ◌∙◌}
use mathlib.Core.HLevel.{is_prop→PathP}
use mathlib.Core.Sum.{⊎_set}
use denote.Struct.Props as plain
use Rattle.grammar.specs.Places.{Element}
use Rattle.grammar.specs.Reader.{Answer, found as read, value_at}
use Rattle.rows.specs.Rows.{Entry, Texts, text_of, name_in}
use Rattle.same.specs.Same.{depth}
use Rattle.same.specs.Inner.Walking.{Reads}
use Rattle.matching.specs.Matching.{partner, value_of}
use Rattle.rows.specs.Tables.{width}
use Rattle.rows.specs.Inner.Prints.{Printed}

-- The k-th of some entries, if there are so many.
unfoldable pub nth : List Entry → ℕ → lists.Option Entry
nth [] k = lists.none
nth (e ∷ es) zero = lists.some e
nth (e ∷ es) (suc k) = nth es k

-- The one whose number was found, if one was.
abbrev pub found : List Entry → Option ℕ → lists.Option Entry
found es None = lists.none
found es (Some k) = nth es k

-- The number of its partner is kept for each of some entries, es in one message and fs in the other; none, where there is none.
pub record MatchedAt (ts us : Texts) (fs : List Entry) (e : Entry) (o : Option ℕ) : Type 0 where
  pub fits : IfSome o (λ j. j < length fs)
  pub is : partner us (name_in ts e) fs ≡ found fs o

abbrev pub Matched : Texts → Texts → List Entry → List Entry → List (Option ℕ) → Type 0
Matched ts us es fs numbers = (k : ℕ) (e : Entry) → nth es k ≡ lists.some e → MatchedAt ts us fs e (get_or numbers k None)

-- That a table has fingerprints is a plain fact: a side keeps it.
pub printed_prop : (ts : Texts) (n : ℕ) (t : List ℕ) → IsProp (Printed ts n t)
unfolding Printed
printed_prop ts zero t = Unit-prop
printed_prop ts (suc n) t = ×_prop (Coded-set coded_ℕ _ _) (printed_prop ts n (drop width t))

-- What is known of a parameter of a message that has been judged: its value reads where it stands.
pub record EntryReads (ts : Texts) (e : Entry) : Type 0 where
  pub reads : Reads (text_of ts e.origin) (value_of e)
  pub kind : e.member.kind < 256

-- Of each of some.
abbrev pub EachReads : Texts → List Entry → Type 0
EachReads ts es = (k : ℕ) (e : Entry) → nth es k ≡ lists.some e → EntryReads ts e

Answer_set : IsSet Answer
Answer_set = Prim.hlevel (⊎_set, plain.props)

reads_prop : (s : List ℕ) (x : Element) → IsProp (Reads s x)
reads_prop s x r t =
    let p : read r.end x.kind ≡ read t.end x.kind = sym r.is ∙ t.is in
    let same : r.end ≡ t.end = cc in
    λ i. record { end = same i; is = is_prop→PathP (λ j. value_at depth s x.start ≡ read (same j) x.kind) (λ j. Answer_set _ _) r.is t.is i }

pub each_reads_prop : (ts : Texts) (es : List Entry) → IsProp (EachReads ts es)
each_reads_prop ts es = Prim.hlevel (reads_prop, plain.props)
