-- What is known of a text that has been judged before: where an object or an array opens, it reads. Its end is then
-- found by its brackets alone. The contracts of the code ask for it where they are told that the text has been judged.
use Rattle.std.specs.Prelude.{◌≡◌, Bool, true, false, List, ℕ, zero, suc, length}
use Rattle.std.specs.Coded.{×_prop, Unit-prop}
use mathlib.Core.HLevel.{⊥_prop}
use Rattle.std.proofs.Math.Option.{Option, none, some}
use Rattle.grammar.specs.Grammar.{Bracket, opening}
use Rattle.grammar.specs.Reader.{octet_at, ended, nothing, before_at, Entry, entry_at, value_at}
use Rattle.json_read.specs.Inner.Ends.{value_in}
use Rattle.json_read.specs.Members.{first_in, next_from}

-- A fact that is asked for only where the text has been judged.
abbrev pub Given : Bool → Type 0 → Type 0
Given true fact = fact
Given false fact = Unit {0}

-- If a bracket opens at a position, what it opens reads.
abbrev pub Known : ℕ → List ℕ → ℕ → Type 0
Known l s at = (b : Bracket) → octet_at s at ≡ opening b → value_at l s at ≡ nothing → ⊥

-- The same at the value of the entry that begins at a position.
abbrev pub KnownEntry : Bracket → ℕ → List ℕ → ℕ → Type 0
KnownEntry b l s at = (v : ℕ) → value_in (before_at b s at) ≡ ended v → Known l s v

-- And from the next entry on, if this one reads.
abbrev pub KnownNext : List ℕ → (ℕ → Type 0) → Option Entry → Type 0
KnownNext s others none = Unit {0}
KnownNext s others (some x) = others (next_from s x.after)

-- At the values of the entries from a position on, at most so many.
unfoldable pub KnownFrom : Bracket → ℕ → List ℕ → ℕ → ℕ → Type 0
KnownFrom b l s zero at = Unit {0}
KnownFrom b l s (suc n) at =
    KnownEntry b l s at × KnownNext s (KnownFrom b l s n) (entry_at (value_at l s) b s at)

-- At the values in the object or array that begins at a position.
abbrev pub KnownIn : Bracket → ℕ → List ℕ → ℕ → Type 0
KnownIn b l s at = KnownFrom b l s (length s) (first_in s at)

-- Each of these holds in one way only.

pub given_prop : (b : Bool) {fact : Type 0} → IsProp fact → IsProp (Given b fact)
given_prop true p = p
given_prop false p = Unit-prop

known_prop : (l : ℕ) (s : List ℕ) (at : ℕ) → IsProp (Known l s at)
known_prop l s at = λ x y i b o n. ⊥_prop (x b o n) (y b o n) i

module _ (b : Bracket) (l : ℕ) (s : List ℕ) where
  entry_prop : (at : ℕ) → IsProp (KnownEntry b l s at)
  entry_prop at = λ x y i v e. known_prop l s v (x v e) (y v e) i

  next_prop : {others : ℕ → Type 0} → ((at : ℕ) → IsProp (others at)) → (o : Option Entry) → IsProp (KnownNext s others o)
  next_prop p none = Unit-prop
  next_prop p (some x) = p (next_from s x.after)

  pub from_prop : (n at : ℕ) → IsProp (KnownFrom b l s n at)
  unfolding KnownFrom
  from_prop zero at = Unit-prop
  from_prop (suc n) at = ×_prop (entry_prop at) (next_prop (from_prop n) (entry_at (value_at l s) b s at))
