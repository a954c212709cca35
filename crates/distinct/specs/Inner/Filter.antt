-- A filter of fingerprints: places, of which each holds a fingerprint or 0. What has been entered is found from its
-- start on before the first 0, or there is no 0. That something is found says nothing: it is then looked for exactly.
-- `size` is that of a window: a filter has four places for each of its members.
use Rattle.std.specs.Prelude.{◌≡◌, Bool, true, false, List, ◌++◌, ◌⊎◌, ℕ, zero, suc, ◌-◌, ◌*◌, ◌%◌, ◌≤◌, ◌<◌, get_or}
use Rattle.grammar.specs.Places.{Member}
use Rattle.grammar.specs.Grammar.{curly}
use Rattle.grammar.specs.Spellings.{undo}
use Rattle.spelling.specs.Inner.Fingerprints.{fingerprint}
use Rattle.grammar.specs.Bounds.{Every}
use Rattle.json_read.specs.Inner.Known.{KnownFrom}
use Rattle.prelude.specs.Any.{any_pair}
use Rattle.distinct.specs.Names.{depth, name_at, same_name}
use Rattle.distinct.specs.Inner.Walking.{rows_from}
use Rattle.distinct.specs.declared.window.Slot.{Slot}
use Rattle.distinct.specs.declared.window.Slot.TheVariants.{Free, Taken}
use Rattle.distinct.specs.declared.window.Window.{Window}
use Rattle.distinct.specs.declared.window.Window.TheVariants.{Repeats, Next}

-- What is entered for a fingerprint: not 0.
abbrev pub tag : ℕ → ℕ
tag zero = 1
tag (suc n) = suc n

-- Of a member's name.
abbrev pub tag_of : List ℕ → Member → ℕ
tag_of s m = tag (fingerprint (undo (name_at s m)))

-- Where the search for it begins.
abbrev pub start_of : ℕ → ℕ → ℕ
start_of size v = v % (3 * size)

-- None of the places from b up to e is free.
abbrev pub NoneFree : List ℕ → ℕ → ℕ → Type 0
NoneFree w b e = (i : ℕ) → b ≤ i → i < e → get_or w i 0 ≡ 0 → ⊥

-- A tag stands at a place from b on, and none before that is free; or none is up to the end.

pub record Seen (w : List ℕ) (b v : ℕ) : Type 0 where
  pub place : ℕ
  pub from : b ≤ place
  pub there : get_or w place 0 ≡ v
  pub run : NoneFree w b place

abbrev pub MarkedIn : List ℕ → ℕ → ℕ → ℕ → Type 0
MarkedIn w b e v = Seen w b v ⊎ NoneFree w b e

abbrev pub Marked : ℕ → List ℕ → ℕ → Type 0
Marked size w v = MarkedIn w (start_of size v) (4 * size) v

-- A free place, before which neither another is nor the tag.
pub record Freed (w : List ℕ) (b e v k : ℕ) : Type 0 where
  pub from : b ≤ k
  pub below : k < e
  pub free : get_or w k 0 ≡ 0
  pub run : NoneFree w b k
  pub unseen : (i : ℕ) → b ≤ i → i < k → get_or w i 0 ≡ v → ⊥

-- What looking for a tag answers.
abbrev pub Looked : List ℕ → ℕ → ℕ → ℕ → Slot → Type 0
Looked w b e v (Free k) = Freed w b e v k
Looked w b e v Taken = MarkedIn w b e v

-- The first numbers are 0.
abbrev pub Empty : List ℕ → ℕ → Type 0
Empty w e = (i : ℕ) → i < e → get_or w i 0 ≡ 0

-- What entering a tag does to a filter: where it answers no, it was not marked; it is marked afterwards, if it is to be
-- kept; and what was marked stays so.
pub record Entered (size : ℕ) (w z : List ℕ) (v : ℕ) (keep r : Bool) : Type 0 where
  pub fresh : r ≡ false → Marked size w v → ⊥
  pub kept : keep ≡ true → Marked size z v
  pub stays : (u : ℕ) → 0 < u → Marked size w u → Marked size z u

-- What filling answers, of the members from a position on, the filter being w afterwards: a name stands twice; or the
-- members of the window, which are entered and say different things, and behind them the others.

pub record Behind (size : ℕ) (s : List ℕ) (left at : ℕ) (w : List ℕ) (p more : ℕ) : Type 0 where
  pub rows : rows_from curly s left at ≡ rows_from curly s (left - more) at ++ rows_from curly s more p
  pub apart : any_pair (same_name s s) (rows_from curly s (left - more) at) ≡ false
  pub marks : Every (λ m. Marked size w (tag_of s m)) (rows_from curly s (left - more) at)
  pub known : KnownFrom curly depth s (left - more) at
  pub others : KnownFrom curly depth s more p
  pub fits : more ≤ left
  pub falls : 0 < left → more < left

abbrev pub Filled : ℕ → List ℕ → ℕ → ℕ → List ℕ → Window → Type 0
Filled size s left at w Repeats = any_pair (same_name s s) (rows_from curly s left at) ≡ true
Filled size s left at w (Next p more) = Behind size s left at w p.at more
