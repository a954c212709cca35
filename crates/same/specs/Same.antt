-- Two JSON values compared where they stand, s and t being the texts: document 02's 4/12. Recursion is on the levels
-- that are allowed; members and elements are those that the reader shows (12 levels, as for any message or header).
use Rattle.std.specs.Prelude.{List, [], ◌∷◌, Bool, true, false, not, ◌&&◌, ◌||◌, cond, ℕ, zero, suc, ◌+◌, ◌-◌, length, eqb}
use Rattle.parts.specs.Parts.{part}
use Rattle.grammar.specs.Places.{Member, Element}
use Rattle.grammar.specs.Spellings.{equal, alike}
use Rattle.grammar.specs.Reader.{as_element, members_at, elements_at}
use Rattle.prelude.specs.Any.{any}
pub use Rattle.distinct.specs.Names.{depth, name_at, same_name}
unfoldable pub use Rattle.distinct.specs.Names.{repeats}

-- Whether something holds of each in a list.
unfoldable pub all : {A : Type 0} → (A → Bool) → List A → Bool
all f [] = true
all f (x ∷ xs) = f x && all f xs

-- The octets of a value, with its brackets or quotation marks and without the space around it.
abbrev pub own_at : List ℕ → Element → List ℕ
own_at s x = part s x.start x.size

-- A string as it is spelled, without quotation marks.
abbrev pub spelled_at : List ℕ → Element → List ℕ
spelled_at s x = part s (x.start + 1) (x.size - 2)

-- In all below `inner` compares two values, the first in s, the second in t.

-- Elements in order.
unfoldable pub same_elements : (Element → Element → Bool) → List Element → List Element → Bool
same_elements inner [] [] = true
same_elements inner [] (y ∷ ys) = false
same_elements inner (x ∷ xs) [] = false
same_elements inner (x ∷ xs) (y ∷ ys) = inner x y && same_elements inner xs ys

-- A member of the left object has one in the right: its name says the same, and its value is the same.
abbrev pub pairs : (Element → Element → Bool) → List ℕ → List ℕ → Member → Member → Bool
pairs inner s t m n = same_name s t m n && inner (as_element m) (as_element n)

unfoldable pub has_pair : (Element → Element → Bool) → List ℕ → List ℕ → List Member → Member → Bool
has_pair inner s t ns m = any (pairs inner s t m) ns

-- Members by name, whatever their order: as many, no name twice on either side, and each has its pair.
unfoldable pub same_members : (Element → Element → Bool) → List ℕ → List ℕ → List Member → List Member → Bool
same_members inner s t ms ns =
    eqb (length ms) (length ns) && (not (repeats s ms) && (not (repeats t ns) && all (has_pair inner s t ns) ms))

-- Two values of one kind that differ in their octets.
unfoldable pub same_kind : (Element → Element → Bool) → List ℕ → List ℕ → Element → Element → Bool
same_kind inner s t x y =
    let o = same_members inner s t (members_at depth s x.start) (members_at depth t y.start) in
    let a = same_elements inner (elements_at depth s x.start) (elements_at depth t y.start) in
    let w = alike (spelled_at s x) (spelled_at t y) in
    cond (eqb x.kind 0) o (cond (eqb x.kind 1) a (cond (eqb x.kind 2) w false))

-- Two values: the same octets; or, of one kind, the same by that kind.
unfoldable pub same_with : (Element → Element → Bool) → List ℕ → List ℕ → Element → Element → Bool
same_with inner s t x y =
    let k = same_kind inner s t x y in
    equal (own_at s x) (own_at t y) || (eqb x.kind y.kind && k)

-- Two values of at most so many levels: strings, numbers and literals have none, and an object or an array one more
-- than what stands in it.
unfoldable pub same_at : ℕ → List ℕ → List ℕ → Element → Element → Bool
same_at zero s t x y = same_with (λ _ _. false) s t x y
same_at (suc l) s t x y = same_with (same_at l s t) s t x y

-- What stands in two values of at most so many levels.
abbrev pub inner_at : ℕ → List ℕ → List ℕ → Element → Element → Bool
inner_at zero s t = λ _ _. false
inner_at (suc l) s t = same_at l s t
