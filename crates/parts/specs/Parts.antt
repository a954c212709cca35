-- The part of a text at a place, and where an octet next stands in a text.
use Rattle.std.specs.Prelude.{ℕ, ◌+◌, Bool, false, ◌||◌, cond, List, [], ◌∷◌, length, take, drop, leb, eqb}
use Rattle.std.specs.Borrow.{Bor}

-- whether a place fits a text
abbrev pub fits : List ℕ → ℕ → ℕ → Bool
fits s start size = leb (start + size) (length s)

-- the octets at a place; none where the place does not fit
unfoldable pub part : List ℕ → ℕ → ℕ → List ℕ
part s start size = cond (fits s start size) (take size (drop start s)) []

-- Where the part at a place points, so that it is that part of the caller's text and no copy of its octets elsewhere: a
-- reference to octets points at a block and at an offset in octets in it. The block is the text's; the offset is the
-- place's start, and the text's own where the place does not fit.
unfoldable pub part_at : Bor (List ℕ) → ℕ → ℕ → ℕ × ℕ
part_at s start size = (s.ref_ptr.0, s.ref_ptr.1 + cond (fits s.now start size) start 0)

-- where the octet c first stands in t, or t's end; t is what stands in the text from a position on
unfoldable pub seek_in : ℕ → List ℕ → ℕ → ℕ
seek_in c [] at = at
seek_in c (x ∷ t) at = let e = seek_in c t (at + 1) in cond (eqb x c) at e

-- the first position, not before `at`, where the octet c stands, or the text's end; past the end it is `at` itself
unfoldable pub seek : ℕ → List ℕ → ℕ → ℕ
seek c s at = seek_in c (drop at s) at

-- whether an octet stands in a text
unfoldable pub holds : ℕ → List ℕ → Bool
holds c [] = false
holds c (x ∷ t) = let later = holds c t in eqb x c || later
