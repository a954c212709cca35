-- Strings compared by their spellings, the octets between the quotation marks: octet by octet, undoing escapes on the
-- way. The contracts of the code cite these.
use Rattle.std.specs.Prelude.{List, [], ◌∷◌, ◌++◌, Bool, true, false, ◌&&◌, cond, ℕ, zero, suc, eqb}
use Rattle.std.proofs.Math.Option.{Option, none, some}
use Rattle.grammar.specs.Grammar.{backslash, letter_u, Str}
use Rattle.grammar.specs.Strings.{escape_point, hex_more, is_high, combined, undone}
use Rattle.grammar.specs.Utf8.{encode, utf8}

-- Where in a spelling we are: between characters; after a backslash; or among the digits of \u, n more to come after
-- the next one, those so far saying x. Each with the first half of a pair that stands directly before, if there is
-- one.
pub data Spot : Type 0 where
  between : Option ℕ → Spot
  escaping : Option ℕ → Spot
  digit : Option ℕ → ℕ → ℕ → Spot

-- What the digits of \u add where they say u, after a first half or not.
abbrev pub unit_octets : Option ℕ → ℕ → List ℕ
unit_octets none u = cond (is_high u) [] (encode u)
unit_octets (some h) u = encode (combined h u)

-- The octets that one octet of a spelling adds.
unfoldable pub adds : Spot → ℕ → List ℕ
adds (between h) c = cond (eqb c backslash) [] (c ∷ [])
adds (escaping h) c = cond (eqb c letter_u) [] (escape_point c ∷ [])
adds (digit h zero x) c = unit_octets h (hex_more x c)
adds (digit h (suc n) x) c = []

-- Where we are after it.
unfoldable pub next : Spot → ℕ → Spot
next (between h) c = cond (eqb c backslash) (escaping h) (between none)
next (escaping h) c = cond (eqb c letter_u) (digit h 3 0) (between none)
next (digit h zero x) c = between (cond (is_high (hex_more x c)) (some (hex_more x c)) none)
next (digit h (suc n) x) c = digit h n (hex_more x c)

-- The octets that a spelling adds from a spot on.
unfoldable pub undo_from : Spot → List ℕ → List ℕ
undo_from p [] = []
undo_from p (c ∷ w) = adds p c ++ undo_from (next p c) w

-- A spelling's octets after undoing its escapes.
unfoldable pub undo : List ℕ → List ℕ
undo w = undo_from (between none) w

-- Whether two lists of octets are equal.
unfoldable pub equal : List ℕ → List ℕ → Bool
equal [] [] = true
equal [] (d ∷ w) = false
equal (c ∷ v) [] = false
equal (c ∷ v) (d ∷ w) = eqb c d && equal v w

-- Whether two spellings say the same.
unfoldable pub alike : List ℕ → List ℕ → Bool
alike v w = equal (undo v) (undo w)

-- Whether a spelling has the octets w.
unfoldable pub has : List ℕ → List ℕ → Bool
has v w = equal (undo v) w

-- Whether a string's octets after undoing its escapes are well-formed, so that it says code points.
unfoldable pub sayable : Str → Bool
sayable x = utf8 (undone x)
