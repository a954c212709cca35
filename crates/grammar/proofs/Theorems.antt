-- What is shown of the definitions in specs/: each theorem cites the file that proves it.
use mathlib.Core.Path.{◌≡◌, sym, ◌∙◌}
use mathlib.Core.List.{List, ◌∷◌, ◌++◌}
use Prim.Native.Nat.{ℕ, ◌+◌, ◌≤◌}
use lib.ListN.{length}
use mathlib.Core.Logic.{◌↔◌}
use lib.Dec.{T}
use Rattle.grammar.specs.Grammar.{octets, Str, leaves_chars, Text, leaves}
use Rattle.grammar.specs.Places.{levels, placed_text, emptied_text, start_of, size_of}
use Rattle.grammar.specs.Utf8.{Utf8, utf8, points, encode, encodes}
use Rattle.grammar.specs.Strings.{every, says, undone, SayAlike, HasOctets}
use Rattle.grammar.specs.Spellings.{alike, has, sayable}
use Rattle.grammar.specs.Reader.{skip_space, nothing, found, read_text}
use Rattle.grammar.specs.Readings.{Reading}
use Rattle.grammar.specs.Shown.{Shown, Everywhere, StringsStand}
use Rattle.grammar.proofs.Unambiguous as Unambiguous
use Rattle.grammar.proofs.Utf8Test as Utf
use Rattle.grammar.proofs.Decide as Decide
use Rattle.grammar.proofs.Encoded as Encoded
use Rattle.grammar.proofs.Spellings as Spellings
use Rattle.grammar.proofs.Stands as Stands

-- A text has one reading: trees with the same leaves are equal once their spaces are emptied, strings' characters and
-- numbers' parts included.
pub unambiguous : (t u : Text) → leaves t ≡ leaves u → emptied_text t ≡ emptied_text u
unambiguous = Unambiguous.unambiguous

-- They put every name and every value at the same place, with the same kind.
pub placed_alike : (t u : Text) → leaves t ≡ leaves u → placed_text t ≡ placed_text u
placed_alike = Unambiguous.placed_alike

-- They have the same levels.
pub levels_alike : (t u : Text) → leaves t ≡ leaves u → levels t.value ≡ levels u.value
levels_alike = Unambiguous.levels_alike

-- So a text has exactly one reading of those that are asked for, spaces aside, or none.
pub one_reading : (l : ℕ) (s : List ℕ) (r q : Reading l s) →
    (emptied_text r.text ≡ emptied_text q.text) × (placed_text r.text ≡ placed_text q.text)
one_reading l s r q = (
  unambiguous r.text q.text (r.reads ∙ sym q.reads),
  placed_alike r.text q.text
      (r.reads ∙ sym q.reads),
)

-- The test for UTF-8 passes exactly the octets of well-formed characters.
pub utf8_decides : (s : List ℕ) → T (utf8 s) ↔ Utf8 s
utf8_decides s = (Utf.utf8_sound s, Utf.utf8_complete s)

-- The reader decides the grammar. Where it answers, the text has a reading within the levels that keeps the rules on
-- UTF-8 and \u ..
pub read_sound : (l : ℕ) (s : List ℕ) (e k : ℕ) → read_text l s ≡ found e k → Reading l s
read_sound = Decide.read_sound

-- .. and where there is such a reading, it answers where that reading's object ends, which begins where it looks.
pub read_complete : (l : ℕ) (s : List ℕ) (r : Reading l s) →
    let v = placed_text r.text in
    (read_text l s ≡ found (start_of v + size_of v) 0) × (start_of v ≡ skip_space s 0)
read_complete = Decide.read_complete

-- Where it answers nothing, there is none.
pub read_none : (l : ℕ) (s : List ℕ) → read_text l s ≡ nothing → Reading l s → ⊥
read_none = Decide.read_none

-- More levels change no answer.
pub read_more : (l m : ℕ) (s : List ℕ) (e k : ℕ) → l ≤ m → read_text l s ≡ found e k → read_text m s ≡ found e k
read_more = Decide.read_more

-- At the place of each value of the reading the reader finds that value's end and kind, and its members or elements.
pub read_shows : (l : ℕ) (s : List ℕ) (r : Reading l s) → Everywhere (Shown l s) (placed_text r.text)
read_shows = Decide.read_shows

-- Every name and every string of a reading stands at its place in the text.
pub read_stands : (l : ℕ) (s : List ℕ) (r : Reading l s) →
    StringsStand s (length (octets r.text.before)) r.text.value
read_stands = Stands.reading_stands

-- Every string of a reading says code points, and their UTF-8 is its octets after undoing escapes ..
pub read_says : (l : ℕ) (s : List ℕ) (r : Reading l s) → T (every sayable r.text.value)
read_says = Spellings.reading_sayable

pub says_octets : (x : Str) → T (sayable x) → encodes (says x) ≡ undone x
says_octets = Spellings.says_octets

pub says_point : (n : ℕ) (s : List ℕ) → n ≤ 0x10FFFF → points (encode n ++ s) ≡ n ∷ points s
says_point = Encoded.points_encode

-- .. so that comparing two spellings decides whether they say the same code points ..
pub alike_decides : (x y : Str) → T (sayable x) → T (sayable y) →
    T (alike (leaves_chars x.chars) (leaves_chars y.chars)) ↔ SayAlike x y
alike_decides = Spellings.alike_decides

-- .. and comparing a spelling with octets decides whether it has them.
pub has_decides : (x : Str) (w : List ℕ) → T (sayable x) → T (has (leaves_chars x.chars) w) ↔ HasOctets x w
has_decides = Spellings.has_decides
