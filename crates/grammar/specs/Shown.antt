-- What it is for the reader to show a part of a reading, and for a string to stand at its place.
use Rattle.std.specs.Prelude.{◌≡◌, List, ◌++◌, ℕ, ◌+◌, length}
use Rattle.grammar.specs.Grammar.{comma, leaves_sign, leaves_chars, leaves_str, Bracket, curly, square, opening}
use Rattle.grammar.specs.Grammar.{Label, Value, nested, empty, string, number, literal, Entries, last, more}
use Rattle.grammar.specs.Grammar.{leaves_label, leaves_value}
use Rattle.grammar.specs.Places.{place, Placed, item, Parts, done, part, members, elements}
use Rattle.grammar.specs.Reader.{found, value_at, members_at, elements_at}
use Rattle.grammar.specs.Readings.{octets_at}

-- The reader shows a placed value: at its start it finds its end and its kind, and the members of an object or the
-- elements of an array.
unfoldable pub Shown : ℕ → List ℕ → Placed → Type 0
Shown l s (item k q ps) =
    (value_at l s q.start ≡ found (q.start + q.size) k)
    × (k ≡ 0 → members_at l s q.start ≡ members ps)
    × (k ≡ 1 → elements_at l s q.start ≡ elements ps)

-- Something holds of a placed value and of every value in it.
unfoldable mutual
  pub Everywhere : (Placed → Type 0) → Placed → Type 0
  Everywhere P (item k q ps) = P (item k q ps) × EverywhereIn P ps

  pub EverywhereIn : (Placed → Type 0) → Parts → Type 0
  EverywhereIn P done = Unit {0}
  EverywhereIn P (part name v ps) = Everywhere P v × EverywhereIn P ps

-- At the place of an entry's name, if it has one, stands its spelling.
unfoldable pub NameStands : List ℕ → (b : Bracket) → ℕ → Label b → Type 0
NameStands s curly n l =
    octets_at s (record { start = n + 1; size = length (leaves_chars l.name.chars) }) ≡ leaves_chars l.name.chars
NameStands s square n l = Unit {0}

-- The same of every name in a value whose leaves begin at octet n, and of every string, with its quotation marks.
unfoldable mutual
  pub StringsStand : List ℕ → ℕ → Value → Type 0
  StringsStand s n (nested b x es y) = StringsStandIn s (n + length (leaves_sign (opening b) x)) es
  StringsStand s n (empty b x y) = Unit {0}
  StringsStand s n (string x) = octets_at s (place n (string x)) ≡ leaves_str x
  StringsStand s n (number x) = Unit {0}
  StringsStand s n (literal x) = Unit {0}

  pub StringsStandIn : List ℕ → {b : Bracket} → ℕ → Entries b → Type 0
  StringsStandIn s n (last {b} l v) = NameStands s b n l × StringsStand s (n + length (leaves_label b l)) v
  StringsStandIn s n (more {b} l v x es) =
      NameStands s b n l
      × StringsStand s (n + length (leaves_label b l)) v
      × StringsStandIn s (n + length (leaves_label b l ++ (leaves_value v ++ leaves_sign comma x))) es
