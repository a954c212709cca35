-- What it is for places to lie within a text of n octets. proofs/Within.antt shows it of every place that the reader
-- answers.
use Rattle.std.specs.Prelude.{List, [], ◌∷◌, ◌≡◌, ℕ, ◌+◌, ◌*◌, ◌≤◌, ◌<◌, get_or}
use Rattle.grammar.specs.Grammar.{Bracket, curly, square}
use Rattle.grammar.specs.Places.{Member, Element}

-- Of each in a list.
abbrev pub Every : {A : Type 0} → (A → Type 0) → List A → Type 0
Every P [] = Unit {0}
Every P (x ∷ xs) = P x × Every P xs

-- A value of kind k from a position to another: it has an octet, an object, an array or a string (0, 1, 2) has two for
-- its brackets or quotation marks, and there are kinds up to 6.
pub record Within (n at e k : ℕ) : Type 0 where
  pub past : at < e
  pub ends : e ≤ n
  pub kind : k ≤ 6
  pub marks : k ≤ 2 → at + 2 ≤ e

-- Where a name begins at the earliest: behind a quotation mark. An array's rows have none.
abbrev pub name_from : Bracket → ℕ
name_from curly = 1
name_from square = 0

-- A row of an object or an array.
pub record Inside (b : Bracket) (n : ℕ) (m : Member) : Type 0 where
  pub named : name_from b ≤ m.name_start
  pub name : m.name_start + m.name_size ≤ n
  pub value : m.value_start + m.value_size ≤ n
  pub filled : 1 ≤ m.value_size
  pub kind : m.kind ≤ 6
  pub marks : m.kind ≤ 2 → 2 ≤ m.value_size

-- An element.
pub record InsideElement (n : ℕ) (x : Element) : Type 0 where
  pub value : x.start + x.size ≤ n
  pub filled : 1 ≤ x.size
  pub kind : x.kind ≤ 6
  pub marks : x.kind ≤ 2 → 2 ≤ x.size

-- Row k of a table of rows laid flat, and that it stands there.
pub record RowAt (b : Bracket) (n : ℕ) (ms : List Member) (table : List ℕ) (k : ℕ) : Type 0 where
  pub row : Member
  pub is : (d : Member) → get_or ms k d ≡ row
  pub inside : Inside b n row
  pub name_start : get_or table (k * 5) 0 ≡ row.name_start
  pub name_size : get_or table (k * 5 + 1) 0 ≡ row.name_size
  pub value_start : get_or table (k * 5 + 2) 0 ≡ row.value_start
  pub value_size : get_or table (k * 5 + 3) 0 ≡ row.value_size
  pub kind : get_or table (k * 5 + 4) 0 ≡ row.kind
