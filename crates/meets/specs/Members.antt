-- The members of an object and the elements of an array, as trees of the grammar.
use Rattle.std.specs.Prelude.{List, [], ◌∷◌, ◌++◌, map, ◌⊎◌, ◌≡◌, ℕ}
use Rattle.grammar.specs.Grammar.{Str, Bracket, curly, square, Label, Value, nested, empty, string, number, literal, Entries}
use Rattle.grammar.specs.Grammar.{last, more}
use Rattle.grammar.specs.Strings.{SayAlike, HasOctets}
use Rattle.grammar.specs.Bounds.{Every}

-- A member: its name and its value.
pub record Member : Type 0 where
  pub name : Str
  pub value : Value

-- What one entry adds to the members, and to the elements.

unfoldable pub member_of : (b : Bracket) → Label b → Value → List Member
member_of curly l v = record { name = l.name; value = v } ∷ []
member_of square l v = []

unfoldable pub element_of : (b : Bracket) → Label b → Value → List Value
element_of curly l v = []
element_of square l v = v ∷ []

-- Those of entries, in text order.

unfoldable pub members_in : {b : Bracket} → Entries b → List Member
members_in (last {b} l v) = member_of b l v
members_in (more {b} l v x es) = member_of b l v ++ members_in es

unfoldable pub elements_in : {b : Bracket} → Entries b → List Value
elements_in (last {b} l v) = element_of b l v
elements_in (more {b} l v x es) = element_of b l v ++ elements_in es

-- The members of an object; another value has none.
unfoldable pub members_of : Value → List Member
members_of (nested b x es y) = members_in es
members_of (empty b x y) = []
members_of (string x) = []
members_of (number x) = []
members_of (literal x) = []

-- The elements of an array; another value has none.
unfoldable pub elements_of : Value → List Value
elements_of (nested b x es y) = elements_in es
elements_of (empty b x y) = []
elements_of (string x) = []
elements_of (number x) = []
elements_of (literal x) = []

-- The names of members.
abbrev pub names_of : List Member → List Str
names_of ms = map (λ m. m.name) ms

-- Something holds of one in a list.
abbrev pub Some : {A : Type 0} → (A → Type 0) → List A → Type 0
Some P [] = ⊥
Some P (x ∷ xs) = P x ⊎ Some P xs

-- Something holds of every two in a list, the first of them before the second.
abbrev pub EveryTwo : {A : Type 0} → (A → A → Type 0) → List A → Type 0
EveryTwo R [] = Unit {0}
EveryTwo R (x ∷ xs) = Every (R x) xs × EveryTwo R xs

-- Lists of one length whose elements are related, one for one.
abbrev pub OneForOne : {A B : Type 0} → (A → B → Type 0) → List A → List B → Type 0
OneForOne R [] [] = Unit {0}
OneForOne R [] (y ∷ ys) = ⊥
OneForOne R (x ∷ xs) [] = ⊥
OneForOne R (x ∷ xs) (y ∷ ys) = R x y × OneForOne R xs ys

-- A value is a string of which something holds.
abbrev pub IsString : (Str → Type 0) → Value → Type 0
IsString P (nested b x es y) = ⊥
IsString P (empty b x y) = ⊥
IsString P (string x) = P x
IsString P (number x) = ⊥
IsString P (literal x) = ⊥

-- A string that has the octets of one of some names.
abbrev pub Among : List (List ℕ) → Str → Type 0
Among ws x = Some (HasOctets x) ws

-- Strings of which no two say the same.
abbrev pub Distinct : List Str → Type 0
Distinct [] = Unit {0}
Distinct (x ∷ xs) = Every (λ y. SayAlike x y → ⊥) xs × Distinct xs

-- Strings of which none says what one of the others says.
abbrev pub Apart : List Str → List Str → Type 0
Apart xs ys = Every (λ x. Every (λ y. SayAlike x y → ⊥) ys) xs

-- A member of that name has that value.
abbrev pub Named : List ℕ → Value → List Member → Type 0
Named w v ms = Some (λ m. HasOctets m.name w × (m.value ≡ v)) ms

-- No member has that name.
abbrev pub Absent : List ℕ → List Member → Type 0
Absent w ms = Every (λ m. HasOctets m.name w → ⊥) ms
