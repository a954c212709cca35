-- What the list of differences between two accepted messages means (document 02, 4/12), by what the messages meet:
-- their forms, components and members (crates meets and means), over the grammar's trees, with same_values' `Same`.
-- Nothing of the comparison is named but its lines.
use Rattle.std.specs.Prelude.{◌≡◌, ◌⊎◌, List, [], ◌∷◌, ◌++◌, map, ℕ, ◌+◌, ◌*◌, ◌<◌}
use Rattle.prelude.specs.Limits.{most_members, most_recipients}
use Rattle.grammar.specs.Grammar.{Str, Value}
use Rattle.grammar.specs.Places as places
use Rattle.grammar.specs.Strings.{SayAlike}
use Rattle.grammar.specs.Bounds.{Every}
use Rattle.meets.specs.Members.{Member, Some}
use Rattle.meets.specs.Rules.{Headers}
use Rattle.meets.specs.Meets.{Message, count}
use Rattle.meets.specs.Handed.{Rows, Applies}
use Rattle.means.specs.Means.{form_of, header_of, headers_of, contents_of}
use Rattle.same_values.specs.Same.{Same}
use Rattle.parameters.specs.Lines.{Side, missing, Line, line}
use Rattle.differences.specs.Differences.{whole}

-- Parameters

-- A recipient's parameter: its origin (document 01: 0 protected, 1 shared, 2 own), its name and its value.
pub record Parameter : Type 0 where
  pub origin : ℕ
  pub name : Str
  pub value : Value

abbrev pub of_origin : ℕ → List Member → List Parameter
of_origin o ms = map (λ (m : Member). record { origin = o; name = m.name; value = m.value }) ms

abbrev pub of_headers : Headers → List Parameter
of_headers h = of_origin 0 h.protected ++ (of_origin 1 h.shared ++ of_origin 2 h.own)

-- Those of recipient n.
abbrev pub parameters_of : {known : List (List ℕ)} {message : List ℕ} → Message known message → ℕ → List Parameter
parameters_of f n = of_headers (headers_of f n)

-- Parameters whose names say the same.
abbrev pub Alike : Parameter → Parameter → Type 0
Alike p q = SayAlike p.name q.name

-- Their numbers in a line

-- The rows that apply to each recipient of a message: where the grammar has its parameters.
pub record RowsFor {known : List (List ℕ)} {message : List ℕ} (f : Message known message) : Type 0 where
  pub rows : (n : ℕ) → n < count f → Rows
  pub apply : (n : ℕ) (below : n < count f) → Applies message n (header_of f) (rows n below)

-- The side of a line that shows a row of an origin, and those that show all rows.

abbrev pub side_at : ℕ → places.Member → Side
side_at o m = record { origin = o; start = m.value_start; size = m.value_size }

abbrev pub sides : Rows → List Side
sides x = map (side_at 0) x.protected ++ (map (side_at 1) x.shared ++ map (side_at 2) x.own)

-- A recipient's parameters, and their sides one for one.
pub record Shown : Type 0 where
  pub parameters : List Parameter
  pub sides : List Side

abbrev pub shown_for : {known : List (List ℕ)} {message : List ℕ} (f : Message known message) → RowsFor f →
    (n : ℕ) → n < count f → Shown
shown_for f x n below = record { parameters = parameters_of f n; sides = sides (x.rows n below) }

-- Among parameters is p, and among their sides a is p's.
abbrev pub Among : List Parameter → List Side → Parameter → Side → Type 0
Among [] bs p a = ⊥
Among (q ∷ qs) [] p a = ⊥
Among (q ∷ qs) (b ∷ bs) p a = ((q ≡ p) × (b ≡ a)) ⊎ Among qs bs p a

abbrev pub Has : Shown → Parameter → Side → Type 0
Has s p a = Among s.parameters s.sides p a

-- None has the name of p.
abbrev pub Lacks : Shown → Parameter → Type 0
Lacks s p = Every (λ q. Alike p q → ⊥) s.parameters

-- What a line says: document 02's kinds in its order, each with its words above it

-- 'then for each such number, parameters by name': of recipient n, whose parameters are those of s on the left and of t
-- on the right.
pub data SaysOf (s t : Shown) (n : ℕ) (l : Line) : Type 0 where
  -- 'only left'
  only_left : (p : Parameter) (a : Side) → Has s p a → Lacks t p → l ≡ line 8 n a missing → SaysOf s t n l
  -- 'only right'
  only_right : (q : Parameter) (b : Side) → Has t q b → Lacks s q → l ≡ line 9 n missing b → SaysOf s t n l
  -- 'moved to another origin'
  moved : (p q : Parameter) (a b : Side) → Has s p a → Has t q b → Alike p q → (p.origin ≡ q.origin → ⊥) →
      l ≡ line 10 n a b → SaysOf s t n l
  -- 'other value'
  others : (p q : Parameter) (a b : Side) → Has s p a → Has t q b → Alike p q → (Same p.value q.value → ⊥) →
      l ≡ line 11 n a b → SaysOf s t n l

-- Of two messages, f being what the left one meets and x its rows, g and y those of the right one.
pub data Says {known other : List (List ℕ)} {left right : List ℕ} (f : Message known left) (g : Message other right)
    (x : RowsFor f) (y : RowsFor g) (l : Line) : Type 0 where
  -- 'form'
  forms : (form_of f ≡ form_of g → ⊥) → l ≡ whole 0 → Says f g x y l
  -- 'recipient count'
  counts : (count f ≡ count g → ⊥) → l ≡ whole 1 → Says f g x y l
  -- 'decoded protected header octets'
  headers : (header_of f ≡ header_of g → ⊥) → l ≡ whole 2 → Says f g x y l
  -- 'then iv, aad, ciphertext, tag', which all recipients share ..
  ivs : ((contents_of f 0).iv ≡ (contents_of g 0).iv → ⊥) → l ≡ whole 3 → Says f g x y l
  aads : ((contents_of f 0).aad ≡ (contents_of g 0).aad → ⊥) → l ≡ whole 4 → Says f g x y l
  ciphertexts : ((contents_of f 0).ciphertext ≡ (contents_of g 0).ciphertext → ⊥) → l ≡ whole 5 → Says f g x y l
  tags : ((contents_of f 0).tag ≡ (contents_of g 0).tag → ⊥) → l ≡ whole 6 → Says f g x y l
  -- 'and the key of each recipient number in both, by octets'
  keys : (n : ℕ) → n < count f → n < count g → ((contents_of f n).key ≡ (contents_of g n).key → ⊥) →
      l ≡ line 7 n missing missing → Says f g x y l
  parameters : (n : ℕ) (a : n < count f) (b : n < count g) → SaysOf (shown_for f x n a) (shown_for g y n b) n l →
      Says f g x y l

-- A line is in a list.
abbrev pub In : Line → List Line → Type 0
In l ls = Some (λ k. k ≡ l) ls

-- No difference

-- Each left parameter has a right one of the same name, origin and value; and each right one has a left one of its
-- name.
pub record AgreeByName (ps qs : List Parameter) : Type 0 where
  pub each : Every (λ p. Some (λ q. Alike p q × (p.origin ≡ q.origin) × Same p.value q.value) qs) ps
  pub no_more : Every (λ q. Some (λ p. Alike q p) ps) qs

-- Two messages agree in all that is compared.
pub record Agree {known other : List (List ℕ)} {left right : List ℕ} (f : Message known left)
    (g : Message other right) : Type 0 where
  pub form : form_of f ≡ form_of g
  pub recipients : count f ≡ count g
  pub header : header_of f ≡ header_of g
  pub iv : (contents_of f 0).iv ≡ (contents_of g 0).iv
  pub aad : (contents_of f 0).aad ≡ (contents_of g 0).aad
  pub ciphertext : (contents_of f 0).ciphertext ≡ (contents_of g 0).ciphertext
  pub tag : (contents_of f 0).tag ≡ (contents_of g 0).tag
  pub key : (n : ℕ) → n < count f → n < count g → (contents_of f n).key ≡ (contents_of g n).key
  pub parameters : (n : ℕ) → n < count f → n < count g → AgreeByName (parameters_of f n) (parameters_of g n)

-- How many lines there are

-- One for each kind 0 to 6, a key for each recipient, and for each recipient at most as many as the parameters of both
-- messages together, 3 headers each.
abbrev pub most_lines : ℕ
most_lines = 7 + (most_recipients + 6 * most_members * most_recipients)
