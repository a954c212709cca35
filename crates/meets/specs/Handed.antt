-- What is handed out for a recipient (demand 3): the decoded protected header, and a row for each parameter of the headers that
-- apply, where the grammar has it.
use Rattle.std.specs.Prelude.{◌≡◌, ◌⊎◌, ℕ, zero, suc, ◌+◌, ◌-◌, length}
use mathlib.Core.List.{List, [], ◌∷◌, ◌++◌, flat_map}
use Rattle.std.proofs.Math.Option.{none, some}
use Rattle.prelude.specs.Ascii.{ascii, full_stop}
use Rattle.prelude.specs.Limits.{levels}
use Rattle.base64url.specs.Base64url.{encoded}
use Rattle.grammar.specs.Grammar.{Str, leaves_chars}
use Rattle.grammar.specs.Places.{Place, Placed, Parts, done, part, placed_text, start_of, size_of, parts_of, Member, members}
use Rattle.grammar.specs.Strings.{HasOctets}
use Rattle.grammar.specs.Readings.{Reading, octets_at}

-- The parameters of the headers that apply: each a direct member, in text order.
pub record Rows : Type 0 where
  pub protected : List Member
  pub shared : List Member
  pub own : List Member

-- The list's six numbers of a parameter: origin, name start and length, value start and length, kind.
abbrev pub entry : ℕ → Member → List ℕ
entry o m = o ∷ m.name_start ∷ m.name_size ∷ m.value_start ∷ m.value_size ∷ m.kind ∷ []

-- Protected first, then shared, then own.
unfoldable pub entries : Rows → List ℕ
entries x = flat_map (entry 0) x.protected ++ (flat_map (entry 1) x.shared ++ flat_map (entry 2) x.own)

abbrev pub count : Rows → ℕ
count x = length x.protected + (length x.shared + length x.own)

-- The name at a place of the text s has the octets w.
pub record NameAt (s : List ℕ) (q : Place) (w : List ℕ) : Type 0 where
  pub name : Str
  pub spelled : leaves_chars name.chars ≡ octets_at s q
  pub has : HasOctets name w

-- A member of that name has that placed value.
unfoldable pub MemberAt : List ℕ → List ℕ → Placed → Parts → Type 0
MemberAt s w v done = ⊥
MemberAt s w v (part none u ps) = MemberAt s w v ps
MemberAt s w v (part (some q) u ps) = (NameAt s q w × (u ≡ v)) ⊎ MemberAt s w v ps

-- No member has that name.
unfoldable pub NoMember : List ℕ → List ℕ → Parts → Type 0
NoMember s w done = Unit {0}
NoMember s w (part none u ps) = NoMember s w ps
NoMember s w (part (some q) u ps) = (NameAt s q w → ⊥) × NoMember s w ps

-- The n-th part, counted from 0.
unfoldable pub PartAt : ℕ → Placed → Parts → Type 0
PartAt n v done = ⊥
PartAt zero v (part q u ps) = u ≡ v
PartAt (suc n) v (part q u ps) = PartAt n v ps

-- The rows of the header of that name; none where it is absent.
abbrev pub RowsOf : List ℕ → List ℕ → Parts → List Member → Type 0
RowsOf s w ps ms = (NoMember s w ps × (ms ≡ [])) ⊎ ((v : Placed) × MemberAt s w v ps × (ms ≡ members (parts_of v)))

-- The parts of the object that holds the members of recipient n: the n-th element of `recipients`, else the top level.
abbrev pub RecipientAt : List ℕ → Parts → ℕ → Parts → Type 0
RecipientAt s ps n rs =
    (NoMember s (ascii "recipients") ps × (rs ≡ ps))
    ⊎ ((v : Placed) × (x : Placed) × MemberAt s (ascii "recipients") v ps × PartAt n x (parts_of v) × (rs ≡ parts_of x))

-- The rows of a decoded protected header.
pub record ProtectedRows (header : List ℕ) (ms : List Member) : Type 0 where
  pub reading : Reading levels header
  pub rows : ms ≡ members (parts_of (placed_text reading.text))

-- A string's place without its quotation marks.
abbrev pub within : Placed → Place
within v = record { start = start_of v + 1; size = size_of v - 2 }

-- What applies to recipient n of a message.
pub data Applies (message : List ℕ) (n : ℕ) (header : List ℕ) (x : Rows) : Type 0 where
  compact : (rest : List ℕ) → (encoded header ++ (full_stop ∷ rest) ≡ message) → ProtectedRows header x.protected
      → (x.shared ≡ []) → (x.own ≡ []) → Applies message n header x
  json : (r : Reading levels message)
      → ((NoMember message (ascii "protected") (parts_of (placed_text r.text)) × (header ≡ []) × (x.protected ≡ []))
      ⊎ ((v : Placed) × MemberAt message (ascii "protected") v (parts_of (placed_text r.text))
      × (octets_at message (within v) ≡ encoded header) × ProtectedRows header x.protected))
      → RowsOf message (ascii "unprotected") (parts_of (placed_text r.text)) x.shared
      → (rs : Parts) → RecipientAt message (parts_of (placed_text r.text)) n rs
      → RowsOf message (ascii "header") rs x.own → Applies message n header x
