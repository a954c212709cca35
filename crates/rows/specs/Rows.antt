-- Members of the objects whose names are compared, as entries: document 01's list entry (origin, the name's place, the
-- value's place, the kind), and which of some names the member has.
use Rattle.std.specs.Prelude.{List, [], ◌∷◌, map, Bool, not, ◌&&◌, cond, ℕ, zero, suc, ◌+◌, ◌-◌, eqb}
use Rattle.parts.specs.Parts.{part}
use Rattle.names.specs.Names.{number_in}
use Rattle.grammar.specs.Places.{Member, Place}
use Rattle.grammar.specs.Spellings.{alike}
use Rattle.prelude.specs.Any.{any, any_pair}

-- Origins (document 01): 0 the protected header, 1 the shared header or the message itself, 2 a recipient's own header.
pub record Entry : Type 0 where
  pub origin : ℕ
  pub member : Member
  pub number : ℕ

-- The texts in which a recipient's three headers stand.
pub record Texts : Type 0 where
  pub protected : List ℕ
  pub shared : List ℕ
  pub own : List ℕ

abbrev pub texts : List ℕ → List ℕ → List ℕ → Texts
texts protected shared own = record { protected = protected; shared = shared; own = own }

-- Those of a message that is read: the decoded protected header, and the message itself for both others.
abbrev pub read_texts : List ℕ → List ℕ → Texts
read_texts header message = texts header message message

-- One text for all three: that of an object whose names are compared.
abbrev pub one_text : List ℕ → Texts
one_text s = texts s s s

-- The text in which an entry of an origin counts.
abbrev pub text_of : Texts → ℕ → List ℕ
text_of ts zero = ts.protected
text_of ts (suc zero) = ts.shared
text_of ts (suc (suc o)) = ts.own

-- A member's name as it is spelled, without quotation marks.
abbrev pub spelled_name : List ℕ → Member → List ℕ
spelled_name s m = part s m.name_start m.name_size

-- A string value as it is spelled, without quotation marks.
abbrev pub spelled_value : List ℕ → Member → List ℕ
spelled_value s m = part s (m.value_start + 1) (m.value_size - 2)

-- The entry of a member that stands in the text s.
abbrev pub entry_of : List (List ℕ) → List ℕ → ℕ → Member → Entry
entry_of names s o m = record {
  origin = o;
  member = m;
  number = number_in names (spelled_name s m);
}

-- The entries of members that stand in the text s.
unfoldable pub entries_in : List (List ℕ) → List ℕ → ℕ → List Member → List Entry
entries_in names s o ms = map (entry_of names s o) ms

-- An entry's name and its string value, as they are spelled.

abbrev pub name_in : Texts → Entry → List ℕ
name_in ts e = spelled_name (text_of ts e.origin) e.member

abbrev pub value_in : Texts → Entry → List ℕ
value_in ts e = spelled_value (text_of ts e.origin) e.member

-- Whether an entry's name says what a spelling does.
abbrev pub name_says : Texts → List ℕ → Entry → Bool
name_says ts w e = alike (name_in ts e) w

-- Whether an entry has the n-th of the names.
abbrev pub numbered : ℕ → Entry → Bool
numbered n e = eqb e.number n

-- Whether there is one.
unfoldable pub present : ℕ → List Entry → Bool
present n es = any (numbered n) es

-- All that do.
unfoldable pub having : ℕ → List Entry → List Entry
having n [] = []
having n (e ∷ es) = let rest = having n es in cond (numbered n e) (e ∷ rest) rest

-- The place of the value of the first one, with quotation marks; 0, 0 where there is none.
unfoldable pub value_of : ℕ → List Entry → Place
value_of n [] = record { start = 0; size = 0 }
value_of n (e ∷ es) =
    let rest = value_of n es in
    cond (numbered n e) (record { start = e.member.value_start; size = e.member.value_size }) rest

-- Repeated names: within headers, or across them

-- Whether two origins differ, or are the same.
abbrev pub apart : Bool → ℕ → ℕ → Bool
apart across o p = cond across (not (eqb o p)) (eqb o p)

-- Whether two names of one object, or of two, say the same.
abbrev pub same : Bool → Texts → Entry → Entry → Bool
same across ts e f =
    apart across e.origin f.origin && alike (name_in ts e) (name_in ts f)

unfoldable pub repeated : Bool → Texts → List Entry → Bool
repeated across ts es = any_pair (same across ts) es
