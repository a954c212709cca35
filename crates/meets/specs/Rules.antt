-- The rules on one recipient's parameters, as sentences on the members of its headers (document 01, 'Header rules').
use Rattle.std.specs.Prelude.{◌≡◌, ◌↔◌, ◌⊎◌, List, [], ◌∷◌, ◌++◌, map, ℕ}
use Rattle.prelude.specs.Ascii.{ascii}
use Rattle.grammar.specs.Grammar.{Str, Value, string}
use Rattle.grammar.specs.Places.{kind}
use Rattle.grammar.specs.Strings.{SayAlike, HasOctets}
use Rattle.grammar.specs.Bounds.{Every}
use Rattle.algorithms.specs.Algorithms.{alg_name, mode, alg_names, enc_names, zip_names}
use Rattle.names.specs.Registered.{registered}
use Rattle.algorithms.specs.declared.Alg.{Alg}
use Rattle.meets.specs.Members.{Member, elements_of, names_of, Some, IsString, Among, Distinct, Apart}

-- The headers that apply to a recipient.
pub record Headers : Type 0 where
  pub protected : List Member
  pub shared : List Member
  pub own : List Member

-- Their members: the recipient's parameters.
abbrev pub parameters : Headers → List Member
parameters h = h.protected ++ (h.shared ++ h.own)

-- Something holds of every parameter that has a name.
abbrev pub EveryNamed : List ℕ → (Value → Type 0) → List Member → Type 0
EveryNamed w P ms = Every (λ m. HasOctets m.name w → P m.value) ms

-- 12: no name stands in two headers.
abbrev pub NamesApart : Headers → Type 0
NamesApart h =
    Apart (names_of h.protected) (names_of h.shared)
    × Apart (names_of h.protected) (names_of h.own)
    × Apart (names_of h.shared) (names_of h.own)

-- 13: a parameter has the name.
abbrev pub Present : List ℕ → List Member → Type 0
Present w ms = Some (λ m. HasOctets m.name w) ms

-- 14: kinds.

-- alg, enc, kid, typ, cty, jku, x5u, x5t, x5t#S256 and the compression parameter.
unfoldable pub string_names : List (List ℕ)
string_names =
    ascii "alg"
    ∷ ascii "enc"
    ∷ ascii "kid"
    ∷ ascii "typ"
    ∷ ascii "cty"
    ∷ ascii "jku"
    ∷ ascii "x5u"
    ∷ ascii "x5t"
    ∷ ascii "x5t#S256"
    ∷ ascii "zip"
    ∷ []

unfoldable pub object_names : List (List ℕ)
object_names = ascii "jwk" ∷ []

unfoldable pub array_names : List (List ℕ)
array_names = ascii "x5c" ∷ ascii "crit" ∷ []

-- Parameters with one of some names are of the kind.
abbrev pub OfKind : List (List ℕ) → ℕ → List Member → Type 0
OfKind ws k ms = Every (λ m. Among ws m.name → kind m.value ≡ k) ms

-- 15: the value is a string that has the octets of one of some names.
abbrev pub ValueAmong : List (List ℕ) → Value → Type 0
ValueAmong ws = IsString (Among ws)

-- 17: the elements of `crit`: at least one, all strings, none twice, each a known name, none registered, each a name of the
-- recipient's parameters.
pub record Critical (known : List (List ℕ)) (ps : List Member) (v : Value) : Type 0 where
  pub names : List Str
  pub elements : elements_of v ≡ map string names
  pub some : names ≡ [] → ⊥
  pub distinct : Distinct names
  pub are_known : Every (Among known) names
  pub unregistered : Every (λ x. Among registered x → ⊥) names
  pub present : Every (λ x. Some (λ m. SayAlike m.name x) ps) names

-- 18: the key is empty in direct agreement and direct encryption, and in these alone.
abbrev pub KeyFits : ℕ → List ℕ → Type 0
KeyFits m key = ((m ≡ 3) ⊎ (m ≡ 5)) ↔ (key ≡ [])

-- All of them, for a recipient's headers and its key.
pub record Rules (known : List (List ℕ)) (h : Headers) (key : List ℕ) : Type 0 where
  pub apart : NamesApart h
  pub alg : Present (ascii "alg") (parameters h)
  pub enc : Present (ascii "enc") (parameters h)
  pub strings : OfKind string_names 2 (parameters h)
  pub objects : OfKind object_names 0 (parameters h)
  pub arrays : OfKind array_names 1 (parameters h)
  pub alg_listed : EveryNamed (ascii "alg") (ValueAmong alg_names) (parameters h)
  pub enc_listed : EveryNamed (ascii "enc") (ValueAmong enc_names) (parameters h)
  pub zip_listed : EveryNamed (ascii "zip") (ValueAmong zip_names) (parameters h)
  pub zip_protected : EveryNamed (ascii "zip") (λ v. ⊥) (h.shared ++ h.own)
  pub crit_protected : EveryNamed (ascii "crit") (λ v. ⊥) (h.shared ++ h.own)
  pub critical : EveryNamed (ascii "crit") (Critical known (parameters h)) (parameters h)
  pub key_fits : (a : Alg) → EveryNamed (ascii "alg") (λ v. ValueAmong (alg_name a ∷ []) v → KeyFits (mode a) key) (parameters h)

-- 21 (request 2/12): two recipients have the same content algorithm.

-- Values that are strings which say the same.
abbrev pub SameString : Value → Value → Type 0
SameString v w = IsString (λ x. IsString (SayAlike x) w) v

-- Each `enc` of one's parameters is the same string as each of the other's.
abbrev pub SameContent : Headers → Headers → Type 0
SameContent h k =
    EveryNamed (ascii "enc") (λ v. EveryNamed (ascii "enc") (SameString v) (parameters k)) (parameters h)
