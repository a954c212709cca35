-- What it is for a tree of the grammar to stand in a text at the place that the reader answers, and for a member or an
-- element to stand where its row says; that a reading's value stands so; and how a string is spelled where it stands.
use mathlib.Core.Path.{◌≡◌, refl, sym, ap, ap₂, subst, ◌∙◌}
use mathlib.Core.List.{List, [], ◌∷◌, ◌++◌, append_assoc}
use mathlib.Core.Logic.{◌↔◌, ◌⊎◌, inl, inr}
use Prim.Native.Nat.{ℕ, suc, ◌+◌, ◌-◌, ◌≤◌}
use native.Mathlib.Omega.{arith}
use lib.Dec.{T}
use lib.ListN.{length, take, length-append, length-drop}
use lib.Seq.{take-append_seam}
use Rattle.parts.specs.Parts.{part}
use Rattle.parts.proofs.Laws.{part_fits}
pub use Rattle.headers.proofs.Outermost.{placed_kind}
use Rattle.grammar.specs.Grammar.{quote, octets, Sign, Str, leaves_chars, leaves_str, Literal, literal-true, literal-false}
use Rattle.grammar.specs.Grammar.{literal-null, Bracket, curly, square, Value, nested, empty, string, number, literal}
use Rattle.grammar.specs.Grammar.{Entries, leaves_value}
use Rattle.grammar.specs.Places.{kind, kind_nested, kind_literal, leading, trailing, place, placed, placed_text}
use Rattle.grammar.specs.Places.{kind_of, start_of, size_of}
use Rattle.grammar.specs.Places as places
use Rattle.grammar.specs.Strings.{every}
use Rattle.grammar.specs.Spellings.{sayable}
use Rattle.grammar.specs.Reader.{skip_space}
use Rattle.grammar.specs.Readings.{Reading}
use Rattle.grammar.specs.Shown.{Shown, Everywhere, StringsStand}
use Rattle.grammar.proofs.Theorems.{read_complete, read_shows, read_stands, read_says}
use Rattle.grammar.proofs.Positions.{Rest, rest_next}
use Rattle.grammar.proofs.Decide.{rest_value}
use Rattle.meets.specs.Members.{Member, IsString}

-- A value stands in the text s at a place: its leaves begin at octet `from`, the reader shows everything in it, its
-- names and strings stand at their places, and each of them says code points.
pub record Stands (s : List ℕ) (v : Value) (at size : ℕ) : Type 0 where
  pub from : ℕ
  pub rest : List ℕ
  pub leaves : Rest s from (leaves_value v ++ rest)
  pub starts : (place from v).start ≡ at
  pub sized : (place from v).size ≡ size
  pub shown : Everywhere (Shown 12 s) (placed from v)
  pub strings : StringsStand s from v
  pub sayable : T (every sayable v)

-- A member stands where a row says: its name is spelled there, and its value stands there.
pub record MemberStands (s : List ℕ) (p : Member) (m : places.Member) : Type 0 where
  pub spelled : part s m.name_start m.name_size ≡ leaves_chars p.name.chars
  pub sayable : T (sayable p.name)
  pub kinds : m.kind ≡ kind p.value
  pub stands : Stands s p.value m.value_start m.value_size

-- The same of an element.
pub record ElementStands (s : List ℕ) (v : Value) (x : places.Element) : Type 0 where
  pub kinds : x.kind ≡ kind v
  pub stands : Stands s v x.start x.size

-- A placed value's kind, start and size.

pub placed_start : (v : Value) (n : ℕ) → (place n v).start ≡ start_of (placed n v)
unfolding placed
placed_start (nested b x es y) n = refl
placed_start (empty b x y) n = refl
placed_start (string x) n = refl
placed_start (number x) n = refl
placed_start (literal x) n = refl

pub placed_size : (v : Value) (n : ℕ) → (place n v).size ≡ size_of (placed n v)
unfolding placed
placed_size (nested b x es y) n = refl
placed_size (empty b x y) n = refl
placed_size (string x) n = refl
placed_size (number x) n = refl
placed_size (literal x) n = refl

-- A value whose leaves begin at octet n stands where it is placed.
pub stands_placed : (s : List ℕ) (v : Value) (n : ℕ) (r : List ℕ) → Rest s n (leaves_value v ++ r) →
    Everywhere (Shown 12 s) (placed n v) → StringsStand s n v → T (every sayable v) →
    Stands s v (start_of (placed n v)) (size_of (placed n v))
stands_placed s v n r h shows strings says = record {
  from = n;
  rest = r;
  leaves = h;
  starts = placed_start v n;
  sized = placed_size v n;
  shown = shows;
  strings = strings;
  sayable = says;
}

-- The value of a reading stands where the reader looks.
pub reading_stands : (s : List ℕ) (r : Reading 12 s) →
    Stands s r.text.value (skip_space s 0) (size_of (placed_text r.text))
unfolding placed_text
reading_stands s r =
    let v = r.text.value in
    let n = length (octets r.text.before) in
    subst (λ m. Stands s v m (size_of (placed n v))) (read_complete 12 s r).1
    (stands_placed s v n (octets r.text.after) (rest_value s r.text r.reads) (read_shows 12 s r)
    (read_stands 12 s r) (read_says 12 s r))

-- Strings

-- Octets with another behind them are the part at their place.
part_stands : (s : List ℕ) (n : ℕ) (w : List ℕ) (c : ℕ) (r : List ℕ) → Rest s n (w ++ (c ∷ r)) →
    part s n (length w) ≡ w
part_stands s n w c r h =
    part_fits s n (length w) (omega (arith, length-append w (c ∷ r), length-drop n s, ap length h.is))
    ∙ ap (take (length w)) h.is ∙ take-append_seam w (c ∷ r)

-- A string is spelled behind its first quotation mark.
pub str_stands : (s : List ℕ) (n : ℕ) (x : Str) (r : List ℕ) → Rest s n (leaves_str x ++ r) →
    part s (suc n) (length (leaves_chars x.chars)) ≡ leaves_chars x.chars
unfolding leaves_str
str_stands s n x r h =
    let w = leaves_chars x.chars in
    part_stands s (suc n) w quote r (record { is = (rest_next h).is ∙ append_assoc w (quote ∷ []) r })

pub string_stands : (s : List ℕ) (x : Str) (at size : ℕ) → Stands s (string x) at size →
    (part s (at + 1) (size - 2) ≡ leaves_chars x.chars) × T (sayable x)
    × (size ≡ length (leaves_chars x.chars) + 2)
unfolding place leading trailing leaves_value leaves_str octets every
string_stands s x at size h =
    let w = leaves_chars x.chars in
    let e : size ≡ length w + 2 = omega (arith, h.sized, length-append w (quote ∷ [])) in (
      ap₂ (part s) (omega (arith, h.starts)) (omega arith) ∙ str_stands s h.from x h.rest h.leaves,
      h.sayable,
      e,
    )

-- Values by their kinds

no_nested_string : (b : Bracket) → kind_nested b ≡ 2 → ⊥
no_nested_string curly e = omega arith
no_nested_string square e = omega arith

no_literal_string : (x : Literal) → kind_literal x ≡ 2 → ⊥
no_literal_string literal-true e = omega arith
no_literal_string literal-false e = omega arith
no_literal_string literal-null e = omega arith

-- A value of kind 2 is a string.
pub kind_string : (v : Value) → kind v ≡ 2 → (x : Str) × (v ≡ string x)
unfolding kind
kind_string (nested b x es y) e = absurd (no_nested_string b e)
kind_string (empty b x y) e = absurd (no_nested_string b e)
kind_string (string x) e = (x, refl)
kind_string (number x) e = absurd (omega arith)
kind_string (literal x) e = absurd (no_literal_string x e)

-- A value is a string of which something holds.
pub is_string : (P : Str → Type 0) (v : Value) → IsString P v ↔ ((x : Str) × (v ≡ string x) × P x)
is_string P v = (there v, λ w. subst (IsString P) (sym w.1) w.2)
  where
    there : (v : Value) → IsString P v → (x : Str) × (v ≡ string x) × P x
    there (nested b x es y) h = absurd h
    there (empty b x y) h = absurd h
    there (string x) h = (x, refl, h)
    there (number x) h = absurd h
    there (literal x) h = absurd h

-- A value with a bracket's kind has that bracket.
abbrev pub Bracketed : Bracket → Value → Type 0
Bracketed b v =
    ((x : Sign) × (es : Entries b) × (y : Sign) × (v ≡ nested b x es y))
    ⊎ ((x : Sign) × (y : Sign) × (v ≡ empty b x y))

bracket_nested : (b c : Bracket) (x : Sign) (es : Entries c) (y : Sign) → kind_nested c ≡ kind_nested b →
    Bracketed b (nested c x es y)
bracket_nested curly curly x es y e = inl (x, es, y, refl)
bracket_nested curly square x es y e = absurd (omega arith)
bracket_nested square curly x es y e = absurd (omega arith)
bracket_nested square square x es y e = inl (x, es, y, refl)

bracket_empty : (b c : Bracket) (x y : Sign) → kind_nested c ≡ kind_nested b → Bracketed b (empty c x y)
bracket_empty curly curly x y e = inr (x, y, refl)
bracket_empty curly square x y e = absurd (omega arith)
bracket_empty square curly x y e = absurd (omega arith)
bracket_empty square square x y e = inr (x, y, refl)

bracket_low : (b : Bracket) (k : ℕ) → 2 ≤ k → k ≡ kind_nested b → ⊥
bracket_low curly k h e = omega arith
bracket_low square k h e = omega arith

literal_high : (x : Literal) → 2 ≤ kind_literal x
literal_high literal-true = omega arith
literal_high literal-false = omega arith
literal_high literal-null = omega arith

pub kind_bracket : (b : Bracket) (v : Value) → kind v ≡ kind_nested b → Bracketed b v
unfolding kind
kind_bracket b (nested c x es y) e = bracket_nested b c x es y e
kind_bracket b (empty c x y) e = bracket_empty b c x y e
kind_bracket b (string x) e = absurd (bracket_low b 2 (omega arith) e)
kind_bracket b (number x) e = absurd (bracket_low b 3 (omega arith) e)
kind_bracket b (literal x) e = absurd (bracket_low b (kind_literal x) (literal_high x) e)
