-- What a string says: the rule on halves of surrogate pairs, and the code points after undoing escapes (RFC 8259,
-- section 7; RFC 7515, section 5.3).
use Rattle.std.specs.Prelude.{◌≡◌, List, [], ◌∷◌, ◌++◌, Bool, true, false, not, ◌&&◌, cond, ℕ, ◌+◌, ◌-◌, ◌*◌, eqb, leb}
use Rattle.std.proofs.Math.Option.{Option, none, some}
use Rattle.grammar.specs.Grammar.{Char, unescaped, escape, unicode, Str, Bracket, curly, square, Label, Value}
use Rattle.grammar.specs.Grammar.{nested, empty, string, number, literal, Entries, last, more}
use Rattle.grammar.specs.Utf8.{points, encode, encodes}

-- Escapes

-- What a backslash and the octet c stand for: b f n r t are backspace, form feed, LF, CR and tab; " \ / are themselves.
abbrev pub escape_point : ℕ → ℕ
escape_point c =
    cond (eqb c 98) 8 (cond (eqb c 102) 12 (cond (eqb c 110) 10 (cond (eqb c 114) 13 (cond (eqb c 116) 9 c))))

-- The value of a hexadecimal digit: 0 to 9, A to F, a to f.
abbrev pub hex_digit : ℕ → ℕ
hex_digit c = cond (leb c 57) (c - 48) (cond (leb c 70) (c - 55) (c - 87))

-- One more hexadecimal digit c behind those that say x.
abbrev pub hex_more : ℕ → ℕ → ℕ
hex_more x c = x * 16 + hex_digit c

-- What four hexadecimal digits say.
abbrev pub unit : ℕ → ℕ → ℕ → ℕ → ℕ
unit a b c d = hex_more (hex_more (hex_more (hex_more 0 a) b) c) d

-- Halves of surrogate pairs

-- The first half of a pair (RFC 8259, section 7: a code point above FFFF as two escapes).
abbrev pub is_high : ℕ → Bool
is_high u = leb 0xD800 u && leb u 0xDBFF

-- The second half.
abbrev pub is_low : ℕ → Bool
is_low u = leb 0xDC00 u && leb u 0xDFFF

-- The first half that a character is, if it is one.
unfoldable pub half : Char → Option ℕ
half (unescaped o) = none
half (escape o) = none
half (unicode a b c d) =
    let u = unit a.code b.code c.code d.code in
    cond (is_high u) (some u) none

-- Whether a character may stand here: after a first half only a second half, and a second half only there.
unfoldable pub allowed : Option ℕ → Char → Bool
allowed none (unescaped o) = true
allowed none (escape o) = true
allowed none (unicode a b c d) = not (is_low (unit a.code b.code c.code d.code))
allowed (some h) (unescaped o) = false
allowed (some h) (escape o) = false
allowed (some h) (unicode a b c d) = is_low (unit a.code b.code c.code d.code)

-- Whether every half among characters has its other half, h being a first half that stands before them, if there is
-- one.
unfoldable pub paired_after : Option ℕ → List Char → Bool
paired_after none [] = true
paired_after (some h) [] = false
paired_after h (c ∷ cs) = allowed h c && paired_after (half c) cs

-- The rule on \u: no half of a surrogate pair stands without its other half.
unfoldable pub paired : Str → Bool
paired x = paired_after none x.chars

-- What a string says

-- The code point that two halves stand for.
abbrev pub combined : ℕ → ℕ → ℕ
combined h l = 0x10000 + (h - 0xD800) * 0x400 + (l - 0xDC00)

-- The octets that a character adds, h being a first half that stands before it, if there is one. A first half adds
-- nothing by itself.
unfoldable pub undone_char : Option ℕ → Char → List ℕ
undone_char h (unescaped o) = o.code ∷ []
undone_char h (escape o) = escape_point o.code ∷ []
undone_char none (unicode a b c d) =
    let u = unit a.code b.code c.code d.code in
    cond (is_high u) [] (encode u)
undone_char (some h) (unicode a b c d) = encode (combined h (unit a.code b.code c.code d.code))

-- The octets that characters add, after a first half or not.
unfoldable pub undone_after : Option ℕ → List Char → List ℕ
undone_after h [] = []
undone_after h (c ∷ cs) = undone_char h c ++ undone_after (half c) cs

-- A string's octets after undoing its escapes, in UTF-8.
unfoldable pub undone : Str → List ℕ
undone x = undone_after none x.chars

-- What a string says: its code points.
unfoldable pub says : Str → List ℕ
says x = points (undone x)

-- Two strings that say the same.
abbrev pub SayAlike : Str → Str → Type 0
SayAlike x y = says x ≡ says y

-- A string that has given octets: the UTF-8 of what it says.
abbrev pub HasOctets : Str → List ℕ → Type 0
HasOctets x w = encodes (says x) ≡ w

-- All strings of a value

-- Whether a test holds of an entry's name, if it has one.
unfoldable pub every_label : (Str → Bool) → (b : Bracket) → Label b → Bool
every_label test curly l = test l.name
every_label test square l = true

-- Whether a test holds of every string in a value, names too.
unfoldable mutual
  pub every : (Str → Bool) → Value → Bool
  every test (nested b x es y) = every_entries test es
  every test (empty b x y) = true
  every test (string x) = test x
  every test (number x) = true
  every test (literal x) = true

  pub every_entries : (Str → Bool) → {b : Bracket} → Entries b → Bool
  every_entries test (last {b} l v) = every_label test b l && every test v
  every_entries test (more {b} l v x es) = every_label test b l && (every test v && every_entries test es)
