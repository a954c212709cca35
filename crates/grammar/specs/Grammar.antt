-- The grammar of RFC 8259 as trees: a tree's `leaves` are the octets of the text that it reads.
-- A tree is a reading of a text exactly when its leaves are the text. No position appears, and nothing is searched.
use Rattle.std.specs.Prelude.{List, [], ◌∷◌, ◌++◌, Bool, false, not, ◌&&◌, ◌||◌, ℕ, T, eqb, leb}
use Rattle.std.proofs.Math.Option.{Option, none, some}

-- Octets

-- "
abbrev pub quote : ℕ
quote = 34

-- \
abbrev pub backslash : ℕ
backslash = 92

-- u, which begins an escape of four hexadecimal digits
abbrev pub letter_u : ℕ
letter_u = 117

-- t f n, with which the literals begin
abbrev pub letter_t : ℕ
letter_t = 116

abbrev pub letter_f : ℕ
letter_f = 102

abbrev pub letter_n : ℕ
letter_n = 110

-- : (name-separator)
abbrev pub colon : ℕ
colon = 58

-- , (value-separator)
abbrev pub comma : ℕ
comma = 44

-- 0
abbrev pub digit_zero : ℕ
digit_zero = 48

-- Whether a number is in a list.
abbrev pub among : List ℕ → ℕ → Bool
among [] c = false
among (x ∷ xs) c = eqb c x || among xs c

-- Space (section 2): space, tab, LF, CR.
abbrev pub is_space : ℕ → Bool
is_space = among (32 ∷ 9 ∷ 10 ∷ 13 ∷ [])

-- 0 to 9.
abbrev pub is_digit : ℕ → Bool
is_digit = among (48 ∷ 49 ∷ 50 ∷ 51 ∷ 52 ∷ 53 ∷ 54 ∷ 55 ∷ 56 ∷ 57 ∷ [])

-- 1 to 9 (digit1-9).
abbrev pub is_nonzero : ℕ → Bool
is_nonzero = among (49 ∷ 50 ∷ 51 ∷ 52 ∷ 53 ∷ 54 ∷ 55 ∷ 56 ∷ 57 ∷ [])

-- -
abbrev pub is_minus : ℕ → Bool
is_minus = among (45 ∷ [])

-- .
abbrev pub is_point : ℕ → Bool
is_point = among (46 ∷ [])

-- e E
abbrev pub is_e : ℕ → Bool
is_e = among (101 ∷ 69 ∷ [])

-- + -
abbrev pub is_plus_minus : ℕ → Bool
is_plus_minus = among (43 ∷ 45 ∷ [])

-- An octet that stands for itself in a string (unescaped): 32 to 255, without " and \.
abbrev pub is_unescaped : ℕ → Bool
is_unescaped c = (leb 32 c && leb c 255) && not (among (quote ∷ backslash ∷ []) c)

-- What may follow a backslash, but for u: " \ / b f n r t
abbrev pub is_escape : ℕ → Bool
is_escape = among (34 ∷ 92 ∷ 47 ∷ 98 ∷ 102 ∷ 110 ∷ 114 ∷ 116 ∷ [])

-- 0 to 9, A to F, a to f (HEXDIG, in either case).
abbrev pub is_hex : ℕ → Bool
is_hex c = is_digit c || among (65 ∷ 66 ∷ 67 ∷ 68 ∷ 69 ∷ 70 ∷ 97 ∷ 98 ∷ 99 ∷ 100 ∷ 101 ∷ 102 ∷ []) c

-- An octet of a class.
pub record Octet (p : ℕ → Bool) : Type 0 where
  pub code : ℕ
  pub fits : T (p code)

-- Octets in a row.
unfoldable pub octets : {p : ℕ → Bool} → List (Octet p) → List ℕ
octets [] = []
octets (o ∷ os) = o.code ∷ octets os

-- An octet that may be absent.
unfoldable pub optional : {p : ℕ → Bool} → Option (Octet p) → List ℕ
optional none = []
optional (some o) = o.code ∷ []

-- Spaces and signs (section 2)

-- ws: any number of octets of space.
abbrev pub Space : Type 0
Space = List (Octet is_space)

-- The space on both sides of one of the six signs.
pub record Sign : Type 0 where
  pub before : Space
  pub after : Space

-- A sign: the octet c with its space.
unfoldable pub leaves_sign : ℕ → Sign → List ℕ
leaves_sign c x = octets x.before ++ (c ∷ octets x.after)

-- Strings (section 7)

-- A character as it is spelled: an unescaped octet; a backslash and one of eight octets; \u and four hexadecimal
-- digits.
pub data Char : Type 0 where
  unescaped : Octet is_unescaped → Char
  escape : Octet is_escape → Char
  unicode : Octet is_hex → Octet is_hex → Octet is_hex → Octet is_hex → Char

-- A string: characters between quotation marks.
pub record Str : Type 0 where
  pub chars : List Char

-- The octets of a character.
unfoldable pub leaves_char : Char → List ℕ
leaves_char (unescaped o) = o.code ∷ []
leaves_char (escape o) = backslash ∷ o.code ∷ []
leaves_char (unicode a b c d) = backslash ∷ letter_u ∷ a.code ∷ b.code ∷ c.code ∷ d.code ∷ []

-- The octets of characters, one after the other.
unfoldable pub leaves_chars : List Char → List ℕ
leaves_chars [] = []
leaves_chars (c ∷ cs) = leaves_char c ++ leaves_chars cs

-- The octets of a string, with its quotation marks.
unfoldable pub leaves_str : Str → List ℕ
leaves_str x = quote ∷ (leaves_chars x.chars ++ (quote ∷ []))

-- Numbers (section 6)

-- 1*DIGIT: one digit or more.
pub record Digits : Type 0 where
  pub first : Octet is_digit
  pub others : List (Octet is_digit)

-- int: a zero, or a digit from 1 to 9 and any digits.
pub data Int : Type 0 where
  int_zero : Int
  int : Octet is_nonzero → List (Octet is_digit) → Int

-- frac: a point, digits.
pub record Fraction : Type 0 where
  pub mark : Octet is_point
  pub digits : Digits

-- exp: e or E, perhaps a plus or a minus, digits.
pub record Exponent : Type 0 where
  pub mark : Octet is_e
  pub sign : Option (Octet is_plus_minus)
  pub digits : Digits

-- number: [ minus ] int [ frac ] [ exp ]
pub record Num : Type 0 where
  pub negative : Option (Octet is_minus)
  pub whole : Int
  pub fraction : Option Fraction
  pub exponent : Option Exponent

-- The octets of digits.
unfoldable pub leaves_digits : Digits → List ℕ
leaves_digits x = x.first.code ∷ octets x.others

-- The octets of int.
unfoldable pub leaves_int : Int → List ℕ
leaves_int int_zero = digit_zero ∷ []
leaves_int (int o os) = o.code ∷ octets os

-- The octets of frac, if it is there.
unfoldable pub leaves_fraction : Option Fraction → List ℕ
leaves_fraction none = []
leaves_fraction (some x) = x.mark.code ∷ leaves_digits x.digits

-- The octets of exp, if it is there.
unfoldable pub leaves_exponent : Option Exponent → List ℕ
leaves_exponent none = []
leaves_exponent (some x) = x.mark.code ∷ (optional x.sign ++ leaves_digits x.digits)

-- The octets of a number.
unfoldable pub leaves_num : Num → List ℕ
leaves_num x =
    optional x.negative ++ (leaves_int x.whole ++ (leaves_fraction x.fraction ++ leaves_exponent x.exponent))

-- Literals (section 3)

-- The three literal names.
pub data Literal : Type 0 where
  literal-true literal-false literal-null : Literal

-- true, false, null
abbrev pub letters : Literal → List ℕ
letters literal-true = letter_t ∷ 114 ∷ 117 ∷ 101 ∷ []
letters literal-false = letter_f ∷ 97 ∷ 108 ∷ 115 ∷ 101 ∷ []
letters literal-null = letter_n ∷ 117 ∷ 108 ∷ 108 ∷ []

-- Objects, arrays and values (sections 3 to 5)

-- Objects stand in curly brackets and arrays in square ones. Both hold entries with commas between, and may be empty.
pub data Bracket : Type 0 where
  curly square : Bracket

-- { [
abbrev pub opening : Bracket → ℕ
opening curly = 123
opening square = 91

-- } ]
abbrev pub closing : Bracket → ℕ
closing curly = 125
closing square = 93

-- What stands before a member's value: its name, a string, and the colon.
pub record Name : Type 0 where
  pub name : Str
  pub sign : Sign

-- What stands before the value of an entry: a name in an object, nothing in an array.
abbrev pub Label : Bracket → Type 0
Label curly = Name
Label square = Unit {0}

mutual
  -- A value: an object or an array with entries, or an empty one; a string, a number or a literal.
  pub data Value : Type 0 where
    nested : (b : Bracket) → Sign → Entries b → Sign → Value
    empty : Bracket → Sign → Sign → Value
    string : Str → Value
    number : Num → Value
    literal : Literal → Value

  -- One entry or more: members of an object, values of an array.
  pub data Entries : Bracket → Type 0 where
    last : {b : Bracket} → Label b → Value → Entries b
    more : {b : Bracket} → Label b → Value → Sign → Entries b → Entries b

-- The octets before an entry's value.
unfoldable pub leaves_label : (b : Bracket) → Label b → List ℕ
leaves_label curly l = leaves_str l.name ++ leaves_sign colon l.sign
leaves_label square l = []

unfoldable mutual
  -- The octets of a value, with the space that its outermost brackets have.
  pub leaves_value : Value → List ℕ
  leaves_value (nested b x es y) = leaves_sign (opening b) x ++ (leaves_entries es ++ leaves_sign (closing b) y)
  leaves_value (empty b x y) = leaves_sign (opening b) x ++ leaves_sign (closing b) y
  leaves_value (string x) = leaves_str x
  leaves_value (number x) = leaves_num x
  leaves_value (literal x) = letters x

  -- The octets of entries, with the commas between.
  pub leaves_entries : {b : Bracket} → Entries b → List ℕ
  leaves_entries (last {b} l v) = leaves_label b l ++ leaves_value v
  leaves_entries (more {b} l v x es) = leaves_label b l ++ (leaves_value v ++ (leaves_sign comma x ++ leaves_entries es))

-- A text (section 2): space, a value, space.
pub record Text : Type 0 where
  pub before : Space
  pub value : Value
  pub after : Space

-- The octets of a text: what the tree reads.
unfoldable pub leaves : Text → List ℕ
leaves t = octets t.before ++ (leaves_value t.value ++ octets t.after)
