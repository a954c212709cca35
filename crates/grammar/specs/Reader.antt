-- The reader, as functions of the whole text s and a position in it. The contracts of the code cite these. The octet
-- at the end of the text is 256, and no step passes the end. Recursion is on levels; the loops over entries take the
-- reader of values as an argument, and as many turns at most as the text has octets.
use Rattle.std.specs.Prelude.{List, [], ◌∷◌, Bool, true, false, ◌&&◌, cond, ℕ, zero, suc, ◌+◌, ◌-◌, length, drop, get_or, eqb, ltb}
use Rattle.std.proofs.Math.Option.{Option, none, some}
use Rattle.grammar.specs.Grammar.{quote, letter_t, letter_f, letter_n, backslash, letter_u, colon, comma, digit_zero}
use Rattle.grammar.specs.Grammar.{among, is_space, is_digit, is_nonzero, is_minus, is_point, is_e, is_plus_minus}
use Rattle.grammar.specs.Grammar.{is_unescaped, is_escape, is_hex, literal-true, literal-false, literal-null, letters}
use Rattle.grammar.specs.Grammar.{Bracket, curly, square, opening, closing}
use Rattle.grammar.specs.Places.{kind_nested, Place, Member, Element}
use Rattle.grammar.specs.Strings.{hex_more, is_high, is_low}
use Rattle.grammar.specs.Utf8.{utf8}

-- Positions

-- The octet at a position; 256 at the end.
abbrev pub octet_at : List ℕ → ℕ → ℕ
octet_at s at = get_or s at 256

-- One on, and no further than the end.
abbrev pub step : List ℕ → ℕ → ℕ
step s at = cond (ltb at (length s)) (at + 1) at

-- Past the octets of a class with which t begins, t being what stands in the text from a position on.
unfoldable pub pass_over : (ℕ → Bool) → List ℕ → ℕ → ℕ
pass_over p [] at = at
pass_over p (c ∷ t) at = let e = pass_over p t (at + 1) in cond (p c) e at

-- Past the octets of a class that stand here.
unfoldable pub skip : (ℕ → Bool) → List ℕ → ℕ → ℕ
skip p s at = pass_over p (drop at s) at

-- Past the space that stands here.
abbrev pub skip_space : List ℕ → ℕ → ℕ
skip_space = skip is_space

-- What a reader of a part without a kind answers: where the part ends, or that it is not there.
pub data End : Type 0 where
  refused : End
  ended : ℕ → End

-- One part after another.
abbrev pub and_then : End → (ℕ → End) → End
and_then refused f = refused
and_then (ended e) f = f e

-- Strings (section 7), octet by octet, with the rule on \u

-- Where in a string the reader is: between characters; after a backslash; or among the digits of \u, n more to come
-- after the next one, those so far saying x. In each case `h` says that a first half of a pair waits for its second
-- half.
pub data Scan : Type 0 where
  between : Bool → Scan
  escaping : Bool → Scan
  digit : Bool → ℕ → ℕ → Scan

-- What an octet does: it breaks the string, closes it, or leads on.
pub data Turn : Type 0 where
  broken : Turn
  closed : Turn
  go_on : Scan → Turn

-- After the four digits of \u, which say u.
abbrev pub after_unit : Bool → ℕ → Turn
after_unit false u = cond (is_low u) broken (go_on (between (is_high u)))
after_unit true u = cond (is_low u) (go_on (between false)) broken

-- After any other character.
abbrev pub after_char : Bool → Turn
after_char false = go_on (between false)
after_char true = broken

-- What one octet does.
unfoldable pub turn : Scan → ℕ → Turn
turn (between h) c =
    cond (eqb c quote) (cond h broken closed)
    (cond (eqb c backslash) (go_on (escaping h))
    (cond (is_unescaped c) (after_char h) broken))
turn (escaping h) c = cond (eqb c letter_u) (go_on (digit h 3 0)) (cond (is_escape c) (after_char h) broken)
turn (digit h zero x) c = cond (is_hex c) (after_unit h (hex_more x c)) broken
turn (digit h (suc n) x) c = cond (is_hex c) (go_on (digit h n (hex_more x c))) broken

-- A string from a place in it on.
unfoldable pub scan_string : Scan → List ℕ → ℕ → End
scan_string x [] at = refused
scan_string x (c ∷ t) at =
    elim (turn x c) [
      | broken ↦ refused
      | closed ↦ ended (at + 1)
      | go_on y ↦ scan_string y t (at + 1)
    ]

-- A string that begins here.
unfoldable pub string_at : List ℕ → ℕ → End
string_at s at =
    let e = scan_string (between false) (drop (step s at) s) (step s at) in
    cond (eqb (octet_at s at) quote) e refused

-- Numbers (section 6), part by part

-- One digit of a class and any digits.
unfoldable pub digits_at : (ℕ → Bool) → List ℕ → ℕ → End
digits_at p s at = cond (p (octet_at s at)) (ended (skip is_digit s (step s at))) refused

-- int: a zero, or a digit from 1 to 9 and any digits.
unfoldable pub int_at : List ℕ → ℕ → End
int_at s at = cond (eqb (octet_at s at) digit_zero) (ended (step s at)) (digits_at is_nonzero s at)

-- Past an octet of a class, if it stands here.
unfoldable pub perhaps_at : (ℕ → Bool) → List ℕ → ℕ → ℕ
perhaps_at p s at = cond (p (octet_at s at)) (step s at) at

-- frac, if it is there: a point and digits.
unfoldable pub fraction_at : List ℕ → ℕ → End
fraction_at s at = cond (is_point (octet_at s at)) (digits_at is_digit s (step s at)) (ended at)

-- exp, if it is there: e or E, perhaps a plus or a minus, digits.
unfoldable pub exponent_at : List ℕ → ℕ → End
exponent_at s at = cond (is_e (octet_at s at)) (digits_at is_digit s (perhaps_at is_plus_minus s (step s at))) (ended at)

-- A number that begins here: [ minus ] int [ frac ] [ exp ].
unfoldable pub number_at : List ℕ → ℕ → End
number_at s at =
    and_then (int_at s (perhaps_at is_minus s at)) (λ e. and_then (fraction_at s e) (λ f. exponent_at s f))

-- Words: the octets of w, one after the other.
unfoldable pub word_at : List ℕ → List ℕ → ℕ → End
word_at [] s at = ended at
word_at (c ∷ w) s at = let e = word_at w s (step s at) in cond (eqb (octet_at s at) c) e refused

-- Entries (sections 4 and 5)

-- What a reader of a value answers: where the value ends and its kind, or that none is there within the levels.
pub data Answer : Type 0 where
  nothing : Answer
  found : ℕ → ℕ → Answer

-- An end as the answer for a value of kind k.
abbrev pub of_kind : ℕ → End → Answer
of_kind k refused = nothing
of_kind k (ended e) = found e k

-- What stands before the value of an entry: the place of its name, without quotation marks (0, 0 in an array), and the
-- position of the value.
pub record Before : Type 0 where
  pub name : Place
  pub value : ℕ

-- After a name that stands at a position and ends at another: a colon.
abbrev pub colon_at : List ℕ → ℕ → End → Option Before
colon_at s at refused = none
colon_at s at (ended e) =
    cond (eqb (octet_at s (skip_space s e)) colon)
    (some (record {
      name = record { start = at + 1; size = e - (at + 2) };
      value = skip_space s (step s (skip_space s e));
    }))
    none

-- A name and a colon in an object, nothing in an array.
unfoldable pub before_at : Bracket → List ℕ → ℕ → Option Before
before_at curly s at = colon_at s at (string_at s at)
before_at square s at = some (record { name = record { start = 0; size = 0 }; value = at })

-- An entry: its row, and the position after its value.
pub record Entry : Type 0 where
  pub row : Member
  pub after : ℕ

-- The entry with a name at q and a value at a position, by what the reader of the value answers.
abbrev pub entry_of : Place → ℕ → Answer → Option Entry
entry_of q at nothing = none
entry_of q at (found e k) =
    some (record {
      row = record { name_start = q.start; name_size = q.size; value_start = at; value_size = e - at; kind = k };
      after = e;
    })

-- The entry, by what stands before its value.
abbrev pub value_after : (ℕ → Answer) → Option Before → Option Entry
value_after inner none = none
value_after inner (some x) = entry_of x.name x.value (inner x.value)

-- The entry that begins here, `inner` reading its value.
unfoldable pub entry_at : (ℕ → Answer) → Bracket → List ℕ → ℕ → Option Entry
entry_at inner b s at = value_after inner (before_at b s at)

-- After an entry: the closing bracket, or a comma and more entries.
abbrev pub close_or : Bracket → List ℕ → (ℕ → Answer) → ℕ → Answer
close_or b s others at =
    let r = others (skip_space s (step s at)) in
    cond (eqb (octet_at s at) (closing b)) (found (step s at) (kind_nested b)) (cond (eqb (octet_at s at) comma) r nothing)

-- What follows an entry, if there is one.
abbrev pub after_entry : Bracket → List ℕ → (ℕ → Answer) → Option Entry → Answer
after_entry b s others none = nothing
after_entry b s others (some x) = close_or b s others (skip_space s x.after)

-- Entries and the closing bracket: at most n entries, the first one here.
unfoldable pub entries_at : (ℕ → Answer) → Bracket → List ℕ → ℕ → ℕ → Answer
entries_at inner b s zero at = nothing
entries_at inner b s (suc n) at = after_entry b s (entries_at inner b s n) (entry_at inner b s at)

-- The row of an entry, and the rows of those behind a comma.
abbrev pub rows_after : List ℕ → (ℕ → List Member) → Option Entry → List Member
rows_after s others none = []
rows_after s others (some x) =
    let at = skip_space s x.after in
    let r = others (skip_space s (step s at)) in
    x.row ∷ cond (eqb (octet_at s at) comma) r []

-- The rows of those entries.
unfoldable pub rows_at : (ℕ → Answer) → Bracket → List ℕ → ℕ → ℕ → List Member
rows_at inner b s zero at = []
rows_at inner b s (suc n) at = rows_after s (rows_at inner b s n) (entry_at inner b s at)

-- An object or an array, past its opening bracket.
unfoldable pub nested_at : (ℕ → Answer) → Bracket → List ℕ → ℕ → Answer
nested_at inner b s at =
    let q = skip_space s at in
    let r = entries_at inner b s (length s) q in
    cond (eqb (octet_at s q) (closing b)) (found (step s q) (kind_nested b)) r

-- Its rows.
unfoldable pub rows_in : (ℕ → Answer) → Bracket → List ℕ → ℕ → List Member
rows_in inner b s at =
    let q = skip_space s at in
    let r = rows_at inner b s (length s) q in
    cond (eqb (octet_at s q) (closing b)) [] r

-- Values (section 3)

-- The octets with which a number can begin: - and 0 to 9.
abbrev pub is_number_start : ℕ → Bool
is_number_start = among (45 ∷ 48 ∷ 49 ∷ 50 ∷ 51 ∷ 52 ∷ 53 ∷ 54 ∷ 55 ∷ 56 ∷ 57 ∷ [])

-- A value that begins with the octet c, which stands here; `nest` reads an object or an array past its opening bracket.
unfoldable pub value_with : (Bracket → ℕ → Answer) → List ℕ → ℕ → ℕ → Answer
value_with nest s at c =
    let o = nest curly (step s at) in
    let a = nest square (step s at) in
    let x = of_kind 2 (string_at s at) in
    let t = of_kind 4 (word_at (letters literal-true) s at) in
    let f = of_kind 5 (word_at (letters literal-false) s at) in
    let n = of_kind 6 (word_at (letters literal-null) s at) in
    let d = of_kind 3 (number_at s at) in
    cond (eqb c (opening curly)) o
    (cond (eqb c (opening square)) a
    (cond (eqb c quote) x
    (cond (eqb c letter_t) t
    (cond (eqb c letter_f) f
    (cond (eqb c letter_n) n
    (cond (is_number_start c) d nothing))))))

-- A value of at most so many levels that begins here.
unfoldable pub value_at : ℕ → List ℕ → ℕ → Answer
value_at zero s at = value_with (λ b p. nothing) s at (octet_at s at)
value_at (suc l) s at = value_with (λ b p. nested_at (value_at l s) b s p) s at (octet_at s at)

-- An object or an array of at most so many levels, past its opening bracket.
unfoldable pub nested_within : ℕ → Bracket → List ℕ → ℕ → Answer
nested_within zero b s at = nothing
nested_within (suc l) b s at = nested_at (value_at l s) b s at

-- The members of the object, or the elements of the array, that begins here and holds values of at most so many levels.

-- Of the object.
unfoldable pub members_at : ℕ → List ℕ → ℕ → List Member
members_at l s at = rows_in (value_at l s) curly s (step s at)

-- An array's row without the place of a name.
abbrev pub as_element : Member → Element
as_element m = record { start = m.value_start; size = m.value_size; kind = m.kind }

-- All of them.
unfoldable pub elements_of : List Member → List Element
elements_of [] = []
elements_of (m ∷ ms) = as_element m ∷ elements_of ms

-- Of the array.
unfoldable pub elements_at : ℕ → List ℕ → ℕ → List Element
elements_at l s at = elements_of (rows_in (value_at l s) square s (step s at))

-- Texts

-- Whether the first octet that is not space is an opening curly bracket: document 01's test for a JSON message.
unfoldable pub opens_object : List ℕ → Bool
opens_object s = eqb (octet_at s (skip_space s 0)) (opening curly)

-- An answer for a value behind which nothing but space stands.
abbrev pub wholly : List ℕ → Answer → Answer
wholly s nothing = nothing
wholly s (found e k) = cond (eqb (skip_space s e) (length s)) (found e k) nothing

-- A text that is an object of at most so many levels with space around it, and well-formed UTF-8: where the object
-- ends, and its kind, which is 0. It begins at skip_space s 0.
unfoldable pub read_text : ℕ → List ℕ → Answer
read_text l s =
    let at = skip_space s 0 in
    let r = wholly s (value_at l s at) in
    cond (eqb (octet_at s at) (opening curly) && utf8 s) r nothing
