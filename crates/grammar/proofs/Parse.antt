-- A parser that gives a text's tree back: the means by which unambiguity is shown, and by which the reader is tied to
-- the grammar. It is no part of what is promised.
use mathlib.Core.Path.{◌≡◌, refl}
use mathlib.Core.List.{List, [], ◌∷◌}
use mathlib.Core.Bool.{Bool, true, false, cond}
use mathlib.Core.Option.{Option, none, some}
use Prim.Native.Nat.{ℕ, zero, suc, ◌+◌, ◌-◌}
use native.Mathlib.Omega.{arith}
use lib.ListN.{length}
use lib.Dec.{T, eqb}
use Rattle.grammar.specs.Grammar.{quote, letter_t, letter_f, letter_n, opening, backslash, letter_u, colon, comma}
use Rattle.grammar.specs.Grammar.{digit_zero, is_space, is_digit, is_nonzero, is_minus, is_point, is_e, is_plus_minus}
use Rattle.grammar.specs.Grammar.{is_unescaped, is_escape, is_hex, Octet, Char, unescaped, escape, unicode, Str}
use Rattle.grammar.specs.Grammar.{leaves_chars, Digits, Int, int_zero, int, Fraction, Exponent, Num, Literal}
use Rattle.grammar.specs.Grammar.{literal-true, literal-false, literal-null, letters, Bracket, curly, square}
use Rattle.grammar.specs.Grammar.{closing, Label, Value, nested, empty, string, number, literal, Entries, last}
use Rattle.grammar.specs.Grammar.{more}
use Rattle.grammar.specs.Reader.{is_number_start}
use Rattle.grammar.specs.Places.{Place, Placed, item, Parts, done, part, kind_nested, kind_literal, bare}

-- A position in the text, and the text from there.
pub record At : Type 0 where
  pub pos : ℕ
  pub rest : List ℕ

abbrev pub at : ℕ → List ℕ → At
at n s = record { pos = n; rest = s }

pub data Got (A : Type 0) : Type 0 where
  failed : Got A
  got : A → At → Got A

module _ {A B : Type 0} where
  abbrev pub then : Got A → (A → At → Got B) → Got B
  then failed f = failed
  then (got a st) f = f a st

abbrev pub or_else : {A : Type 0} → Got A → Got A → Got A
or_else failed g = g
or_else (got a st) g = got a st

pub true→T : (b : Bool) → b ≡ true → T b
true→T true e = tt
true→T false e = let z : ◌≡◌ {A = ℕ} 0 1 = cc in absurd (omega arith)

-- Past the octets of a class, and those octets.

unfoldable pub scan : (ℕ → Bool) → ℕ → List ℕ → At
scan p n [] = at n []
scan p n (c ∷ s) = elim (p c) [ true ↦ scan p (suc n) s | false ↦ at n (c ∷ s) ]

abbrev pub skip : ℕ → List ℕ → At
skip = scan is_space

abbrev pub extend : (p : ℕ → Bool) (c : ℕ) (b : Bool) → p c ≡ b → List (Octet p) → List (Octet p)
extend p c true e w = record { code = c; fits = true→T (p c) e } ∷ w
extend p c false e w = []

unfoldable pub run : (p : ℕ → Bool) → List ℕ → List (Octet p)
run p [] = []
run p (c ∷ s) = extend p c (p c) refl (run p s)

-- One octet of a class.

abbrev pub octet : (p : ℕ → Bool) (c : ℕ) (b : Bool) → p c ≡ b → At → Got (Octet p)
octet p c true e st = got (record { code = c; fits = true→T (p c) e }) st
octet p c false e st = failed

unfoldable pub one : (p : ℕ → Bool) → ℕ → List ℕ → Got (Octet p)
one p n [] = failed
one p n (c ∷ s) = octet p c (p c) refl (at (suc n) s)

-- One octet of a class, if it is there.

abbrev pub perhaps : (p : ℕ → Bool) (c : ℕ) (b : Bool) → p c ≡ b → ℕ → List ℕ → Got (Option (Octet p))
perhaps p c true e n s = got (some (record { code = c; fits = true→T (p c) e })) (at (suc n) s)
perhaps p c false e n s = got none (at n (c ∷ s))

unfoldable pub opt : (p : ℕ → Bool) → ℕ → List ℕ → Got (Option (Octet p))
opt p n [] = got none (at n [])
opt p n (c ∷ s) = perhaps p c (p c) refl n s

-- The octets of a word.
unfoldable pub word : List ℕ → ℕ → List ℕ → Got (Unit {0})
word [] n s = got tt (at n s)
word (c ∷ cs) n [] = failed
word (c ∷ cs) n (d ∷ s) = elim (eqb d c) [ true ↦ word cs (suc n) s | false ↦ failed ]

-- Strings

unfoldable pub hex4 : ℕ → List ℕ → Got Char
hex4 n s =
    then (one is_hex n s) (λ a st₁.
    then (one is_hex st₁.pos st₁.rest) (λ b st₂.
    then (one is_hex st₂.pos st₂.rest) (λ c st₃.
    then (one is_hex st₃.pos st₃.rest) (λ d st₄. got (unicode a b c d) st₄))))

-- After a backslash.
unfoldable pub escaped : ℕ → List ℕ → Got Char
escaped n [] = failed
escaped n (c ∷ s) =
    elim (eqb c letter_u) [
      | true ↦ hex4 (suc n) s
      | false ↦ then (one is_escape n (c ∷ s)) (λ o st. got (escape o) st)
    ]

unfoldable pub read_char : ℕ → List ℕ → Got Char
read_char n [] = failed
read_char n (c ∷ s) =
    elim (eqb c backslash) [
      | true ↦ escaped (suc n) s
      | false ↦ then (one is_unescaped n (c ∷ s)) (λ o st. got (unescaped o) st)
    ]

-- Characters up to the quotation mark, and it.
unfoldable pub read_chars : ℕ → ℕ → List ℕ → Got (List Char)
read_chars zero n s = failed
read_chars (suc k) n [] = failed
read_chars (suc k) n (c ∷ s) =
    elim (eqb c quote) [
      | true ↦ got [] (at (suc n) s)
      | false ↦ then (read_char n (c ∷ s)) (λ x st. then (read_chars k st.pos st.rest) (λ xs st'. got (x ∷ xs) st'))
    ]

unfoldable pub read_str : ℕ → ℕ → List ℕ → Got Str
read_str k n s =
    then (word (quote ∷ []) n s) (λ u st.
    then (read_chars k st.pos st.rest) (λ xs st'. got (record { chars = xs }) st'))

-- Numbers

-- An octet of a class, and digits.
unfoldable pub digits : {A : Type 0} (p : ℕ → Bool) → (Octet p → List (Octet is_digit) → A) → ℕ → List ℕ → Got A
digits p f n s = then (one p n s) (λ o st. got (f o (run is_digit st.rest)) (scan is_digit st.pos st.rest))

abbrev pub digits_of : Octet is_digit → List (Octet is_digit) → Digits
digits_of o os = record { first = o; others = os }

unfoldable pub read_int : ℕ → List ℕ → Got Int
read_int n [] = failed
read_int n (c ∷ s) =
    elim (eqb c digit_zero) [ true ↦ got int_zero (at (suc n) s) | false ↦ digits is_nonzero int n (c ∷ s) ]

unfoldable pub fraction_after : Option (Octet is_point) → At → Got (Option Fraction)
fraction_after none st = got none st
fraction_after (some o) st =
    then (digits is_digit digits_of st.pos st.rest) (λ d st'. got (some (record { mark = o; digits = d })) st')

unfoldable pub exponent_after : Option (Octet is_e) → At → Got (Option Exponent)
exponent_after none st = got none st
exponent_after (some o) st =
    then (opt is_plus_minus st.pos st.rest) (λ g st₁.
    then (digits is_digit digits_of st₁.pos st₁.rest) (λ d st₂.
    got (some (record { mark = o; sign = g; digits = d })) st₂))

unfoldable pub read_fraction : ℕ → List ℕ → Got (Option Fraction)
read_fraction n s = then (opt is_point n s) fraction_after

unfoldable pub read_exponent : ℕ → List ℕ → Got (Option Exponent)
read_exponent n s = then (opt is_e n s) exponent_after

unfoldable pub read_num : ℕ → List ℕ → Got Num
read_num n s =
    then (opt is_minus n s) (λ m st₁.
    then (read_int st₁.pos st₁.rest) (λ i st₂.
    then (read_fraction st₂.pos st₂.rest) (λ f st₃.
    then (read_exponent st₃.pos st₃.rest) (λ e st₄.
    got (record { negative = m; whole = i; fraction = f; exponent = e }) st₄))))

-- Values

-- What a value's first octet says of it.
pub data Lead : Type 0 where
  lead_nested : Bracket → Lead
  lead-string lead-number : Lead
  lead_literal : Literal → Lead
  lead_none : Lead

unfoldable pub lead : ℕ → Lead
lead c =
    cond (eqb c (opening curly)) (lead_nested curly)
    (cond (eqb c (opening square)) (lead_nested square)
    (cond (eqb c quote) lead-string
    (cond (eqb c letter_t) (lead_literal literal-true)
    (cond (eqb c letter_f) (lead_literal literal-false)
    (cond (eqb c letter_n) (lead_literal literal-null)
    (cond (is_number_start c) lead-number lead_none))))))

-- A value's tree without its spaces, and the value placed.
pub record Node : Type 0 where
  pub tree : Value
  pub placed : Placed

-- The same of entries, and of what stands before an entry's value.

pub record Inside (b : Bracket) : Type 0 where
  pub tree : Entries b
  pub parts : Parts

pub record Head (b : Bracket) : Type 0 where
  pub label : Label b
  pub name : Option Place

abbrev pub leaf : {A : Type 0} → ℕ → (A → Value) → (A → ℕ) → A → At → Got Node
leaf n f k a st =
    got
    (record { tree = f a; placed = item (k a) (record { start = n; size = st.pos - n }) done })
    (skip st.pos st.rest)

abbrev pub inside_last : {b : Bracket} → Head b → Node → Inside b
inside_last h v = record { tree = last h.label v.tree; parts = part h.name v.placed done }

abbrev pub inside_more : {b : Bracket} → Head b → Node → Inside b → Inside b
inside_more h v es = record {
  tree = more h.label v.tree bare es.tree;
  parts = part h.name v.placed es.parts;
}

abbrev pub nest_of : (b : Bracket) → ℕ → Inside b → At → Got Node
nest_of b n es st =
    got
    (record {
      tree = nested b bare es.tree bare;
      placed = item (kind_nested b) (record { start = n; size = st.pos - n }) es.parts;
    })
    (skip st.pos st.rest)

abbrev pub empty_of : (b : Bracket) → ℕ → Unit {0} → At → Got Node
empty_of b n u st =
    got
    (record {
      tree = empty b bare bare;
      placed = item (kind_nested b) (record { start = n; size = st.pos - n }) done;
    })
    (skip st.pos st.rest)

-- After an entry: a comma and more entries, or the closing bracket.
unfoldable pub go_on_lem : {b : Bracket} → (At → Got (Inside b)) → Head b → Node → ℕ → List ℕ → Got (Inside b)
go_on_lem others h v n [] = failed
go_on_lem {b} others h v n (c ∷ s) =
    elim (eqb c comma) [
      | true ↦ then (others (skip (suc n) s)) (λ es st. got (inside_more h v es) st)
      | false ↦ elim (eqb c (closing b)) [ true ↦ got (inside_last h v) (at (suc n) s) | false ↦ failed ]
    ]

abbrev pub ended : Got Node → Option Node
ended failed = none
ended (got v st) = elim st.rest [ [] ↦ some v | c ∷ s ↦ none ]

-- A parser that takes only strings that pass a test.
module _ (test : Str → Bool) where
  unfoldable pub read_string : ℕ → ℕ → List ℕ → Got Str
  read_string k n s = then (read_str k n s) (λ x st. cond (test x) (got x st) failed)

  unfoldable pub read_label : (b : Bracket) → ℕ → At → Got (Head b)
  read_label curly k st =
      then (read_string k st.pos st.rest) (λ x st₁.
      let st₂ = skip st₁.pos st₁.rest in
      then (word (colon ∷ []) st₂.pos st₂.rest) (λ u st₃.
      got
      (record {
        label = record { name = x; sign = bare };
        name = some (record { start = st.pos + 1; size = length (leaves_chars x.chars) });
      })
      (skip st₃.pos st₃.rest)))
  read_label square k st = got (record { label = tt; name = none }) st

  unfoldable pub entries : (b : Bracket) → (At → Got Node) → ℕ → ℕ → At → Got (Inside b)
  entries b inner K zero st = failed
  entries b inner K (suc k) st =
      then (read_label b K st) (λ h st₁.
      then (inner st₁) (λ v st₂. go_on_lem (λ st₃. entries b inner K k st₃) h v st₂.pos st₂.rest))

  -- Past the opening bracket, which stands at n.
  unfoldable pub bracketed : (At → Got Node) → ℕ → Bracket → ℕ → At → Got Node
  bracketed inner K b n st =
      or_else
      (then (entries b inner K K st) (nest_of b n))
      (then (word (closing b ∷ []) st.pos st.rest) (empty_of b n))

  -- A value that begins at n with the text t; m and s are where and what follows its first octet.
  unfoldable pub start : (Bracket → ℕ → At → Got Node) → ℕ → Lead → ℕ → List ℕ → ℕ → List ℕ → Got Node
  start nest K (lead_nested b) n t m s = nest b n (skip m s)
  start nest K lead-string n t m s = then (read_string K n t) (leaf n string (λ x. 2))
  start nest K lead-number n t m s = then (read_num n t) (leaf n number (λ x. 3))
  start nest K (lead_literal x) n t m s = then (word (letters x) n t) (leaf n (λ u. literal x) (λ u. kind_literal x))
  start nest K lead_none n t m s = failed

  unfoldable pub begin : (Bracket → ℕ → At → Got Node) → ℕ → ℕ → List ℕ → Got Node
  begin nest K n [] = failed
  begin nest K n (c ∷ s) = start nest K (lead c) n (c ∷ s) (suc n) s

  -- A value of at most l levels, from its first octet on, and past the space behind it.
  unfoldable pub value : ℕ → ℕ → At → Got Node
  value zero K st = begin (λ b n st'. failed) K st.pos st.rest
  value (suc l) K st = begin (bracketed (value l K) K) K st.pos st.rest

  -- A whole text.
  unfoldable pub parse : ℕ → List ℕ → Option Node
  parse l s = ended (value l (length s) (skip 0 s))
