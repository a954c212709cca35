-- The rules on one recipient's parameters (document 01, 'Header rules', refusals 12 to 18), as questions on entries, whose
-- numbers count the registered names.
use Rattle.std.specs.Prelude.{List, [], ◌∷◌, Bool, true, false, not, ◌&&◌, ◌||◌, cond, ℕ, ◌+◌, ◌-◌, eqb}
use Rattle.std.specs.Bool.{xor}
use Rattle.parts.specs.Parts.{part}
use Rattle.names.specs.Names.{number_in}
use Rattle.grammar.specs.Places.{Element}
use Rattle.grammar.specs.Reader.{elements_at}
use Rattle.grammar.specs.Spellings.{alike}
use Rattle.prelude.specs.Any.{any, any_pair}
use Rattle.rows.specs.Rows.{Entry, Texts, text_of, value_in, name_says, numbered, present, repeated}
use Rattle.algorithms.specs.Algorithms.{algs, alg_names, enc_names, zip_names, nth, mode_of}
use Rattle.jose.specs.Registered.{registered, alg, enc, zip, crit, string, any_kind, kind_asked}
use Rattle.prelude.specs.Refusals.{Test, ◌if◌}
use Rattle.jose.specs.declared.Sizes.{Sizes}
pub use Rattle.prelude.specs.Limits.{levels}

-- 13: `alg` or `enc` is absent.
unfoldable pub incomplete : List Entry → Bool
incomplete es = not (present alg es) || not (present enc es)

-- 14: a parameter is of another kind than its name asks for.
abbrev pub wrong_kind : Entry → Bool
wrong_kind e = not (eqb (kind_asked e.number) any_kind) && not (eqb (kind_asked e.number) e.member.kind)

-- 15: the value of `alg`, `enc` or the compression parameter is not listed.
abbrev pub unlisted : Texts → Entry → Bool
unlisted ts e =
    (numbered alg e && eqb (number_in alg_names (value_in ts e)) 0)
    || ((numbered enc e && eqb (number_in enc_names (value_in ts e)) 0)
    || (numbered zip e && eqb (number_in zip_names (value_in ts e)) 0))

-- 16: compression or `crit` outside protection.
abbrev pub unprotected : Entry → Bool
unprotected e = (numbered zip e || numbered crit e) && not (eqb e.origin 0)

-- 17: the contents of `crit`

-- A string element as it is spelled, without quotation marks.
abbrev pub spelled_element : List ℕ → Element → List ℕ
spelled_element s x = part s (x.start + 1) (x.size - 2)

-- An element that is no string, or none of the known names.
abbrev pub unknown : List (List ℕ) → List ℕ → Element → Bool
unknown known s x = not (eqb x.kind string) || eqb (number_in known (spelled_element s x)) 0

-- Two elements that say the same.
abbrev pub same_element : List ℕ → Element → Element → Bool
same_element s x y = alike (spelled_element s x) (spelled_element s y)

-- An element that is a registered name, or no name of the recipient's headers.
abbrev pub misplaced : Texts → List Entry → List ℕ → Element → Bool
misplaced ts es s x =
    not (eqb (number_in registered (spelled_element s x)) 0)
    || not (any (name_says ts (spelled_element s x)) es)

-- No element.
abbrev pub is_empty : List Element → Bool
is_empty [] = true
is_empty (x ∷ xs) = false

-- The elements of `crit`, which stand in the text s.
unfoldable pub wrong_crit : List (List ℕ) → Texts → List Entry → List ℕ → List Element → Bool
wrong_crit known ts es s xs =
    is_empty xs
    || (any (unknown known s) xs || (any_pair (same_element s) xs || any (misplaced ts es s) xs))

-- An entry that is a `crit` with wrong contents.
abbrev pub critical : List (List ℕ) → Texts → List Entry → Entry → Bool
critical known ts es e =
    let s = text_of ts e.origin in
    numbered crit e && wrong_crit known ts es s (elements_at levels s e.member.value_start)

-- 18: the key

-- The mode of the algorithm that the first `alg` names; 0 where none is named or listed.
unfoldable pub mode_in : Texts → List Entry → ℕ
mode_in ts [] = 0
mode_in ts (e ∷ es) =
    let rest = mode_in ts es in
    let here = mode_of (nth algs (number_in alg_names (value_in ts e))) in
    cond (numbered alg e) here rest

-- Modes 3 and 5 have no key of their own, the others do.
abbrev pub keyless : ℕ → Bool
keyless m = eqb m 3 || eqb m 5

abbrev pub wrong_key : ℕ → Sizes → Bool
wrong_key m z = xor (keyless m) (eqb z.key 0)

-- Rules by their numbers

-- Whether a recipient with these entries, whose key is wrong or not, breaks the rule of a number. No other number is a rule's.
abbrev pub breaks : List (List ℕ) → Texts → List Entry → Bool → ℕ → Bool
breaks known ts es badKey n =
    cond (eqb n 12) (repeated true ts es)
    (cond (eqb n 13) (incomplete es)
    (cond (eqb n 14) (any wrong_kind es)
    (cond (eqb n 15) (any (unlisted ts) es)
    (cond (eqb n 16) (any unprotected es)
    (cond (eqb n 17) (any (critical known ts es) es)
    (cond (eqb n 18) badKey false))))))

-- The tests of some rules, in order, of a recipient with these entries, whose key is wrong or not.
abbrev pub tests_of : List (List ℕ) → Texts → List Entry → Bool → List ℕ → List Test
tests_of known ts es badKey [] = []
tests_of known ts es badKey (n ∷ ns) = n if breaks known ts es badKey n ∷ tests_of known ts es badKey ns

-- Those of a recipient with these sizes.
abbrev pub rules_order : List (List ℕ) → Texts → List Entry → Sizes → List ℕ → List Test
rules_order known ts es z = tests_of known ts es (wrong_key (mode_in ts es) z)

-- All of them.
abbrev pub recipient_rules : List ℕ
recipient_rules = 12 ∷ 13 ∷ 14 ∷ 15 ∷ 16 ∷ 17 ∷ 18 ∷ []

-- Those that can be broken where only a protected header is there.
abbrev pub protected_rules : List ℕ
protected_rules = 13 ∷ 14 ∷ 15 ∷ 17 ∷ 18 ∷ []

-- Refusals 12 to 18 of a recipient.
unfoldable pub recipient_order : List (List ℕ) → Texts → List Entry → Sizes → List Test
recipient_order known ts es z = rules_order known ts es z recipient_rules
