-- What the number of a name says: a test on numbers decides whether a string has the octets of one of some names, where
-- the test and the names agree on a table's names, which is computed once for the table.
use mathlib.Core.Path.{◌≡◌, refl, ap, sym, ◌∙◌}
use mathlib.Core.Bool.{Bool, true, false, not, ◌||◌, beq, true≢false, false≢true}
use mathlib.Core.List.{List}
use Prim.Native.Nat.{ℕ}
use lib.Dec.{eqb}
use borrow.Author.Tests.{eqb-true, eqb-false, ne_eqb}
use Rattle.grammar.specs.Grammar.{Str}
use Rattle.grammar.specs.Strings.{HasOctets}
use Rattle.grammar.specs.Spellings.{undo, equal}
use Rattle.grammar.specs.Bounds.{Every}
use Rattle.grammar.proofs.Theorems.{says_octets}
use Rattle.grammar.proofs.Spellings.{undo_spelling, equal_sound, equal_same}
use Rattle.grammar.proofs.Scan.{T→true}
use Rattle.grammar.proofs.Parse.{true→T}
use Rattle.names.specs.Names.{number_in}
use Rattle.names.proofs.Laws.{number_alike}
use Rattle.prelude.specs.Any.{any}
use Rattle.meets.specs.Members.{Some, Among}
use Rattle.meets.proofs.Saying.{Spells, number_among}
use Rattle.meets.proofs.Deciding.{TrueWhere, FalseWhere, not_where, neither, any_every, any_some}
use Rattle.meets.proofs.Deciding.{some_map, some_every}

-- Comparing octets

pub equal_where : (v w : List ℕ) → TrueWhere (equal v w) (v ≡ w)
equal_where v w = (
  (λ e. equal_sound v w (true→T (equal v w) e)),
  (λ p. ap (equal v) (sym p) ∙ T→true (equal v v) (equal_same v)),
)

same_where : (a b : Bool) → FalseWhere (not (beq a b)) (a ≡ b)
same_where true true = ((λ e. refl), (λ e. refl))
same_where true false = ((λ e. absurd (true≢false e)), (λ e. absurd (true≢false e)))
same_where false true = ((λ e. absurd (true≢false e)), (λ e. absurd (false≢true e)))
same_where false false = ((λ e. refl), (λ e. refl))

-- Of a string and its spelling

module _ (w : List ℕ) (x : Str) (h : Spells w x) where
  -- The octets that it has are those of its spelling.
  pub octets_undone : (o : List ℕ) → HasOctets x o → undo w ≡ o
  octets_undone o p = ap undo h.spelled ∙ undo_spelling x ∙ sym (says_octets x h.sayable) ∙ p

  -- It has a number exactly where it is one of the names.
  pub number_where : (ws : List (List ℕ)) → FalseWhere (eqb (number_in ws w) 0) (Among ws x)
  number_where ws =
      let t = number_among w x h ws in
      ((λ e. t.0 (eqb-false (number_in ws w) 0 e)), (λ p. ne_eqb (number_in ws w) 0 (t.1 p)))

-- One that has the octets of a name is among names that have it, which is computed.
pub among_of : (x : Str) (o : List ℕ) (ws : List (List ℕ)) → any (equal o) ws ≡ true → HasOctets x o → Among ws x
among_of x o ws e p =
    some_map (λ y. o ≡ y) (HasOctets x) (λ y q. p ∙ q) ws ((any_some (equal o) (λ y. o ≡ y) (equal_where o) ws).0 e)

-- Tests on the numbers of a table

-- Whether a test on numbers and a list of names disagree on a table: the test passes 0, which is no name's number; a
-- name of the table is not spelled as its octets, or passes and is not in the list, or the reverse; a name of the list
-- is not in the table.

abbrev disagrees_at : List (List ℕ) → (ℕ → Bool) → List (List ℕ) → List ℕ → Bool
disagrees_at table f ws r = not (equal (undo r) r) || not (beq (f (number_in table r)) (any (equal r) ws))

abbrev outside : List (List ℕ) → List ℕ → Bool
outside table w = not (any (equal w) table)

unfoldable pub disagrees : List (List ℕ) → (ℕ → Bool) → List (List ℕ) → Bool
disagrees table f ws = f 0 || (any (disagrees_at table f ws) table || any (outside table) ws)

module _ (table : List (List ℕ)) (f : ℕ → Bool) (ws : List (List ℕ)) where
  -- Agreement as sentences.

  abbrev AgreesAt : List ℕ → Type 0
  AgreesAt r = (undo r ≡ r) × (f (number_in table r) ≡ any (equal r) ws)

  abbrev Inside : List ℕ → Type 0
  Inside w = Some (λ r. w ≡ r) table

  agrees_where : FalseWhere (disagrees table f ws) ((f 0 ≡ false) × (Every AgreesAt table × Every Inside ws))
  unfolding disagrees
  agrees_where =
      neither (f 0) (any (disagrees_at table f ws) table || any (outside table) ws) ((λ e. e), (λ e. e))
      (neither (any (disagrees_at table f ws) table) (any (outside table) ws)
      (any_every (disagrees_at table f ws) AgreesAt
      (λ r.
      neither (not (equal (undo r) r)) (not (beq (f (number_in table r)) (any (equal r) ws)))
      (not_where (equal (undo r) r) (equal_where (undo r) r))
      (same_where (f (number_in table r)) (any (equal r) ws)))
      table)
      (any_every (outside table) Inside
      (λ w. not_where (any (equal w) table) (any_some (equal w) (λ r. w ≡ r) (equal_where w) table)) ws))

  module _ (agree : disagrees table f ws ≡ false) (v : List ℕ) (x : Str) (h : Spells v x) where
    -- A string that has the octets of a name of the table has its number.
    at_name : (r : List ℕ) → undo v ≡ r → AgreesAt r → f (number_in table v) ≡ any (equal r) ws
    at_name r p a = ap f (number_alike table v r (p ∙ sym a.0)) ∙ a.1

    passes_among : f (number_in table v) ≡ true → Among ws x
    passes_among e = cases (eqb (number_in table v) 0) refl
      where
        among : (r : List ℕ) → HasOctets x r → AgreesAt r → Among ws x
        among r p a =
            among_of x r ws (sym (at_name r (octets_undone v x h r p) a) ∙ e) p

        cases : (b : Bool) → eqb (number_in table v) 0 ≡ b → Among ws x
        cases true z =
            absurd (true≢false (sym e ∙ ap f (eqb-true (number_in table v) 0 z) ∙ (agrees_where.0 agree).0))
        cases false z =
            some_every (HasOctets x) AgreesAt among table ((number_where v x h table).0 z) (agrees_where.0 agree).1.0

    among_passes : Among ws x → f (number_in table v) ≡ true
    among_passes p =
        some_every (HasOctets x) Inside at_one ws p (agrees_where.0 agree).1.1
      where
        at_one : (w : List ℕ) → HasOctets x w → Inside w → f (number_in table v) ≡ true
        at_one w q i =
            some_every (λ r. w ≡ r) AgreesAt
            (λ r t a.
            let u : undo v ≡ r = octets_undone v x h w q ∙ t in
            at_name r u a
            ∙ (any_some (equal r) (λ y. r ≡ y) (equal_where r) ws).1
            (some_map (HasOctets x) (λ y. r ≡ y) (λ y t. sym u ∙ octets_undone v x h y t) ws p))
            table i (agrees_where.0 agree).1.0

    -- The test decides whether a string has the octets of one of the names.
    pub numbers_decide : TrueWhere (f (number_in table v)) (Among ws x)
    numbers_decide = (passes_among, among_passes)
