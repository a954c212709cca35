-- Every place that the reader answers lies within the text, whatever the text: by induction as the reader goes, on
-- levels and turns.
use mathlib.Core.Path.{◌≡◌, refl, ap, sym, subst}
use mathlib.Core.Bool.{true, false}
use mathlib.Core.List.{List, [], ◌∷◌}
use mathlib.Core.Option.{Option, none, some}
use Prim.Native.Nat.{ℕ, zero, suc, ◌+◌, ◌≤◌, ◌<◌}
use native.Mathlib.Omega.{arith}
use lib.ListN.{length, take}
use lib.Dec.{eqb}
use Rattle.prelude.specs.Buffer.{AllBelow}
use Rattle.grammar.specs.Grammar.{quote, colon, comma, is_space, letter_t, letter_f, letter_n, Literal, literal-true}
use Rattle.grammar.specs.Grammar.{literal-false, literal-null, letters, Bracket, curly, square, opening, closing}
use Rattle.grammar.specs.Places.{Place, kind_nested, Member}
use Rattle.grammar.specs.Reader.{octet_at, step, skip_space, End, refused, ended, string_at, number_at, word_at, Answer}
use Rattle.grammar.specs.Reader.{nothing, found, of_kind, Before, colon_at, before_at, Entry, entry_of, value_after}
use Rattle.grammar.specs.Reader.{entry_at, close_or, after_entry, entries_at, rows_after, rows_at, nested_at, rows_in}
use Rattle.grammar.specs.Reader.{is_number_start, value_with, value_at, members_at, elements_of, elements_at}
use Rattle.json_read.specs.Members.{next_from, row_of, row_here, member_of, flat}
use Rattle.json_read.specs.declared.Position.{Position}
use Rattle.json_read.specs.declared.member.Row.{Row}
use Rattle.json_read.specs.declared.member.Member.{Member as Here}
use Rattle.json_read.proofs.NumberParts.{same_found}
use Rattle.grammar.specs.Bounds.{Every, Within, name_from, Inside, InsideElement}
use Rattle.grammar.proofs.Endings.{either, Ended, step_on, step_in, skip_on, skip_in, seen, behind, string_in}
use Rattle.grammar.proofs.Endings.{number_in_lem, letters_in}

-- Answers of readers of values, and of objects and arrays past their opening bracket.

abbrev Answered : ℕ → ℕ → Answer → Type 0
Answered n at nothing = Unit {0}
Answered n at (found e k) = Within n at e k

abbrev Closed : ℕ → ℕ → Answer → Type 0
Closed n at nothing = Unit {0}
Closed n at (found e k) = (at < e) × (e ≤ n) × (k ≤ 1)

closed_wider : (n at from : ℕ) (x : Answer) → at ≤ from → Closed n from x → Closed n at x
closed_wider n at from nothing h i = tt
closed_wider n at from (found e k) h i = (omega arith, i.1, i.2)

-- Brackets are octets.

no_opening : (b : Bracket) → eqb 256 (opening b) ≡ false
no_opening curly = refl
no_opening square = refl

no_closing : (b : Bracket) → eqb 256 (closing b) ≡ false
no_closing curly = refl
no_closing square = refl

nested_low : (b : Bracket) → kind_nested b ≤ 1
nested_low curly = omega arith
nested_low square = omega arith

module _ (s : List ℕ) where
  -- A value of a kind, by where it ends.

  string_kind : (at : ℕ) → Answered (length s) at (of_kind 2 (string_at s at))
  string_kind at = cases (string_at s at) (string_in s at)
    where
      cases : (x : End) → Ended (length s) (at + 1) x → Answered (length s) at (of_kind 2 x)
      cases refused h = tt
      cases (ended e) h = record { past = omega arith; ends = h.1; kind = omega arith; marks = λ _. omega arith }

  other_kind : (k at : ℕ) (x : End) → 2 < k → k ≤ 6 → Ended (length s) at x → Answered (length s) at (of_kind k x)
  other_kind k at refused g i h = tt
  other_kind k at (ended e) g i h = record { past = h.0; ends = h.1; kind = i; marks = λ j. absurd (omega arith) }

  -- A value, `nest` reading objects and arrays past their opening bracket.
  module _ (nest : Bracket → ℕ → Answer) (nested : (b : Bracket) (q : ℕ) → Closed (length s) q (nest b q)) where
    nested_kind : (b : Bracket) (at : ℕ) → eqb (octet_at s at) (opening b) ≡ true →
        Answered (length s) at (nest b (step s at))
    nested_kind b at h = cases (nest b (step s at)) (nested b (step s at))
      where
        cases : (x : Answer) → Closed (length s) (step s at) x → Answered (length s) at x
        cases nothing i = tt
        cases (found e k) i =
            let j = behind s (λ c. eqb c (opening b)) (no_opening b) at h in
            record { past = omega (arith, j); ends = i.1; kind = omega arith; marks = λ _. omega (arith, j) }

    value_in_lem : (at : ℕ) → Answered (length s) at (value_with nest s at (octet_at s at))
    unfolding value_with
    value_in_lem at =
        let P = Answered (length s) at in
        let c = octet_at s at in
        either P (eqb c (opening curly)) (nested_kind curly at) λ _.
        either P (eqb c (opening square)) (nested_kind square at) λ _.
        either P (eqb c quote) (λ _. string_kind at) λ _.
        either P (eqb c letter_t) (word 4 literal-true at (omega arith) (omega arith) letter_t refl) λ _.
        either P (eqb c letter_f) (word 5 literal-false at (omega arith) (omega arith) letter_f refl) λ _.
        either P (eqb c letter_n) (word 6 literal-null at (omega arith) (omega arith) letter_n refl) λ _.
        either P (is_number_start c)
        (λ _. other_kind 3 at (number_at s at) (omega arith) (omega arith) (number_in_lem s at)) λ _.
        tt
      where
        word : (k : ℕ) (x : Literal) (at : ℕ) → 2 < k → k ≤ 6 → (l : ℕ) → eqb 256 l ≡ false →
            eqb (octet_at s at) l ≡ true → Answered (length s) at (of_kind k (word_at (letters x) s at))
        word k x at g i l n h =
            other_kind k at (word_at (letters x) s at) g i (begins x (seen s (λ c. eqb c l) n at h))
          where
            begins : (x : Literal) → at < length s → Ended (length s) at (word_at (letters x) s at)
            begins literal-true = letters_in s letter_t (114 ∷ 117 ∷ 101 ∷ []) at
            begins literal-false = letters_in s letter_f (97 ∷ 108 ∷ 115 ∷ 101 ∷ []) at
            begins literal-null = letters_in s letter_n (117 ∷ 108 ∷ 108 ∷ []) at

  -- Entries, `inner` reading their values.

  abbrev Prefaced : Bracket → ℕ → Option Before → Type 0
  Prefaced b at none = Unit {0}
  Prefaced b at (some x) = (name_from b ≤ x.name.start) × (x.name.start + x.name.size ≤ length s) × (at ≤ x.value)

  before_in : (b : Bracket) (at : ℕ) → Prefaced b at (before_at b s at)
  unfolding before_at
  before_in curly at = cases (string_at s at) (string_in s at)
    where
      cases : (x : End) → Ended (length s) (at + 1) x → Prefaced curly at (colon_at s at x)
      cases refused h = tt
      cases (ended e) h =
          let q = skip_space s e in
          either (Prefaced curly at) (eqb (octet_at s q) colon)
          (λ _.
          let on = skip_on s is_space (step s q) in
          (omega arith, omega arith, omega (arith, skip_on s is_space e, step_on s q, on)))
          (λ _. tt)
  before_in square at = (omega arith, omega arith, omega arith)

  abbrev Entered : Bracket → ℕ → Option Entry → Type 0
  Entered b at none = Unit {0}
  Entered b at (some x) = Inside b (length s) x.row × (at < x.after) × (x.after ≤ length s)

  module _ (inner : ℕ → Answer) (good : (at : ℕ) → Answered (length s) at (inner at)) (b : Bracket) where
    entry_in : (at : ℕ) → Entered b at (entry_at inner b s at)
    unfolding entry_at
    entry_in at = cases (before_at b s at) (before_in b at)
      where
        whole : (q : Place) (v : ℕ) (r : Answer) → name_from b ≤ q.start → q.start + q.size ≤ length s → at ≤ v →
            Answered (length s) v r → Entered b at (entry_of q v r)
        whole q v nothing n m l h = tt
        whole q v (found e k) n m l h = (
          record {
            named = n;
            name = m;
            value = omega arith;
            filled = omega arith;
            kind = h.kind;
            marks = λ j. omega (arith, h.marks j);
          },
          omega arith,
          h.ends,
        )

        cases : (x : Option Before) → Prefaced b at x → Entered b at (value_after inner x)
        cases none h = tt
        cases (some x) h = whole x.name x.value (inner x.value) h.0 h.1 h.2 (good x.value)

    close_in : (others : ℕ → Answer) → ((q : ℕ) → Closed (length s) q (others q)) → (from at : ℕ) → from ≤ at →
        Closed (length s) from (close_or b s others at)
    close_in others more from at h =
        either (Closed (length s) from) (eqb (octet_at s at) (closing b))
        (λ t.
        let i = seen s (λ c. eqb c (closing b)) (no_closing b) at t in
        let e = behind s (λ c. eqb c (closing b)) (no_closing b) at t in
        (omega (arith, e), omega (arith, e), nested_low b))
        λ _.
        either (Closed (length s) from) (eqb (octet_at s at) comma)
        (λ _.
        let q = skip_space s (step s at) in
        closed_wider (length s) from q (others q) (omega (arith, step_on s at, skip_on s is_space (step s at))) (more q))
        (λ _. tt)

    entries_in_lem : (n at : ℕ) → Closed (length s) at (entries_at inner b s n at)
    unfolding entries_at
    entries_in_lem zero at = tt
    entries_in_lem (suc n) at = cases (entry_at inner b s at) (entry_in at) (entries_in_lem n)
      where
        cases : (x : Option Entry) → Entered b at x → ((q : ℕ) → Closed (length s) q (entries_at inner b s n q)) →
            Closed (length s) at (after_entry b s (entries_at inner b s n) x)
        cases none h more = tt
        cases (some x) h more =
            close_in (entries_at inner b s n) more at (skip_space s x.after)
            (omega (arith, h.1, skip_on s is_space x.after))

    nested_in : (at : ℕ) → Closed (length s) at (nested_at inner b s at)
    unfolding nested_at
    nested_in at =
        let q = skip_space s at in
        either (Closed (length s) at) (eqb (octet_at s q) (closing b))
        (λ t.
        let i = seen s (λ c. eqb c (closing b)) (no_closing b) q t in
        let e = behind s (λ c. eqb c (closing b)) (no_closing b) q t in
        (omega (arith, e, skip_on s is_space at), omega (arith, e), nested_low b))
        (λ _.
        closed_wider (length s) at q (entries_at inner b s (length s) q) (skip_on s is_space at)
        (entries_in_lem (length s) q))

    rows_at_in : (n at : ℕ) → Every (Inside b (length s)) (rows_at inner b s n at)
    unfolding rows_at
    rows_at_in zero at = tt
    rows_at_in (suc n) at = cases (entry_at inner b s at) (entry_in at) (rows_at_in n)
      where
        cases : (x : Option Entry) → Entered b at x → ((q : ℕ) → Every (Inside b (length s)) (rows_at inner b s n q)) →
            Every (Inside b (length s)) (rows_after s (rows_at inner b s n) x)
        cases none h more = tt
        cases (some x) h more =
            let q = skip_space s x.after in
            let others = more (skip_space s (step s q)) in
            (h.0, either (Every (Inside b (length s))) (eqb (octet_at s q) comma) (λ _. others) (λ _. tt))

    rows_in_in : (at : ℕ) → Every (Inside b (length s)) (rows_in inner b s at)
    unfolding rows_in
    rows_in_in at =
        let q = skip_space s at in
        either (Every (Inside b (length s))) (eqb (octet_at s q) (closing b)) (λ _. tt) (λ _. rows_at_in (length s) q)

  -- Values, by their levels.
  value_answered : (l at : ℕ) → Answered (length s) at (value_at l s at)
  unfolding value_at
  value_answered zero at = value_in_lem (λ b q. nothing) (λ b q. tt) at
  value_answered (suc l) at =
      value_in_lem (λ b q. nested_at (value_at l s) b s q) (nested_in (value_at l s) (value_answered l)) at

-- What is shown, for every text and every position

pub value_within : (l : ℕ) (s : List ℕ) (at e k : ℕ) → value_at l s at ≡ found e k → Within (length s) at e k
value_within l s at e k h = subst (Answered (length s) at) h (value_answered s l at)

-- The rows of an object or an array: by turns, and whole.
module _ (l : ℕ) (s : List ℕ) (b : Bracket) where
  pub rows_at_within : (n at : ℕ) → Every (Inside b (length s)) (rows_at (value_at l s) b s n at)
  rows_at_within = rows_at_in s (value_at l s) (value_answered s l) b

  pub rows_within : (at : ℕ) → Every (Inside b (length s)) (rows_in (value_at l s) b s at)
  rows_within = rows_in_in s (value_at l s) (value_answered s l) b

  -- One row, as the code answers it, and where the next one begins.
  pub row_within : (at : ℕ) (row : Row) (next : Position) → row_here row next ≡ member_of s (entry_at (value_at l s) b s at) →
      (m : Member) × (row ≡ row_of m) × Inside b (length s) m × (next.at ≤ length s)
  unfolding next_from
  row_within at row next h = cases (entry_at (value_at l s) b s at) (entry_in s (value_at l s) (value_answered s l) b at) h
    where
      cases : (x : Option Entry) → Entered s b at x → row_here row next ≡ member_of s x →
          (m : Member) × (row ≡ row_of m) × Inside b (length s) m × (next.at ≤ length s)
      cases none i h = let z : ◌≡◌ {A = ℕ} 0 1 = cc in absurd (omega arith)
      cases (some x) i h =
          let m = same_found h in
          let p = ap (λ (m : Here). m.next) m in
          let q = skip_space s x.after in
          let j = skip_in s is_space x.after i.2 in
          let k = skip_in s is_space (step s q) (step_in s q j) in (
            x.row,
            ap (λ (m : Here). m.row) m,
            i.0,
            subst (λ (n : Position). n.at ≤ length s) (sym p)
                (either (λ n. n ≤ length s) (eqb (octet_at s q) comma) (λ _. k) (λ _. omega arith)),
          )

pub members_within : (l : ℕ) (s : List ℕ) (at : ℕ) → Every (Inside curly (length s)) (members_at l s at)
unfolding members_at
members_within l s at = rows_within l s curly (step s at)

pub elements_within : (l : ℕ) (s : List ℕ) (at : ℕ) → Every (InsideElement (length s)) (elements_at l s at)
unfolding elements_at elements_of
elements_within l s at = cases (rows_in (value_at l s) square s (step s at)) (rows_within l s square (step s at))
  where
    cases : (ms : List Member) → Every (Inside square (length s)) ms → Every (InsideElement (length s)) (elements_of ms)
    cases [] h = tt
    cases (m ∷ ms) h =
        let i = h.0 in
        (record { value = i.value; filled = i.filled; kind = i.kind; marks = i.marks }, cases ms h.1)

-- Of a table of members, and of its beginning

pub every_take : {A : Type 0} (P : A → Type 0) (n : ℕ) (xs : List A) → Every P xs → Every P (take n xs)
every_take P zero xs h = tt
every_take P (suc n) [] h = tt
every_take P (suc n) (x ∷ xs) h = (h.0, every_take P n xs h.1)

-- Every number of it is below a limit that is past the text and the kinds.
pub flat_below : (b : Bracket) (n limit : ℕ) (ms : List Member) → n < limit → 6 < limit → Every (Inside b n) ms →
    AllBelow limit (flat ms)
unfolding flat
flat_below b n limit [] g k h = tt
flat_below b n limit (m ∷ ms) g k h =
    let i = h.0 in
    (omega arith, (omega arith, (omega arith, (omega arith, (omega arith, flat_below b n limit ms g k h.1)))))

pub members_below : (l : ℕ) (s : List ℕ) (at limit : ℕ) → length s < limit → 6 < limit →
    AllBelow limit (flat (members_at l s at))
members_below l s at limit g k = flat_below curly (length s) limit (members_at l s at) g k (members_within l s at)

-- As `collect` leaves it.
pub table_below : (n l : ℕ) (s : List ℕ) (at limit : ℕ) → length s < limit → 6 < limit →
    AllBelow limit (flat (take n (members_at l s at)))
table_below n l s at limit g k =
    flat_below curly (length s) limit (take n (members_at l s at)) g k
    (every_take (Inside curly (length s)) n (members_at l s at) (members_within l s at))
