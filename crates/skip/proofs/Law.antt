-- Where the reader finds an object or an array, the search finds the same end: by induction as the reader goes, on
-- levels and turns. A value leaves the search as it was, with as many brackets open behind it as before it.
use mathlib.Core.Path.{◌≡◌, refl, ap, sym, subst, ◌∙◌}
use mathlib.Core.Bool.{true, false}
use mathlib.Core.List.{List}
use mathlib.Core.Option.{Option, none, some}
use Prim.Native.Nat.{ℕ, zero, suc, ◌<◌}
use native.Mathlib.Omega.{arith}
use lib.ListN.{length, get_or}
use lib.Dec.{eqb}
use borrow.Author.Tests.{eqb-true}
use Rattle.grammar.specs.Grammar.{quote, colon, comma, is_space, letter_t, letter_f, letter_n, literal-true, literal-false}
use Rattle.grammar.specs.Grammar.{literal-null, letters, Bracket, curly, square, opening, closing}
use Rattle.grammar.specs.Places.{Place, kind_nested}
use Rattle.grammar.specs.Reader.{octet_at, step, skip_space, End, refused, ended, string_at, number_at, word_at, Answer}
use Rattle.grammar.specs.Reader.{nothing, found, of_kind, Before, colon_at, before_at, Entry, entry_of, value_after}
use Rattle.grammar.specs.Reader.{entry_at, close_or, after_entry, entries_at, nested_at, is_number_start, value_with, value_at}
use Rattle.grammar.specs.Reader.{nested_within}
use Rattle.grammar.proofs.Endings.{either}
use Rattle.grammar.proofs.Here.{octet_here, step_inside, class_inside}
use Rattle.skip.specs.Inner.Past.{is_opening, is_closing, outside, past_from, past_nested}
use Rattle.skip.proofs.Steps.{past_opening, past_closing, past_closed}
use Rattle.skip.proofs.Passing.{one_clear, space_clear, Through, Passed, through_same, through_then, step_over}
use Rattle.skip.proofs.Passing.{skip_over, string_over, number_over, word_over}

-- Brackets are marks of their kind, and octets.

opens : (b : Bracket) → is_opening (opening b) ≡ true
opens curly = refl
opens square = refl

no_quote : (b : Bracket) → opening b ≡ quote → ⊥
no_quote curly e = omega arith
no_quote square e = omega arith

closes : (b : Bracket) → is_closing (closing b) ≡ true
closes curly = refl
closes square = refl

no_opening : (b : Bracket) → eqb 256 (opening b) ≡ false
no_opening curly = refl
no_opening square = refl

no_closing : (b : Bracket) → eqb 256 (closing b) ≡ false
no_closing curly = refl
no_closing square = refl

module _ (s : List ℕ) where
  -- Behind a bracket that closes what d more brackets enclose.
  abbrev behind : ℕ → ℕ → ℕ
  behind zero e = e
  behind (suc d) e = past_from (outside d) s e

  -- Answers of readers of values, and of objects and arrays past their opening bracket.

  abbrev Answered : ℕ → Answer → Type 0
  Answered at nothing = Unit {0}
  Answered at (found e k) = Through s at e

  abbrev Closed : ℕ → Answer → Type 0
  Closed at nothing = Unit {0}
  Closed at (found e k) = (d : ℕ) → past_from (outside d) s at ≡ behind d e

  closed_from : (at from : ℕ) (x : Answer) → Through s at from → Closed from x → Closed at x
  closed_from at from nothing g h = tt
  closed_from at from (found e k) g h = λ d. g.same d ∙ h d

  space_over : (at : ℕ) → Through s at (skip_space s at)
  space_over = skip_over s is_space space_clear

  of_kind_lem : (k at : ℕ) (x : End) → Passed s at x → Answered at (of_kind k x)
  of_kind_lem k at refused h = tt
  of_kind_lem k at (ended e) h = h

  -- A closing bracket.
  module _ (b : Bracket) (at : ℕ) (t : eqb (octet_at s at) (closing b) ≡ true) where
    closing_in : at < length s
    closing_in = class_inside (λ c. eqb c (closing b)) s at (no_closing b) t

    closing_here : is_closing (get_or s at 0) ≡ true
    closing_here = ap is_closing (octet_here s at closing_in ∙ eqb-true (octet_at s at) (closing b) t) ∙ closes b

  close_over : (b : Bracket) (at : ℕ) → eqb (octet_at s at) (closing b) ≡ true →
      (d : ℕ) → past_from (outside d) s at ≡ behind d (step s at)
  close_over b at t zero =
      past_closed s at (closing_in b at t) (closing_here b at t) ∙ step_inside s at (closing_in b at t)
  close_over b at t (suc d) =
      past_closing s at (closing_in b at t) (suc d) d refl (closing_here b at t)
      ∙ ap (past_from (outside d) s) (step_inside s at (closing_in b at t))

  -- A value, `nest` reading objects and arrays past their opening bracket.
  module _ (nest : Bracket → ℕ → Answer) (nested : (b : Bracket) (q : ℕ) → Closed q (nest b q)) where
    nested_over : (b : Bracket) (at : ℕ) → eqb (octet_at s at) (opening b) ≡ true → Answered at (nest b (step s at))
    nested_over b at t = cases (nest b (step s at)) (nested b (step s at))
      where
        cases : (x : Answer) → Closed (step s at) x → Answered at x
        cases nothing g = tt
        cases (found e k) g =
            let h = class_inside (λ c. eqb c (opening b)) s at (no_opening b) t in
            let c = octet_here s at h ∙ eqb-true (octet_at s at) (opening b) t in
            record {
              same = λ d.
                  past_opening s at h (λ q. no_quote b (sym c ∙ q)) d (suc d) refl (ap is_opening c ∙ opens b)
                  ∙ ap (past_from (outside (suc d)) s) (step_inside s at h) ∙ g (suc d);
            }

    value_over : (at : ℕ) → Answered at (value_with nest s at (octet_at s at))
    unfolding value_with
    value_over at =
        let P = Answered at in
        let c = octet_at s at in
        either P (eqb c (opening curly)) (nested_over curly at) λ _.
        either P (eqb c (opening square)) (nested_over square at) λ _.
        either P (eqb c quote) (λ _. of_kind_lem 2 at (string_at s at) (string_over s at)) λ _.
        either P (eqb c letter_t) (λ _. of_kind_lem 4 at (word_at (letters literal-true) s at) (word_over s _ tt at)) λ _.
        either P (eqb c letter_f) (λ _. of_kind_lem 5 at (word_at (letters literal-false) s at) (word_over s _ tt at)) λ _.
        either P (eqb c letter_n) (λ _. of_kind_lem 6 at (word_at (letters literal-null) s at) (word_over s _ tt at)) λ _.
        either P (is_number_start c) (λ _. of_kind_lem 3 at (number_at s at) (number_over s at)) λ _.
        tt

  -- Entries, `inner` reading their values.

  abbrev Prefaced : ℕ → Option Before → Type 0
  Prefaced at none = Unit {0}
  Prefaced at (some x) = Through s at x.value

  before_over : (b : Bracket) (at : ℕ) → Prefaced at (before_at b s at)
  unfolding before_at
  before_over curly at = cases (string_at s at) (string_over s at)
    where
      cases : (x : End) → Passed s at x → Prefaced at (colon_at s at x)
      cases refused h = tt
      cases (ended e) h =
          let q = skip_space s e in
          either (Prefaced at) (eqb (octet_at s q) colon)
          (λ t. through_then s h (through_then s (space_over e)
          (through_then s (step_over s (λ c. eqb c colon) (one_clear colon refl) q t) (space_over (step s q)))))
          (λ _. tt)
  before_over square at = through_same s refl

  abbrev Entered : ℕ → Option Entry → Type 0
  Entered at none = Unit {0}
  Entered at (some x) = Through s at x.after

  module _ (inner : ℕ → Answer) (good : (at : ℕ) → Answered at (inner at)) (b : Bracket) where
    entry_over : (at : ℕ) → Entered at (entry_at inner b s at)
    unfolding entry_at
    entry_over at = cases (before_at b s at) (before_over b at)
      where
        whole : (q : Place) (v : ℕ) (r : Answer) → Through s at v → Answered v r → Entered at (entry_of q v r)
        whole q v nothing g h = tt
        whole q v (found e k) g h = through_then s g h

        cases : (x : Option Before) → Prefaced at x → Entered at (value_after inner x)
        cases none h = tt
        cases (some x) h = whole x.name x.value (inner x.value) h (good x.value)

    more_over : (others : ℕ → Answer) → ((q : ℕ) → Closed q (others q)) → (at : ℕ) →
        Closed at (close_or b s others at)
    more_over others more at =
        either (Closed at) (eqb (octet_at s at) (closing b)) (close_over b at) λ _.
        either (Closed at) (eqb (octet_at s at) comma)
        (λ t.
        let q = skip_space s (step s at) in
        closed_from at q (others q)
        (through_then s (step_over s (λ c. eqb c comma) (one_clear comma refl) at t) (space_over (step s at))) (more q))
        (λ _. tt)

    entries_over : (n at : ℕ) → Closed at (entries_at inner b s n at)
    unfolding entries_at
    entries_over zero at = tt
    entries_over (suc n) at = cases (entry_at inner b s at) (entry_over at) (entries_over n)
      where
        cases : (x : Option Entry) → Entered at x → ((q : ℕ) → Closed q (entries_at inner b s n q)) →
            Closed at (after_entry b s (entries_at inner b s n) x)
        cases none h more = tt
        cases (some x) h more =
            let q = skip_space s x.after in
            closed_from at q (close_or b s (entries_at inner b s n) q) (through_then s h (space_over x.after))
            (more_over (entries_at inner b s n) more q)

    bracketed_over : (at : ℕ) → Closed at (nested_at inner b s at)
    unfolding nested_at
    bracketed_over at =
        let q = skip_space s at in
        either (Closed at) (eqb (octet_at s q) (closing b)) (λ t d. (space_over at).same d ∙ close_over b q t d)
        (λ _. closed_from at q (entries_at inner b s (length s) q) (space_over at) (entries_over (length s) q))

  -- Values, by their levels.
  value_answered : (l at : ℕ) → Answered at (value_at l s at)
  unfolding value_at
  value_answered zero at = value_over (λ b q. nothing) (λ b q. tt) at
  value_answered (suc l) at =
      value_over (λ b q. nested_at (value_at l s) b s q) (bracketed_over (value_at l s) (value_answered l)) at

  nested_closed : (l : ℕ) (b : Bracket) (at : ℕ) → Closed at (nested_within l b s at)
  unfolding nested_within
  nested_closed zero b at = tt
  nested_closed (suc l) b at = bracketed_over (value_at l s) (value_answered l) b at

-- The kind of an object or an array is its bracket's.
module _ (b : Bracket) (s : List ℕ) where
  abbrev Kinded : Answer → Type 0
  Kinded nothing = Unit {0}
  Kinded (found e k) = k ≡ kind_nested b

  entries_kind : (inner : ℕ → Answer) (n at : ℕ) → Kinded (entries_at inner b s n at)
  unfolding entries_at
  entries_kind inner zero at = tt
  entries_kind inner (suc n) at = cases (entry_at inner b s at) (entries_kind inner n)
    where
      cases : (x : Option Entry) → ((q : ℕ) → Kinded (entries_at inner b s n q)) →
          Kinded (after_entry b s (entries_at inner b s n) x)
      cases none more = tt
      cases (some x) more =
          let q = skip_space s x.after in
          either Kinded (eqb (octet_at s q) (closing b)) (λ _. refl) λ _.
          either Kinded (eqb (octet_at s q) comma) (λ _. more (skip_space s (step s q))) (λ _. tt)

  nested_kind : (l at : ℕ) → Kinded (nested_within l b s at)
  unfolding nested_within nested_at
  nested_kind zero at = tt
  nested_kind (suc l) at =
      let q = skip_space s at in
      either Kinded (eqb (octet_at s q) (closing b)) (λ _. refl) (λ _. entries_kind (value_at l s) (length s) q)

-- What is shown, for every text, position and number of levels.

pub past_nested_lem : (l : ℕ) (b : Bracket) (s : List ℕ) (at e k : ℕ) → nested_within l b s at ≡ found e k →
    past_nested s at ≡ e
past_nested_lem l b s at e k h = subst (Closed s at) h (nested_closed s l b at) 0

pub kind_nested_lem : (l : ℕ) (b : Bracket) (s : List ℕ) (at e k : ℕ) → nested_within l b s at ≡ found e k →
    k ≡ kind_nested b
kind_nested_lem l b s at e k h = subst (Kinded b s) h (nested_kind b s l at)
