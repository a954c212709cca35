-- In a text that reads where brackets open, seeking an end is reading it; and whoever has read an object or an array
-- knows that what opens in it reads.
use mathlib.Core.Path.{◌≡◌, refl, ap, sym, subst, subst₂, ◌∙◌}
use mathlib.Core.Bool.{Bool, true, false, ◌&&◌, cond}
use mathlib.Core.List.{List}
use mathlib.Core.Option.{Option, none, some}
use Prim.Native.Nat.{ℕ, zero, suc, ◌-◌, ◌<◌}
use native.Mathlib.Omega.{arith}
use lib.ListN.{length}
use lib.Dec.{eqb}
use borrow.Author.Tests.{eqb-true}
use Rattle.grammar.specs.Grammar.{quote, comma, letter_t, letter_f, letter_n, literal-true, literal-false, literal-null}
use Rattle.grammar.specs.Grammar.{letters, Bracket, curly, square, opening, closing}
use Rattle.grammar.specs.Places.{kind_nested}
use Rattle.grammar.specs.Reader.{octet_at, step, skip_space, End, refused, ended, string_at, number_at, word_at, Answer}
use Rattle.grammar.specs.Reader.{nothing, found, of_kind, Before, before_at, entry_of, value_after, entry_at, close_or}
use Rattle.grammar.specs.Reader.{after_entry, entries_at, nested_at, is_number_start, value_with, value_at, nested_within}
use Rattle.grammar.specs.Reader.{wholly, read_text}
use Rattle.grammar.specs.Utf8.{utf8}
use Rattle.grammar.proofs.Endings.{either}
use Rattle.grammar.proofs.Here.{octet_end}
use Rattle.grammar.proofs.Turns.{value_is, value_object, value_array}
use Rattle.skip.specs.Inner.Past.{past_nested}
use Rattle.skip.proofs.Law.{past_nested_lem, kind_nested_lem}
use Rattle.json_read.specs.Inner.Ends.{value_in}
use Rattle.json_read.specs.Members.{first_in, next_from}
use Rattle.json_read.specs.declared.Position.{Position}
use Rattle.json_read.specs.declared.member.Row.{Row}
use Rattle.json_read.specs.Inner.Known.{Given, Known, KnownEntry, KnownNext, KnownFrom, KnownIn}
use Rattle.json_read.proofs.Levels.{not_found, value_more}
use Rattle.json_read.proofs.StringParts.{string_not}
use Rattle.json_read.proofs.ValueParts.{name_refused, element_here}
use Rattle.json_read.proofs.MemberRows.{Read, outside, closed}

pub given_map : {P Q : Type 0} (b : Bool) → (P → Q) → Given b P → Given b Q
given_map true f p = f p
given_map false f p = tt

-- Seeking is reading

module _ (l : ℕ) (s : List ℕ) (at c : ℕ) (hc : c ≡ octet_at s at) (known : Known l s at) where
  -- p is behind the opening bracket.
  sought : (b : Bracket) (p : ℕ) → c ≡ opening b → nested_within l b s p ≡ value_at l s at →
      found (past_nested s p) (kind_nested b) ≡ value_at l s at
  sought b p o same = cases (nested_within l b s p) refl
    where
      cases : (r : Answer) → nested_within l b s p ≡ r → found (past_nested s p) (kind_nested b) ≡ value_at l s at
      cases nothing e = absurd (known b (sym hc ∙ o) (sym same ∙ e))
      cases (found e k) h =
          ap (λ n. found n (kind_nested b)) (past_nested_lem l b s p e k h)
          ∙ ap (found e) (sym (kind_nested_lem l b s p e k h)) ∙ sym h ∙ same

  pub sought_object : c ≡ opening curly → (p e : ℕ) → p ≡ step s at → e ≡ past_nested s p → found e 0 ≡ value_at l s at
  sought_object o p e h g = ap (λ n. found n 0) g ∙ sought curly p o (value_object s l at c hc p o h)

  pub sought_array : (c ≡ opening curly → ⊥) → c ≡ opening square → (p e : ℕ) → p ≡ step s at → e ≡ past_nested s p →
      found e 1 ≡ value_at l s at
  sought_array n o p e h g = ap (λ n. found n 1) g ∙ sought square p o (value_array s l at c hc n p o h)

-- What is known of entries

module _ (b : Bracket) (l : ℕ) (s : List ℕ) where
  pub known_entry : (n at : ℕ) → 0 < n → KnownFrom b l s n at → KnownEntry b l s at
  unfolding KnownFrom
  known_entry zero at h k = absurd (omega arith)
  known_entry (suc n) at h k = k.0

  -- From the first entry on, and from the next one, as the code finds them.

  pub known_first : (at p q : ℕ) → p ≡ step s at → q ≡ skip_space s p → KnownIn b l s at → KnownFrom b l s (length s) q
  known_first at p q e f = subst (KnownFrom b l s (length s)) (sym (f ∙ ap (skip_space s) e))

  pub known_next : (n at : ℕ) → 0 < n → {row : Row} {next : Position} →
      Read s (entry_at (value_at l s) b s at) row next → KnownFrom b l s n at → KnownFrom b l s (n - 1) next.at
  unfolding KnownFrom
  known_next zero at h r k = absurd (omega arith)
  known_next (suc n) at h {row} {next} r k =
      let p : n ≡ suc n - 1 = omega arith in
      subst₂ (λ m z. KnownFrom b l s m z) p (sym r.on) (subst (KnownNext s (KnownFrom b l s n)) r.is k.1)

-- An element is its value.
pub known_element : (l : ℕ) (s : List ℕ) (n at : ℕ) → 0 < n → KnownFrom square l s n at → Known l s at
known_element l s n at h k = known_entry square l s n at h k at (element_here s at)

-- Whoever has read knows

no_refused : {e : ℕ} → refused ≡ ended e → ⊥
no_refused p = let z : ◌≡◌ {A = ℕ} 0 1 = cc in omega arith

-- What ends entries: nothing is read there.
module _ (l : ℕ) (s : List ℕ) (at c : ℕ) (hc : c ≡ octet_at s at) where
  -- An octet with which no string, no object and no array begins.
  abbrev Ends : Type 0
  Ends = (c ≡ quote → ⊥) × ((b : Bracket) → c ≡ opening b → ⊥)

  stop_entry : Ends → (b : Bracket) → KnownEntry b l s at
  unfolding before_at
  stop_entry f curly v e =
      absurd (no_refused (sym (name_refused s at (sym (string_not s at (λ q. f.0 (hc ∙ q))))) ∙ e))
  stop_entry f square v e =
      let p : at ≡ v = cc in
      λ b o. absurd (f.1 b (hc ∙ ap (octet_at s) p ∙ o))

  stop_from : Ends → (b : Bracket) (n : ℕ) → entry_at (value_at l s) b s at ≡ none → KnownFrom b l s n at
  unfolding KnownFrom
  stop_from f b zero e = tt
  stop_from f b (suc n) e = (stop_entry f b, subst (KnownNext s (KnownFrom b l s n)) (sym e) tt)

end_ends : (b : Bracket) → 256 ≡ opening b → ⊥
end_ends curly e = omega arith
end_ends square e = omega arith

closing_ends : (b c : Bracket) → closing b ≡ opening c → ⊥
closing_ends curly curly e = omega arith
closing_ends curly square e = omega arith
closing_ends square curly e = omega arith
closing_ends square square e = omega arith

closing_no_quote : (b : Bracket) → closing b ≡ quote → ⊥
closing_no_quote curly e = omega arith
closing_no_quote square e = omega arith

closing_no_comma : (b : Bracket) → eqb (closing b) comma ≡ false
closing_no_comma curly = refl
closing_no_comma square = refl

module _ (b : Bracket) (s : List ℕ) where
  known_end : (l n : ℕ) → KnownFrom b l s n (length s)
  known_end l n =
      let e = octet_end s (length s) (omega arith) in
      stop_from l s (length s) 256 e (λ q. omega arith, end_ends) b n (outside b s l (length s) 256 e refl)

  known_closing : (l n at : ℕ) → octet_at s at ≡ closing b → KnownFrom b l s n at
  known_closing l n at e =
      stop_from l s at (closing b) (sym e) (closing_no_quote b, closing_ends b) b n
      (closed b s l at (closing b) (sym e) refl)

  -- The entries of what has been read: with a level more.
  module _ (l : ℕ) where
    behind_entry : (n e : ℕ) → ((q : ℕ) → (entries_at (value_at l s) b s n q ≡ nothing → ⊥) → KnownFrom b (suc l) s n q) →
        (close_or b s (entries_at (value_at l s) b s n) (skip_space s e) ≡ nothing → ⊥) →
        KnownFrom b (suc l) s n (next_from s e)
    unfolding next_from
    behind_entry n e later =
        let q = skip_space s e in
        let P : Answer → Type 0 = λ z. (z ≡ nothing → ⊥) → KnownFrom b (suc l) s n (next_from s e) in
        either P (eqb (octet_at s q) (closing b))
        (λ t _.
        let none : eqb (octet_at s q) comma ≡ false =
        ap (λ z. eqb z comma) (eqb-true (octet_at s q) (closing b) t) ∙ closing_no_comma b in
        subst (λ z. KnownFrom b (suc l) s n (cond z (skip_space s (step s q)) (length s))) (sym none)
        (known_end (suc l) n)) λ _.
        either P (eqb (octet_at s q) comma)
        (λ t f. subst (λ z. KnownFrom b (suc l) s n (cond z (skip_space s (step s q)) (length s))) (sym t)
        (later (skip_space s (step s q)) f))
        (λ _ f. absurd (f refl))

    known_entries : (n at : ℕ) → (entries_at (value_at l s) b s n at ≡ nothing → ⊥) → KnownFrom b (suc l) s n at
    unfolding entries_at entry_at KnownFrom
    known_entries zero at f = tt
    known_entries (suc n) at f = cases (before_at b s at) (known_entries n) f
      where
        value : (x : Before) (r : Answer) → value_at l s x.value ≡ r →
            ((q : ℕ) → (entries_at (value_at l s) b s n q ≡ nothing → ⊥) → KnownFrom b (suc l) s n q) →
            (after_entry b s (entries_at (value_at l s) b s n) (entry_of x.name x.value r) ≡ nothing → ⊥) →
            ((v : ℕ) → value_in (some x) ≡ ended v → Known (suc l) s v)
            × KnownNext s (KnownFrom b (suc l) s n) (value_after (value_at (suc l) s) (some x))
        value x nothing e later f = absurd (f refl)
        value x (found e k) h later f =
            let m = value_more l (suc l) s x.value e k (omega arith) h in (
              λ v p o c g.
                  let q : x.value ≡ v = cc in
                  not_found (sym g ∙ ap (value_at (suc l) s) (sym q) ∙ m),
              subst (λ z. KnownNext s (KnownFrom b (suc l) s n) (entry_of x.name x.value z)) (sym m)
                  (behind_entry n e later f),
            )

        cases : (o : Option Before) →
            ((q : ℕ) → (entries_at (value_at l s) b s n q ≡ nothing → ⊥) → KnownFrom b (suc l) s n q) →
            (after_entry b s (entries_at (value_at l s) b s n) (value_after (value_at l s) o) ≡ nothing → ⊥) →
            ((v : ℕ) → value_in o ≡ ended v → Known (suc l) s v)
            × KnownNext s (KnownFrom b (suc l) s n) (value_after (value_at (suc l) s) o)
        cases none later f = absurd (f refl)
        cases (some x) later f = value x (value_at l s x.value) refl later f

  nested_known : (l at e k : ℕ) → nested_within l b s (step s at) ≡ found e k → KnownIn b l s at
  unfolding nested_within nested_at
  nested_known zero at e k h = absurd (not_found h)
  nested_known (suc l) at e k h =
      let q = first_in s at in
      let P : Answer → Type 0 = λ z. z ≡ found e k → KnownFrom b (suc l) s (length s) q in
      either P (eqb (octet_at s q) (closing b))
      (λ t _. known_closing (suc l) (length s) q (eqb-true (octet_at s q) (closing b) t))
      (λ _ g. known_entries l (length s) q (λ z. not_found (sym z ∙ g))) h

-- A value of the kind of an object or an array is one.
module _ (l : ℕ) (s : List ℕ) (at e : ℕ) where
  not_kind : (b : Bracket) (k : ℕ) → 1 < k → (x : End) → of_kind k x ≡ found e (kind_nested b) → ⊥
  not_kind b k h refused p = not_found p
  not_kind curly k h (ended n) p = let q : k ≡ 0 = cc in omega arith
  not_kind square k h (ended n) p = let q : k ≡ 1 = cc in omega arith

  own_kind : (b c : Bracket) → nested_within l c s (step s at) ≡ found e (kind_nested b) →
      nested_within l b s (step s at) ≡ found e (kind_nested b)
  own_kind curly curly h = h
  own_kind curly square h = absurd (omega (arith, kind_nested_lem l square s (step s at) e 0 h))
  own_kind square curly h = absurd (omega (arith, kind_nested_lem l curly s (step s at) e 1 h))
  own_kind square square h = h

  value_opens : (b : Bracket) → value_at l s at ≡ found e (kind_nested b) →
      nested_within l b s (step s at) ≡ found e (kind_nested b)
  unfolding value_with
  value_opens b h =
      let c = octet_at s at in
      let P : Answer → Type 0 = λ z. z ≡ found e (kind_nested b) →
      nested_within l b s (step s at) ≡ found e (kind_nested b) in
      either P (eqb c (opening curly)) (λ _. own_kind b curly) (λ _.
      either P (eqb c (opening square)) (λ _. own_kind b square) λ _.
      either P (eqb c quote) (λ _ g. absurd (not_kind b 2 (omega arith) (string_at s at) g)) λ _.
      either P (eqb c letter_t) (λ _ g. absurd (not_kind b 4 (omega arith) (word_at (letters literal-true) s at) g)) λ _.
      either P (eqb c letter_f) (λ _ g. absurd (not_kind b 5 (omega arith) (word_at (letters literal-false) s at) g)) λ _.
      either P (eqb c letter_n) (λ _ g. absurd (not_kind b 6 (omega arith) (word_at (letters literal-null) s at) g)) λ _.
      either P (is_number_start c) (λ _ g. absurd (not_kind b 3 (omega arith) (number_at s at) g)) λ _ g.
      absurd (not_found g)) (sym (value_is s l at c refl) ∙ h)

-- So in an object or an array that reads, what opens reads.
pub value_known : (b : Bracket) (l : ℕ) (s : List ℕ) (at e : ℕ) → value_at l s at ≡ found e (kind_nested b) →
    KnownIn b l s at
value_known b l s at e h = nested_known b s l at e (kind_nested b) (value_opens l s at e b h)

-- And in a text that reads: it is an object, behind its space.
pub text_known : (l : ℕ) (s : List ℕ) → (read_text l s ≡ nothing → ⊥) → KnownIn curly l s (skip_space s 0)
unfolding read_text
text_known l s f =
    let at = skip_space s 0 in
    let P : Answer → Type 0 = λ z. (z ≡ nothing → ⊥) → KnownIn curly l s at in
    either P (eqb (octet_at s at) (opening curly) && utf8 s)
    (λ t. object (value_at l s at) refl
    (eqb-true (octet_at s at) (opening curly) (both (eqb (octet_at s at) (opening curly)) (utf8 s) t)))
    (λ _ g. absurd (g refl)) f
  where
    both : (a b : Bool) → (a && b) ≡ true → a ≡ true
    both true b e = refl
    both false b e = e

    object : (r : Answer) → value_at l s (skip_space s 0) ≡ r → octet_at s (skip_space s 0) ≡ opening curly →
        (wholly s r ≡ nothing → ⊥) → KnownIn curly l s (skip_space s 0)
    object nothing h c g = absurd (g refl)
    object (found e k) h c g =
        nested_known curly s l (skip_space s 0) e k
        (value_object s l (skip_space s 0) (opening curly) (sym c) (step s (skip_space s 0)) refl refl ∙ h)
