-- The reader of values agrees with the parser at every number of levels: by induction on the levels.
use mathlib.Core.Path.{◌≡◌, refl, sym, ap, subst, subst₂, ◌∙◌}
use mathlib.Core.List.{List, [], ◌∷◌}
use mathlib.Core.Bool.{Bool, true, false, not, cond}
use Prim.Native.Nat.{ℕ, zero, suc, ◌+◌, ◌-◌, ◌≤◌}
use native.Mathlib.Omega.{arith}
use lib.ListN.{length}
use lib.Dec.{T, eqb, eqb→eq}
use Rattle.grammar.specs.Grammar.{quote, is_space, letters, Literal, literal-true, literal-false, literal-null}
use Rattle.grammar.specs.Grammar.{Bracket, curly, square, opening, closing, Value, string, number, literal}
use Rattle.grammar.specs.Places.{start_of, size_of, kind_of, parts_of, kind_nested, kind_literal, Member}
use Rattle.grammar.specs.Strings.{paired}
use Rattle.grammar.specs.Reader.{octet_at, step, skip_space, End, string_at, number_at, word_at, Answer, nothing, found}
use Rattle.grammar.specs.Reader.{of_kind, entries_at, rows_at, nested_at, rows_in, is_number_start, value_with, value_at}
use Rattle.grammar.proofs.Parse.{At, at, Got, failed, got, then, or_else, true→T, scan, word, read_num, read_string}
use Rattle.grammar.proofs.Parse.{lead, lead_nested, lead-string, lead-number, lead_literal, lead_none, Node}
use Rattle.grammar.proofs.Parse.{Inside, leaf, nest_of, empty_of, entries, bracketed, start, begin, value}
use Rattle.grammar.proofs.Scan.{all, no_got, got_val, got_at, Spelled, scanned, word_inv}
use Rattle.grammar.proofs.Numbers.{num_sound}
use Rattle.grammar.proofs.Complete.{closed_first}
use Rattle.grammar.proofs.Positions.{Rest, octet_nil, octet_cons, rest_next, step_cons, stays, skip_scan}
use Rattle.grammar.proofs.Positions.{rest_scan, end_of, word_ends, number_ends}
use Rattle.grammar.proofs.ScanStrings.{string_ends}
use Rattle.grammar.proofs.ReadLabels.{rows_of, Valued, Matches, Agrees, rest_length, string_sound}
use Rattle.grammar.proofs.ReadEntries.{EntriesMatch, closing_end, entries_match}

-- Strings, numbers and literals

leaf_match : {A : Type 0} (s : List ℕ) (n : ℕ) (g : Got A) (f : A → Value) (k : ℕ) {e : End} → e ≡ end_of g →
    ((a : A) (st : At) → g ≡ got a st → Rest s st.pos st.rest × (n ≤ st.pos)) →
    Matches s n (of_kind k e) (then g (leaf n f (λ a. k)))
leaf_match s n failed f k p q = record { same = ap (of_kind k) p; valued = λ v st e. absurd (no_got e) }
leaf_match s n (got a st) f k p q =
    let r = q a st refl in
    let x : n + (st.pos - n) ≡ st.pos = omega (arith, r.1) in
    record {
      same = ap (of_kind k) p ∙ ap (λ z. found z k) (sym x);
      valued = λ v st' e. subst₂ (Valued s n) (got_val e) (got_at e) (record {
        starts = refl;
        after = sym (skip_scan is_space r.0) ∙ ap (skip_space s) (sym x);
        rest = rest_scan is_space r.0;
      });
    }

spelled_rest : {leaves s : List ℕ} {n : ℕ} {t : List ℕ} {st : At} → Rest s n t → Spelled leaves n t st →
    Rest s st.pos st.rest × (n ≤ st.pos)
spelled_rest r x = (stays r x, omega (arith, x.ends))

-- Objects and arrays

-- What the parser gave for an object or an array that begins at n, with the reader's rows.
pub record NestMatch (s : List ℕ) (n : ℕ) (a : Answer) (rows : List Member) (g : Got Node) : Type 0 where
  pub matches : Matches s n a g
  pub rows_same : (v : Node) (st : At) → g ≡ got v st → rows ≡ rows_of (parts_of v.placed)

no_nest : (s : List ℕ) (n : ℕ) {rows : List Member} → NestMatch s n nothing rows failed
no_nest s n = record {
  matches = record { same = refl; valued = λ v st e. absurd (no_got e) };
  rows_same = λ v st e. absurd (no_got e);
}

-- What the parser gave up to a position behind the closing bracket.
close_match : (s : List ℕ) (n : ℕ) (b : Bracket) {rows : List Member} (v : Node) (st : At) → n ≤ st.pos →
    Rest s st.pos st.rest → start_of v.placed ≡ n → size_of v.placed ≡ st.pos - n →
    kind_of v.placed ≡ kind_nested b → rows ≡ rows_of (parts_of v.placed) →
    NestMatch s n (found st.pos (kind_nested b)) rows (got v (scan is_space st.pos st.rest))
close_match s n b {rows} v st f r p q k rs =
    let x : start_of v.placed + size_of v.placed ≡ st.pos = omega arith in
    record {
      matches = record {
        same = λ i. found (sym x i) (sym k i);
        valued = λ v' st' e. subst₂ (Valued s n) (got_val e) (got_at e) (record {
          starts = p;
          after = sym (skip_scan is_space r) ∙ ap (skip_space s) (sym x);
          rest = rest_scan is_space r;
        });
      };
      rows_same = λ v' st' e. subst (λ z. rows ≡ rows_of (parts_of z.placed)) (got_val e) rs;
    }

inside_match : (s : List ℕ) (n q : ℕ) (b : Bracket) {a : Answer} {rows : List Member} (g : Got (Inside b)) → n ≤ q →
    EntriesMatch s b q a rows g → NestMatch s n a rows (then g (nest_of b n))
inside_match s n q b {a} {rows} failed f m = subst (λ z. NestMatch s n z rows failed) (sym m.same) (no_nest s n)
inside_match s n q b {a} {rows} (got es st) f m =
    let y = m.entered es st refl in
    subst (λ z. NestMatch s n z rows (nest_of b n es st)) (sym m.same)
    (close_match s n b _ st (omega (arith, y.forward)) y.rest refl refl refl y.rows_same)

or_failed : {A : Type 0} (g : Got A) → g ≡ or_else g failed
or_failed failed = refl
or_failed (got a st) = refl

module _ (s : List ℕ) (l : ℕ) (ag : Agrees s (value_at l s) (value paired l (length s))) (b : Bracket) (n : ℕ) where
  abbrev inside_of : ℕ → List ℕ → Got (Inside b)
  inside_of q u = entries paired b (value paired l (length s)) (length s) (length s) (at q u)

  -- At q, past the space behind the opening bracket.
  bracket_match : (q : ℕ) (u : List ℕ) → Rest s q u → n ≤ q →
      NestMatch s n
      (cond (eqb (octet_at s q) (closing b)) (found (step s q) (kind_nested b))
      (entries_at (value_at l s) b s (length s) q))
      (cond (eqb (octet_at s q) (closing b)) [] (rows_at (value_at l s) b s (length s) q))
      (or_else (then (inside_of q u) (nest_of b n)) (then (word (closing b ∷ []) q u) (empty_of b n)))
  unfolding word rows_of
  bracket_match q [] r f =
      rw (octet_nil r, closing_end b)
      (subst (NestMatch s n _ _) (or_failed (then (inside_of q []) (nest_of b n)))
      (inside_match s n q b (inside_of q []) f
      (entries_match s (value_at l s) (value paired l (length s)) ag (length s) b (length s) q [] r (omega arith))))
  bracket_match q (c ∷ u) r f = rw (octet_cons r, step_cons r) (go (eqb c (closing b)) refl)
    where
      go : (d : Bool) → eqb c (closing b) ≡ d →
          NestMatch s n
          (cond d (found (suc q) (kind_nested b)) (entries_at (value_at l s) b s (length s) q))
          (cond d [] (rows_at (value_at l s) b s (length s) q))
          (or_else
          (then (inside_of q (c ∷ u)) (nest_of b n))
          (then {A = Unit {0}}
          (elim d as (λ z. Got (Unit {0})) [ true ↦ got tt (at (suc q) u) | false ↦ failed ]) (empty_of b n)))
      go true e =
          let x : c ≡ closing b = eqb→eq c (closing b) (true→T (eqb c (closing b)) e) in
          let y : inside_of q (c ∷ u) ≡ failed =
          ap (λ z. inside_of q (z ∷ u)) x ∙ closed_first paired l (length s) (length s) q b u in
          subst
          (λ g. NestMatch s n (found (suc q) (kind_nested b)) []
          (or_else (then g (nest_of b n)) (empty_of b n tt (at (suc q) u))))
          (sym y)
          (close_match s n b _ (at (suc q) u) (omega arith) (rest_next r) refl refl refl refl)
      go false e =
          subst (NestMatch s n _ _) (or_failed (then (inside_of q (c ∷ u)) (nest_of b n)))
          (inside_match s n q b (inside_of q (c ∷ u)) f
          (entries_match s (value_at l s) (value paired l (length s)) ag (length s) b (length s) q (c ∷ u) r
          (omega arith)))

  -- Past the opening bracket, which stands at n.
  pub nested_match : (t : List ℕ) → Rest s (suc n) t →
      NestMatch s n (nested_at (value_at l s) b s (suc n)) (rows_in (value_at l s) b s (suc n))
      (bracketed paired (value paired l (length s)) (length s) b n (scan is_space (suc n) t))
  unfolding nested_at rows_in bracketed
  nested_match t r =
      let e = (scanned is_space (suc n) t).ends in
      rw (skip_scan is_space r)
      (bracket_match (scan is_space (suc n) t).pos (scan is_space (suc n) t).rest (rest_scan is_space r) (omega arith))

-- Values

module _ (s : List ℕ) (nest : Bracket → ℕ → Answer) (nestP : Bracket → ℕ → At → Got Node)
    (na : (b : Bracket) (n : ℕ) (t : List ℕ) → Rest s (suc n) t →
    Matches s n (nest b (suc n)) (nestP b n (scan is_space (suc n) t))) where
  with_match : (n : ℕ) (t : List ℕ) → Rest s n t →
      Matches s n (value_with nest s n (octet_at s n)) (begin paired nestP (length s) n t)
  unfolding value_with begin start lead
  with_match n [] r = rw (octet_nil r) (record { same = refl; valued = λ v st e. absurd (no_got e) })
  with_match n (c ∷ t) r =
      rw (octet_cons r, step_cons r)
      (go (eqb c (opening curly)) (eqb c (opening square)) (eqb c quote) (eqb c 116) (eqb c 102) (eqb c 110)
      (is_number_start c))
    where
      word_match : (x : Literal) → T (all (λ d. not (eqb 256 d)) (letters x)) →
          Matches s n (of_kind (kind_literal x) (word_at (letters x) s n))
          (then (word (letters x) n (c ∷ t)) (leaf n (λ u. literal x) (λ u. kind_literal x)))
      word_match x f =
          leaf_match s n (word (letters x) n (c ∷ t)) (λ u. literal x) (kind_literal x) (word_ends (letters x) f r)
          (λ a st e. spelled_rest r (word_inv (letters x) n (c ∷ t) e))

      go : (o a q x y z d : Bool) →
          Matches s n
          (cond o (nest curly (suc n))
          (cond a (nest square (suc n))
          (cond q (of_kind 2 (string_at s n))
          (cond x (of_kind 4 (word_at (letters literal-true) s n))
          (cond y (of_kind 5 (word_at (letters literal-false) s n))
          (cond z (of_kind 6 (word_at (letters literal-null) s n))
          (cond d (of_kind 3 (number_at s n)) nothing)))))))
          (start paired nestP (length s)
          (cond o (lead_nested curly)
          (cond a (lead_nested square)
          (cond q lead-string
          (cond x (lead_literal literal-true)
          (cond y (lead_literal literal-false)
          (cond z (lead_literal literal-null)
          (cond d lead-number lead_none)))))))
          n (c ∷ t) (suc n) t)
      go true a q x y z d = na curly n t (rest_next r)
      go false true q x y z d = na square n t (rest_next r)
      go false false true x y z d =
          leaf_match s n (read_string paired (length s) n (c ∷ t)) string 2 (string_ends (length s) r (rest_length r))
          (λ v st e. spelled_rest r (string_sound paired (length s) n (c ∷ t) e).0)
      go false false false true y z d = word_match literal-true tt
      go false false false false true z d = word_match literal-false tt
      go false false false false false true d = word_match literal-null tt
      go false false false false false false true =
          leaf_match s n (read_num n (c ∷ t)) number 3 (number_ends r) (λ v st e. spelled_rest r (num_sound n (c ∷ t) e))
      go false false false false false false false = record { same = refl; valued = λ v st e. absurd (no_got e) }

-- The reader of values agrees with the parser.
pub value_agrees : (s : List ℕ) (l : ℕ) → Agrees s (value_at l s) (value paired l (length s))
unfolding value_at value
value_agrees s zero n t r =
    with_match s (λ b p. nothing) (λ b m st. failed)
    (λ b m u q. record { same = refl; valued = λ v st e. absurd (no_got e) }) n t r
value_agrees s (suc l) n t r =
    with_match s (λ b p. nested_at (value_at l s) b s p) (bracketed paired (value paired l (length s)) (length s))
    (λ b m u q. (nested_match s l (value_agrees s l) b m u q).matches) n t r
