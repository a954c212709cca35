-- The reader's entries are the parser's: over a reader and a parser of values that agree, one entry and all entries
-- up to the closing bracket agree too, and so do their rows.
use mathlib.Core.Path.{◌≡◌, refl, sym, ap, subst, subst₂}
use mathlib.Core.List.{List, [], ◌∷◌}
use mathlib.Core.Bool.{Bool, true, false, cond}
use Prim.Native.Nat.{ℕ, zero, suc, ◌+◌, ◌-◌, ◌≤◌}
use native.Mathlib.Omega.{arith}
use lib.ListN.{length}
use lib.Dec.{eqb, eqb→eq}
use Rattle.grammar.specs.Grammar.{comma, is_space, Bracket, curly, square, closing}
use Rattle.grammar.specs.Places.{start_of, size_of, kind_of, kind_nested, Member}
use Rattle.grammar.specs.Strings.{paired}
use Rattle.grammar.specs.Reader.{octet_at, step, skip_space, Answer, nothing, found, entry_of, value_after, entry_at}
use Rattle.grammar.specs.Reader.{close_or, after_entry, entries_at, rows_after, rows_at}
use Rattle.grammar.proofs.Parse.{At, at, Got, failed, got, then, true→T, scan, Node, Inside, Head, inside_last}
use Rattle.grammar.proofs.Parse.{inside_more, go_on_lem, read_label, entries}
use Rattle.grammar.proofs.Scan.{no_got, got_val, got_at, scanned}
use Rattle.grammar.proofs.Positions.{Rest, octet_nil, octet_cons, rest_next, step_cons, skip_scan, rest_scan}
use Rattle.grammar.proofs.ReadLabels.{name_or, row_of, rows_of, answer_of, Matches, Agrees, rest_length, skip_forward}
use Rattle.grammar.proofs.ReadLabels.{before_of, label_same, label_rest}

-- Entries

abbrev pub closed_of : (b : Bracket) → Got (Inside b) → Answer
closed_of b failed = nothing
closed_of b (got es st) = found st.pos (kind_nested b)

-- What the parser gave for entries that begin at q: the reader's rows, and the rest of the text.
pub record Entered (s : List ℕ) (b : Bracket) (q : ℕ) (rows : List Member) (es : Inside b) (st : At) : Type 0 where
  pub forward : q ≤ st.pos
  pub rest : Rest s st.pos st.rest
  pub rows_same : rows ≡ rows_of es.parts

pub record EntriesMatch (s : List ℕ) (b : Bracket) (q : ℕ) (a : Answer) (rows : List Member)
    (g : Got (Inside b)) : Type 0 where
  pub same : a ≡ closed_of b g
  pub entered : (es : Inside b) (st : At) → g ≡ got es st → Entered s b q rows es st

none_entered : (s : List ℕ) (b : Bracket) (q : ℕ) {rows : List Member} (es : Inside b) (st : At) →
    ◌≡◌ {A = Got (Inside b)} failed (got es st) → Entered s b q rows es st
none_entered s b q es st e = absurd (no_got e)

pub closing_end : (b : Bracket) → eqb 256 (closing b) ≡ false
closing_end curly = refl
closing_end square = refl

comma_not_closing : (b : Bracket) (c : ℕ) → eqb c comma ≡ true → eqb c (closing b) ≡ false
comma_not_closing curly c e = ap (λ z. eqb z 125) (eqb→eq c comma (true→T (eqb c comma) e))
comma_not_closing square c e = ap (λ z. eqb z 93) (eqb→eq c comma (true→T (eqb c comma) e))

module _ (s : List ℕ) (inner : ℕ → Answer) (read : At → Got Node) (ag : Agrees s inner read) (K : ℕ) (b : Bracket) where
  abbrev Match : ℕ → ℕ → Got (Inside b) → Type 0
  Match k q g = EntriesMatch s b q (entries_at inner b s k q) (rows_at inner b s k q) g

  -- After an entry whose row is `row`: the position m has passed the space behind its value.
  module _ (k : ℕ) (others : At → Got (Inside b)) (ih : (q : ℕ) (u : List ℕ) → Rest s q u → Match k q (others (at q u)))
      (h : Head b) (v : Node) (q : ℕ) where
    after_value : (m : ℕ) (w : List ℕ) → Rest s m w → q ≤ m →
        EntriesMatch s b q (close_or b s (entries_at inner b s k) m)
        (row_of h.name v.placed
        ∷ cond (eqb (octet_at s m) comma) (rows_at inner b s k (skip_space s (step s m))) [])
        (go_on_lem others h v m w)
    unfolding go_on_lem rows_of
    after_value m [] r f = record {
      same = rw (octet_nil r, closing_end b);
      entered = none_entered s b q;
    }
    after_value m (c ∷ w) r f =
        let here = scan is_space (suc m) w in
        rw (octet_cons r, step_cons r, skip_scan is_space (rest_next r))
        (go (eqb c comma) (eqb c (closing b)) (comma_not_closing b c)
        (ih here.pos here.rest (rest_scan is_space (rest_next r))))
      where
        here : At
        here = scan is_space (suc m) w

        passes : m ≤ here.pos
        passes = let e = (scanned is_space (suc m) w).ends in omega arith

        more_match : (g : Got (Inside b)) → Match k here.pos g →
            EntriesMatch s b q (entries_at inner b s k here.pos)
            (row_of h.name v.placed ∷ rows_at inner b s k here.pos)
            (then g (λ es st. got (inside_more h v es) st))
        more_match failed x = record { same = x.same; entered = none_entered s b q }
        more_match (got es st) x =
            let y = x.entered es st refl in
            let z : Entered s b q (row_of h.name v.placed ∷ rows_at inner b s k here.pos)
            (inside_more h v es) st =
            record {
              forward = omega (arith, y.forward, passes);
              rest = y.rest;
              rows_same = ap (λ rs. row_of h.name v.placed ∷ rs) y.rows_same;
            } in
            record {
              same = x.same;
              entered = λ es' st' e. subst₂ (Entered s b q _) (got_val e) (got_at e) z;
            }

        go : (a d : Bool) → (a ≡ true → d ≡ false) → Match k here.pos (others here) →
            EntriesMatch s b q
            (cond d (found (suc m) (kind_nested b)) (cond a (entries_at inner b s k here.pos) nothing))
            (row_of h.name v.placed ∷ cond a (rows_at inner b s k here.pos) [])
            (elim a as (λ x. Got (Inside b)) [
              | true ↦ then (others here) (λ es st. got (inside_more h v es) st)
              | false ↦
                  elim d as (λ x. Got (Inside b)) [ true ↦ got (inside_last h v) (at (suc m) w) | false ↦ failed ]
            ])
        go true true e x =
            let z : ◌≡◌ {A = ℕ} 0 1 = (let y : ◌≡◌ {A = Bool} true false = e refl in cc) in absurd (omega arith)
        go true false e x = more_match (others here) x
        go false true e x = record {
          same = refl;
          entered = λ es st p.
              subst₂ (Entered s b q _) (got_val p) (got_at p)
              (record { forward = omega (arith, f); rest = rest_next r; rows_same = refl });
        }
        go false false e x = record { same = refl; entered = none_entered s b q }

  row_path : (h : Head b) (v : Node) {a c : ℕ} → start_of v.placed ≡ a → size_of v.placed ≡ c →
      row_of h.name v.placed
      ≡ record {
        name_start = (name_or h.name).start;
        name_size = (name_or h.name).size;
        value_start = a;
        value_size = c;
        kind = kind_of v.placed;
      }
  row_path h v p q i = record {
    name_start = (name_or h.name).start;
    name_size = (name_or h.name).size;
    value_start = p i;
    value_size = q i;
    kind = kind_of v.placed;
  }

  -- One entry, and what follows it.
  entry_match : (k : ℕ) → ((q : ℕ) (u : List ℕ) → Rest s q u → Match k q (entries paired b read K k (at q u))) →
      (q : ℕ) (u : List ℕ) → Rest s q u → length s ≤ K → Match (suc k) q (entries paired b read K (suc k) (at q u))
  unfolding entries_at rows_at entry_at entries
  entry_match k ih q u r f =
      rw (label_same s b K q u r (omega (arith, rest_length r))) (from_label (read_label paired b K (at q u)) refl)
    where
      from_value : (h : Head b) (st₁ : At) → Rest s st₁.pos st₁.rest → q ≤ st₁.pos → (g : Got Node) →
          Matches s st₁.pos (inner st₁.pos) g →
          EntriesMatch s b q
          (after_entry b s (entries_at inner b s k) (entry_of (name_or h.name) st₁.pos (answer_of g)))
          (rows_after s (rows_at inner b s k) (entry_of (name_or h.name) st₁.pos (answer_of g)))
          (then g (λ v st₂. go_on_lem (λ st₃. entries paired b read K k st₃) h v st₂.pos st₂.rest))
      from_value h st₁ r₁ f₁ failed x = record { same = refl; entered = none_entered s b q }
      from_value h st₁ r₁ f₁ (got v st₂) x =
          let y = x.valued v st₂ refl in
          let e = y.starts in
          let p : start_of v.placed + size_of v.placed - st₁.pos ≡ size_of v.placed = omega arith in
          let F = skip_forward is_space s (start_of v.placed + size_of v.placed) in
          let G = y.after in
          subst₂
          (λ m row. EntriesMatch s b q (close_or b s (entries_at inner b s k) m)
          (row ∷ cond (eqb (octet_at s m) comma) (rows_at inner b s k (skip_space s (step s m))) [])
          (go_on_lem (λ st₃. entries paired b read K k st₃) h v st₂.pos st₂.rest))
          y.after
          (row_path h v e (sym p))
          (after_value k (λ st₃. entries paired b read K k st₃) ih h v q st₂.pos st₂.rest y.rest (omega arith))

      from_label : (g : Got (Head b)) → read_label paired b K (at q u) ≡ g →
          EntriesMatch s b q
          (after_entry b s (entries_at inner b s k) (value_after inner (before_of g)))
          (rows_after s (rows_at inner b s k) (value_after inner (before_of g)))
          (then g (λ h st₁. then (read st₁)
          (λ v st₂. go_on_lem (λ st₃. entries paired b read K k st₃) h v st₂.pos st₂.rest)))
      from_label failed e = record { same = refl; entered = none_entered s b q }
      from_label (got h st₁) e =
          let r₁ = label_rest s b K q u r e in
          let m = ag st₁.pos st₁.rest r₁.0 in
          subst
          (λ a. EntriesMatch s b q
          (after_entry b s (entries_at inner b s k) (entry_of (name_or h.name) st₁.pos a))
          (rows_after s (rows_at inner b s k) (entry_of (name_or h.name) st₁.pos a))
          (then (read st₁) (λ v st₂. go_on_lem (λ st₃. entries paired b read K k st₃) h v st₂.pos st₂.rest)))
          (sym m.same)
          (from_value h st₁ r₁.0 r₁.1 (read st₁) m)

  -- All entries, up to the closing bracket.
  pub entries_match : (k q : ℕ) (u : List ℕ) → Rest s q u → length s ≤ K →
      Match k q (entries paired b read K k (at q u))
  unfolding entries_at rows_at entries
  entries_match zero q u r f = record { same = refl; entered = none_entered s b q }
  entries_match (suc k) q u r f = entry_match k (λ q' u' r'. entries_match k q' u' r' f) q u r f
