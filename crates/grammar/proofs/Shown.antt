-- The reader shows every part of a reading: at the place of each value in the text it finds that value's end and
-- kind, and its members or elements. By induction on the tree, each subtree standing somewhere in the text.
use mathlib.Core.Path.{◌≡◌, refl, sym, ap, subst, ◌∙◌}
use mathlib.Core.List.{List, ◌∷◌, ◌++◌, append_assoc}
use mathlib.Core.Bool.{◌&&◌}
use Prim.Native.Nat.{ℕ, suc, ◌+◌, ◌≤◌}
use native.Mathlib.Omega.{arith}
use lib.ListN.{length, length-append}
use lib.Dec.{T}
use Rattle.grammar.specs.Grammar.{comma, is_space, octets, Sign, leaves_sign, Literal, literal-true, literal-false}
use Rattle.grammar.specs.Grammar.{literal-null, Bracket, curly, square, opening, closing, Label, Value, nested}
use Rattle.grammar.specs.Grammar.{empty, string, number, literal, Entries, last, more, leaves_label, leaves_value}
use Rattle.grammar.specs.Grammar.{leaves_entries}
use Rattle.grammar.specs.Places.{start_of, size_of, kind_of, parts_of, levels, levels_entries, kind_nested, kind_literal}
use Rattle.grammar.specs.Places.{leading, trailing, place, place_name, Placed, item, Parts, done, part, placed}
use Rattle.grammar.specs.Places.{placed_entries, Member, element_of, members, elements}
use Rattle.grammar.specs.Strings.{paired, every_label, every, every_entries}
use Rattle.grammar.specs.Reader.{step, found, value_at, rows_in, members_at, elements_of, elements_at}
use Rattle.grammar.specs.Shown.{Shown, Everywhere, EverywhereIn}
use Rattle.grammar.proofs.Parse.{At, at, Got, scan, Node, bracketed, start, begin, lead, value}
use Rattle.grammar.proofs.Scan.{both_T, halts, is_number_lem, scan_octets}
use Rattle.grammar.proofs.Complete.{node, sign_onto, sign_halts}
use Rattle.grammar.proofs.Values.{value_read}
use Rattle.grammar.proofs.Positions.{Rest, rest_along, rest_next, step_cons, rest_scan}
use Rattle.grammar.proofs.ReadLabels.{row_of, rows_of, answer_of, rest_length}
use Rattle.grammar.proofs.ReadValues.{nested_match, value_agrees}
use Rattle.grammar.proofs.FirstOctet.{open_skip}

-- Rows

-- What a bracket's rows are to be.
abbrev RowsAre : Bracket → List Member → Parts → Type 0
RowsAre curly rs ps = rs ≡ members ps
RowsAre square rs ps = elements_of rs ≡ elements ps

part_rows : (b : Bracket) (n : ℕ) (l : Label b) (p : Placed) (ps : Parts) → RowsAre b (rows_of ps) ps →
    RowsAre b (rows_of (part (place_name b n l) p ps)) (part (place_name b n l) p ps)
unfolding place_name rows_of members elements elements_of
part_rows curly n l p ps h = ap (λ ms. row_of (place_name curly n l) p ∷ ms) h
part_rows square n l p ps h = ap (λ ms. element_of p ∷ ms) h

done_rows : (b : Bracket) → RowsAre b (rows_of done) done
unfolding rows_of members elements elements_of
done_rows curly = refl
done_rows square = refl

rows_are : {b : Bracket} (es : Entries b) (n : ℕ) → RowsAre b (rows_of (placed_entries n es)) (placed_entries n es)
unfolding placed
rows_are (last {b} l v) n = part_rows b n l _ done (done_rows b)
rows_are (more {b} l v x es) n = part_rows b n l _ _ (rows_are es _)

-- One value

shown_nested : (l : ℕ) (s : List ℕ) (b : Bracket) (m size : ℕ) (ps : Parts) →
    value_at l s m ≡ found (m + size) (kind_nested b) → RowsAre b (rows_in (value_at l s) b s (step s m)) ps →
    Shown l s (item (kind_nested b) (record { start = m; size = size }) ps)
unfolding Shown members_at elements_at
shown_nested l s curly m size ps h r = (h, (λ e. r), (λ e. absurd (omega arith)))
shown_nested l s square m size ps h r = (h, (λ e. absurd (omega arith)), (λ e. r))

shown_other : (l : ℕ) (s : List ℕ) (k m size : ℕ) (ps : Parts) → 2 ≤ k → value_at l s m ≡ found (m + size) k →
    Shown l s (item k (record { start = m; size = size }) ps)
unfolding Shown
shown_other l s k m size ps f h = (h, (λ e. absurd (omega arith)), (λ e. absurd (omega arith)))

literal_kind : (x : Literal) → 2 ≤ kind_literal x
literal_kind literal-true = omega arith
literal_kind literal-false = omega arith
literal_kind literal-null = omega arith

sign_halts_close : (b : Bracket) (y : Sign) (r : List ℕ) → T (halts is_number_lem (leaves_sign (closing b) y ++ r))
sign_halts_close curly y r = sign_halts 125 y r tt
sign_halts_close square y r = sign_halts 93 y r tt

module _ (s : List ℕ) (l : ℕ) where
  pub value_shown_lem : (v : Value) (n : ℕ) (r : List ℕ) → Rest s n (leaves_value v ++ r) → T (halts is_number_lem r) →
      levels v ≤ l → T (every paired v) →
      value_at l s (start_of (placed n v)) ≡ found (start_of (placed n v) + size_of (placed n v)) (kind_of (placed n v))
  value_shown_lem v n r h a d t =
      let here = scan is_space n (leaves_value v ++ r) in
      let L = length-append (leaves_value v) r in
      let K = rest_length h in
      let m = value_agrees s l here.pos here.rest (rest_scan is_space h) in
      let q = value_read paired v l (length s) n r d (omega arith) a t in
      let w = m.valued (node n v) _ q in
      ap (value_at l s) w.starts ∙ m.same ∙ ap answer_of q

  begin_open : (nest : Bracket → ℕ → At → Got Node) (K m : ℕ) (b : Bracket) (Z : List ℕ) →
      begin paired nest K m (opening b ∷ Z) ≡ nest b m (scan is_space (suc m) Z)
  unfolding begin start lead
  begin_open nest K m curly Z = refl
  begin_open nest K m square Z = refl

  -- The rows of an object or an array: a value that begins with the bracket's sign x.
  rows_shown : (v : Value) (b : Bracket) (x : Sign) (Y : List ℕ) (n : ℕ) (r : List ℕ) →
      leaves_value v ≡ leaves_sign (opening b) x ++ Y → Rest s n (leaves_value v ++ r) → T (halts is_number_lem r) →
      levels v ≤ l → T (every paired v) →
      rows_in (value_at l s) b s (step s (n + length (octets x.before))) ≡ rows_of (parts_of (placed n v))
  unfolding value
  rows_shown v b x Y n r e h a d t =
      let m = n + length (octets x.before) in
      let Z = octets x.after ++ (Y ++ r) in
      let L = length-append (leaves_value v) r in
      let K = rest_length h in
      let s_is : leaves_value v ++ r ≡ octets x.before ++ (opening b ∷ Z) =
      ap (λ z. z ++ r) e ∙ append_assoc (leaves_sign (opening b) x) Y r ∙ sign_onto (opening b) x (Y ++ r) in
      let here_is : scan is_space n (leaves_value v ++ r) ≡ at m (opening b ∷ Z) =
      ap (scan is_space n) s_is ∙ scan_octets is_space n x.before (opening b ∷ Z) ∙ open_skip b m Z in
      let rest : Rest s m (opening b ∷ Z) = rest_along (octets x.before) (record { is = h.is ∙ s_is }) in
      let q = value_read paired v (suc l) (length s) n r (omega arith) (omega arith) a t in
      let p : bracketed paired (value paired l (length s)) (length s) b m (scan is_space (suc m) Z) ≡ _ =
      sym (begin_open (bracketed paired (value paired l (length s)) (length s)) (length s) m b Z)
      ∙ ap (λ (st : At). begin paired (bracketed paired (value paired l (length s)) (length s)) (length s) st.pos
      st.rest) (sym here_is)
      ∙ q in
      ap (rows_in (value_at l s) b s) (step_cons rest)
      ∙ (nested_match s l (value_agrees s l) b m Z (rest_next rest)).rows_same (node n v) _ p

  -- Every value in a value

  mutual
    unfolding placed place leading trailing levels leaves_value every Everywhere octets

    pub everywhere : (v : Value) (n : ℕ) (r : List ℕ) → Rest s n (leaves_value v ++ r) → T (halts is_number_lem r) →
        levels v ≤ l → T (every paired v) → Everywhere (Shown l s) (placed n v)
    everywhere (nested b x es y) n r h a d t =
        let m = n + length (leaves_sign (opening b) x) in
        let e : leaves_value (nested b x es y) ++ r
        ≡ leaves_sign (opening b) x ++ (leaves_entries es ++ (leaves_sign (closing b) y ++ r)) =
        append_assoc (leaves_sign (opening b) x) (leaves_entries es ++ leaves_sign (closing b) y) r
        ∙ ap (λ z. leaves_sign (opening b) x ++ z) (append_assoc (leaves_entries es) (leaves_sign (closing b) y) r) in (
          shown_nested l s b _ _ _ (value_shown_lem (nested b x es y) n r h a d t)
              (subst (λ rs. RowsAre b rs (placed_entries m es))
              (sym (rows_shown (nested b x es y) b x _ n r refl h a d t))
              (rows_are es m)),
          everywhere_in es m (leaves_sign (closing b) y ++ r)
              (rest_along (leaves_sign (opening b) x) (record { is = h.is ∙ e })) (sign_halts_close b y r)
              (omega arith) t,
        )
    everywhere (empty b x y) n r h a d t = (
      shown_nested l s b _ _ done (value_shown_lem (empty b x y) n r h a d t)
          (subst (λ rs. RowsAre b rs done) (sym (rows_shown (empty b x y) b x _ n r refl h a d t)) (done_rows b)),
      tt,
    )
    everywhere (string x) n r h a d t =
        (shown_other l s 2 _ _ done (omega arith) (value_shown_lem (string x) n r h a d t), tt)
    everywhere (number x) n r h a d t =
        (shown_other l s 3 _ _ done (omega arith) (value_shown_lem (number x) n r h a d t), tt)
    everywhere (literal x) n r h a d t =
        (shown_other l s _ _ _ done (literal_kind x) (value_shown_lem (literal x) n r h a d t), tt)

    everywhere_in : {b : Bracket} (es : Entries b) (n : ℕ) (Y : List ℕ) → Rest s n (leaves_entries es ++ Y) →
        T (halts is_number_lem Y) → levels_entries es ≤ l → T (every_entries paired es) →
        EverywhereIn (Shown l s) (placed_entries n es)
    everywhere_in (last {b} lab v) n Y h a d t =
        let L = leaves_label b lab in
        let u = both_T (every_label paired b lab) (every paired v) t in (
          everywhere v (n + length L) Y
              (rest_along L (record { is = h.is ∙ append_assoc L (leaves_value v) Y })) a d u.1,
          tt,
        )
    everywhere_in (more {b} lab v x es) n Y h a d t =
        let L = leaves_label b lab in
        let W = leaves_value v in
        let C = leaves_sign comma x in
        let u = both_T (every_label paired b lab) (every paired v && every_entries paired es) t in
        let q = both_T (every paired v) (every_entries paired es) u.1 in
        let e : leaves_entries (more lab v x es) ++ Y ≡ L ++ (W ++ (C ++ (leaves_entries es ++ Y))) = simp append_assoc in
        let f : leaves_entries (more lab v x es) ++ Y
        ≡ (L ++ (W ++ C)) ++ (leaves_entries es ++ Y) = simp append_assoc in (
          everywhere v (n + length L) (C ++ (leaves_entries es ++ Y)) (rest_along L (record { is = h.is ∙ e }))
              (sign_halts comma x (leaves_entries es ++ Y) tt) (omega arith) q.0,
          everywhere_in es (n + length (L ++ (W ++ C))) Y (rest_along (L ++ (W ++ C)) (record { is = h.is ∙ f })) a
              (omega arith) q.1,
        )
