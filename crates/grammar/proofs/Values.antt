-- The parser reads a value's leaves back, whatever its entries: the induction over trees, and the text as a whole.
use mathlib.Core.Path.{◌≡◌, refl, sym, ap, ◌∙◌}
use mathlib.Core.List.{List, [], ◌∷◌, ◌++◌, append_assoc, append-nil}
use mathlib.Core.Bool.{Bool, ◌&&◌}
use mathlib.Core.Option.{some}
use Prim.Native.Nat.{ℕ, zero, suc, ◌+◌, ◌≤◌, ◌<◌}
use native.Mathlib.Omega.{arith}
use lib.ListN.{length, length-append}
use lib.Dec.{T}
use Rattle.grammar.specs.Grammar.{colon, comma, is_space, octets, Space, Sign, leaves_sign, Str, leaves_str, Bracket}
use Rattle.grammar.specs.Grammar.{curly, square, opening, closing, Label, Value, nested, empty, string, number}
use Rattle.grammar.specs.Grammar.{literal, Entries, last, more, leaves_label, leaves_value, leaves_entries, Text}
use Rattle.grammar.specs.Grammar.{leaves}
use Rattle.grammar.specs.Places.{levels, levels_entries, kind_nested, leading, trailing, place, place_name, item}
use Rattle.grammar.specs.Places.{Parts, done, placed, bare, emptied_label, emptied, emptied_entries}
use Rattle.grammar.specs.Strings.{every_label, every, every_entries}
use Rattle.grammar.proofs.Parse.{at, Got, got, scan, skip, word, Node, read_label, entries, bracketed, value}
use Rattle.grammar.proofs.Parse.{parse}
use Rattle.grammar.proofs.Scan.{both_T, halts, scan_octets, is_number_lem, space_halts}
use Rattle.grammar.proofs.Complete.{node, inside, head, sign_length, sign_onto, go_last, go_more, sign_halts}
use Rattle.grammar.proofs.Complete.{close_halts, string_read, string_case, literal_case, number_case, open_read}
use Rattle.grammar.proofs.Complete.{closed_first, word_read}

-- Two answers that differ in how their numbers are written.
got_path : (b : Bracket) (v : Value) (ps : Parts) (r : List ℕ) {a a' c c' m m' : ℕ} → a ≡ a' → c ≡ c' → m ≡ m' →
    ◌≡◌ {A = Got Node}
    (got (record { tree = v; placed = item (kind_nested b) (record { start = a; size = c }) ps }) (skip m r))
    (got (record { tree = v; placed = item (kind_nested b) (record { start = a'; size = c' }) ps }) (skip m' r))
got_path b v ps r p q e i =
    got (record { tree = v; placed = item (kind_nested b) (record { start = p i; size = q i }) ps }) (skip (e i) r)

module _ (test : Str → Bool) where
  str_skip : (x : Str) (n : ℕ) (r : List ℕ) → skip n (leaves_str x ++ r) ≡ at n (leaves_str x ++ r)
  unfolding leaves_str scan
  str_skip x n r = refl

  label_read : (b : Bracket) (l : Label b) (K n : ℕ) (X : List ℕ) → T (every_label test b l) →
      length (leaves_label b l) ≤ K →
      read_label test b K (skip n (leaves_label b l ++ X)) ≡ got (head b n l) (skip (n + length (leaves_label b l)) X)
  unfolding read_label leaves_label every_label emptied_label place_name word scan
  label_read curly l K n X t h =
      let N = leaves_str l.name in
      let x = l.sign in
      let A = sign_length colon x in
      let B = length-append N (leaves_sign colon x) in
      let e : suc (n + length N + length (octets x.before)) + length (octets x.after)
      ≡ n + length (N ++ leaves_sign colon x) = omega arith in
      rw (
        append_assoc N,
        str_skip l.name n (leaves_sign colon x ++ X),
        string_read test l.name K n (leaves_sign colon x ++ X) t (omega arith),
        sign_onto,
        scan_octets is_space _ x.before,
        scan_octets is_space _ x.after X,
        e,
      )
  label_read square l K n X t h = ap (λ m. got (head square n l) (skip m X)) (omega arith)

  -- Brackets: what is inside is given, and what follows it.

  nested_case : (l K n : ℕ) (b : Bracket) (x y : Sign) (es : Entries b) (r : List ℕ) →
      let m = n + length (leaves_sign (opening b) x) in
      entries test b (value test l K) K K
      (skip m (leaves_entries es ++ (octets y.before ++ (closing b ∷ (octets y.after ++ r)))))
      ≡ got (inside m es)
      (at (m + (length (leaves_entries es) + suc (length (octets y.before)))) (octets y.after ++ r)) →
      value test (suc l) K (skip n (leaves_value (nested b x es y) ++ r))
      ≡ got (node n (nested b x es y)) (skip (n + length (leaves_value (nested b x es y))) r)
  unfolding value bracketed leaves_value emptied placed place leading trailing
  nested_case l K n b x y es r h =
      let A = sign_length (opening b) x in
      let B = sign_length (closing b) y in
      let C = length-append (leaves_sign (opening b) x) (leaves_entries es ++ leaves_sign (closing b) y) in
      let D = length-append (leaves_entries es) (leaves_sign (closing b) y) in
      rw (
        append_assoc (leaves_sign (opening b) x),
        append_assoc (leaves_entries es),
        sign_onto (closing b) y,
        open_read test (bracketed test (value test l K) K) K n b x,
        h,
        scan_octets is_space _ y.after r,
      )
      (got_path b (nested b bare (emptied_entries es) bare) _ r refl (omega arith) (omega arith))

  close_skip : (b : Bracket) (m : ℕ) (R : List ℕ) → skip m (closing b ∷ R) ≡ at m (closing b ∷ R)
  unfolding scan
  close_skip curly m R = refl
  close_skip square m R = refl

  empty_case : (l K n : ℕ) (b : Bracket) (x y : Sign) (r : List ℕ) →
      value test (suc l) K (skip n (leaves_value (empty b x y) ++ r))
      ≡ got (node n (empty b x y)) (skip (n + length (leaves_value (empty b x y))) r)
  unfolding value bracketed leaves_value emptied placed place leading trailing
  empty_case l K n b x y r =
      let A = sign_length (opening b) x in
      let B = sign_length (closing b) y in
      let C = length-append (leaves_sign (opening b) x) (leaves_sign (closing b) y) in
      rw (
        append_assoc (leaves_sign (opening b) x),
        sign_onto (closing b) y,
        open_read test (bracketed test (value test l K) K) K n b x,
        scan_octets is_space _ y.before,
        close_skip b,
        closed_first test l K K _ b,
        word_read (closing b ∷ []),
        scan_octets is_space _ y.after r,
      )
      (got_path b (empty b bare bare) done r refl (omega arith) (omega arith))

  -- Entries: what the first one gives, and what follows it.

  last_case : (l K k n : ℕ) (b : Bracket) (lab : Label b) (v : Value) (w : Space) (R : List ℕ) →
      let m = n + length (leaves_label b lab) in
      T (every_label test b lab) → length (leaves_label b lab) ≤ K →
      value test l K (skip m (leaves_value v ++ (octets w ++ (closing b ∷ R))))
      ≡ got (node m v) (skip (m + length (leaves_value v)) (octets w ++ (closing b ∷ R))) →
      entries test b (value test l K) K (suc k)
      (skip n (leaves_entries (last {b = b} lab v) ++ (octets w ++ (closing b ∷ R))))
      ≡ got (inside n (last {b = b} lab v))
      (at (n + (length (leaves_entries (last {b = b} lab v)) + suc (length (octets w)))) R)
  unfolding entries leaves_value placed emptied
  last_case l K k n b lab v w R t f h =
      let A = length-append (leaves_label b lab) (leaves_value v) in
      rw (append_assoc (leaves_label b lab), label_read b lab K n _ t f, h, go_last)
      (ap (λ z. got (inside n (last {b = b} lab v)) (at z R)) (omega arith))

  more_case : (l K k n : ℕ) (b : Bracket) (lab : Label b) (v : Value) (x : Sign) (es : Entries b) (Y R : List ℕ) →
      let m = n + length (leaves_label b lab) in
      let m' = n + length (leaves_label b lab ++ (leaves_value v ++ leaves_sign comma x)) in
      (e : ℕ) → T (every_label test b lab) → length (leaves_label b lab) ≤ K →
      value test l K (skip m (leaves_value v ++ (leaves_sign comma x ++ (leaves_entries es ++ Y))))
      ≡ got (node m v) (skip (m + length (leaves_value v)) (leaves_sign comma x ++ (leaves_entries es ++ Y))) →
      entries test b (value test l K) K k (skip m' (leaves_entries es ++ Y)) ≡ got (inside m' es) (at e R) →
      entries test b (value test l K) K (suc k) (skip n (leaves_entries (more lab v x es) ++ Y))
      ≡ got (inside n (more lab v x es)) (at e R)
  unfolding entries leaves_value placed emptied
  more_case l K k n b lab v x es Y R e t f h g =
      let A = length-append (leaves_label b lab) (leaves_value v ++ leaves_sign comma x) in
      let B = length-append (leaves_value v) (leaves_sign comma x) in
      let z : n + length (leaves_label b lab) + length (leaves_value v) + length (leaves_sign comma x)
      ≡ n + length (leaves_label b lab ++ (leaves_value v ++ leaves_sign comma x)) = omega arith in
      rw (
        append_assoc (leaves_label b lab),
        append_assoc (leaves_value v),
        append_assoc (leaves_sign comma x),
        label_read b lab K n _ t f,
        h,
        go_more,
        z,
        g,
      )

  mutual
    unfolding value levels leaves_value every

    pub value_read : (v : Value) (l K n : ℕ) (r : List ℕ) → levels v ≤ l → length (leaves_value v) ≤ K →
        T (halts is_number_lem r) → T (every test v) →
        value test l K (skip n (leaves_value v ++ r)) ≡ got (node n v) (skip (n + length (leaves_value v)) r)
    value_read (nested b x es y) zero K n r d h s t = absurd (omega arith)
    value_read (nested b x es y) (suc l) K n r d h s t =
        let A = length-append (leaves_sign (opening b) x) (leaves_entries es ++ leaves_sign (closing b) y) in
        let B = length-append (leaves_entries es) (leaves_sign (closing b) y) in
        let C = sign_length (opening b) x in
        nested_case l K n b x y es r
        (entries_read es l K K (n + length (leaves_sign (opening b) x)) y.before (octets y.after ++ r)
        (omega arith)
        (omega arith) (omega arith) t)
    value_read (empty b x y) zero K n r d h s t = absurd (omega arith)
    value_read (empty b x y) (suc l) K n r d h s t = empty_case l K n b x y r
    value_read (string x) zero K n r d h s t = string_case test _ K n r x t h
    value_read (string x) (suc l) K n r d h s t = string_case test _ K n r x t h
    value_read (number x) zero K n r d h s t = number_case test _ K n r x s
    value_read (number x) (suc l) K n r d h s t = number_case test _ K n r x s
    value_read (literal x) zero K n r d h s t = literal_case test _ K n r x
    value_read (literal x) (suc l) K n r d h s t = literal_case test _ K n r x

    pub entries_read : {b : Bracket} (es : Entries b) (l K k n : ℕ) (w : Space) (R : List ℕ) → levels_entries es ≤ l →
        length (leaves_entries es) ≤ K → length (leaves_entries es) < k → T (every_entries test es) →
        entries test b (value test l K) K k (skip n (leaves_entries es ++ (octets w ++ (closing b ∷ R))))
        ≡ got (inside n es) (at (n + (length (leaves_entries es) + suc (length (octets w)))) R)
    entries_read (last lab v) l K zero n w R d h f t = absurd (omega arith)
    entries_read (last {b} lab v) l K (suc k) n w R d h f t =
        let A = length-append (leaves_label b lab) (leaves_value v) in
        let u = both_T (every_label test b lab) (every test v) t in
        last_case l K k n b lab v w R u.0 (omega arith)
        (value_read v l K (n + length (leaves_label b lab)) (octets w ++ (closing b ∷ R)) d (omega arith)
        (close_halts b w R) u.1)
    entries_read (more lab v x es) l K zero n w R d h f t = absurd (omega arith)
    entries_read (more {b} lab v x es) l K (suc k) n w R d h f t =
        let Y = octets w ++ (closing b ∷ R) in
        let A = length-append (leaves_label b lab) (leaves_value v ++ (leaves_sign comma x ++ leaves_entries es)) in
        let B = length-append (leaves_value v) (leaves_sign comma x ++ leaves_entries es) in
        let C = length-append (leaves_sign comma x) (leaves_entries es) in
        let D = sign_length comma x in
        let m' = n + length (leaves_label b lab ++ (leaves_value v ++ leaves_sign comma x)) in
        let E = length-append (leaves_label b lab) (leaves_value v ++ leaves_sign comma x) in
        let F = length-append (leaves_value v) (leaves_sign comma x) in
        let u = both_T (every_label test b lab) (every test v && every_entries test es) t in
        let q = both_T (every test v) (every_entries test es) u.1 in
        more_case l K k n b lab v x es Y R _ u.0 (omega arith)
        (value_read v l K (n + length (leaves_label b lab)) (leaves_sign comma x ++ (leaves_entries es ++ Y)) (omega arith)
        (omega arith) (sign_halts comma x _ tt) q.0)
        (entries_read es l K k m' w R (omega arith) (omega arith) (omega arith) q.1)
        ∙ ap (λ z. got (inside n (more lab v x es)) (at z R)) (omega arith)

  pub after_halts : (w : Space) → T (halts is_number_lem (octets w))
  after_halts w = rw append-nil at (space_halts w [] tt)

  pub after_skip : (w : Space) (n : ℕ) → skip n (octets w) ≡ at (n + length (octets w)) []
  unfolding scan
  after_skip w n = ap (skip n) (sym (append-nil (octets w))) ∙ scan_octets is_space n w []

  -- The leaves of a text are read as its tree, at as many levels as it has.
  pub parse_leaves : (t : Text) (l : ℕ) → levels t.value ≤ l → T (every test t.value) →
      parse test l (leaves t) ≡ some (node (length (octets t.before)) t.value)
  unfolding parse leaves scan
  parse_leaves t l d q =
      let A = length-append (octets t.before) (leaves_value t.value ++ octets t.after) in
      let B = length-append (leaves_value t.value) (octets t.after) in
      let K = length (octets t.before ++ (leaves_value t.value ++ octets t.after)) in
      let h : length (leaves_value t.value) ≤ K = omega arith in
      let z : 0 + length (octets t.before) ≡ length (octets t.before) = omega arith in
      rw (
        scan_octets is_space 0 t.before,
        z,
        value_read t.value l K (length (octets t.before)) (octets t.after) d h (after_halts t.after) q,
        after_skip t.after _,
      )
