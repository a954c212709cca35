-- What the parser reads as entries, as a value and as a text is the leaves of a tree: by induction on the levels.
use mathlib.Core.Path.{◌≡◌, refl, sym, ap, subst, subst₂, ◌∙◌}
use mathlib.Core.List.{List, [], ◌∷◌, ◌++◌, append_assoc, append-nil}
use mathlib.Core.Bool.{Bool, true, false, cond, ◌&&◌}
use Prim.Native.Nat.{ℕ, zero, suc, ◌+◌, ◌-◌}
use native.Mathlib.Omega.{arith}
use lib.ListN.{length, length-append}
use lib.Dec.{T, eqb, eqb→eq}
use Rattle.grammar.specs.Grammar.{quote, comma, is_space, octets, Sign, leaves_sign, Str, letters, literal-true}
use Rattle.grammar.specs.Grammar.{literal-false, literal-null, Bracket, curly, square, opening, closing, nested}
use Rattle.grammar.specs.Grammar.{empty, string, number, literal, last, more, leaves_label, leaves_value}
use Rattle.grammar.specs.Grammar.{leaves_entries}
use Rattle.grammar.specs.Places.{levels, kind_nested, kind_literal, Place, leading, trailing, place, item, done}
use Rattle.grammar.specs.Places.{placed, bare, emptied}
use Rattle.grammar.specs.Strings.{every_label, every, every_entries}
use Rattle.grammar.specs.Reader.{is_number_start}
use Rattle.grammar.proofs.Parse.{At, at, Got, failed, got, then, or_else, scan, run, word, read_string, read_num}
use Rattle.grammar.proofs.Parse.{Lead, lead, lead_nested, lead-string, lead-number, lead_literal, lead_none, Node}
use Rattle.grammar.proofs.Parse.{Inside, Head, inside_last, inside_more, nest_of, empty_of, read_label, entries}
use Rattle.grammar.proofs.Parse.{bracketed, start, begin, value}
use Rattle.grammar.proofs.Scan.{no_got, got_val, got_at, then_inv, Spelled, spelled_then, scanned, word_inv}
use Rattle.grammar.proofs.Numbers.{num_sound}
use Rattle.grammar.proofs.Utf8Test.{both}
use Rattle.grammar.proofs.Complete.{node, inside, place_path, sign_length}
use Rattle.grammar.proofs.ReadLabels.{string_sound}
use Rattle.grammar.proofs.Sound.{SoundValue, SoundLabel, SoundEntries, Reads, Went, went_on, went_out, go_on_inv}
use Rattle.grammar.proofs.Sound.{label_sound, leaf_sound, string_plain, number_plain, literal_plain}

module _ (test : Str → Bool) where
  -- One entry, and what followed it.
  step_sound : (l : ℕ) (b : Bracket) (others : At → Got (Inside b)) →
      ((st : At) (es : Inside b) (st' : At) → others st ≡ got es st' →
      SoundEntries test l b st.pos st.rest es st') →
      (n : ℕ) (s : List ℕ) (h : Head b) (v : Node) (es : Inside b) (st₁ here st' : At) → SoundLabel test b n s h st₁ →
      SoundValue test l st₁.pos st₁.rest v here → Went test b others h v here.pos here.rest es st' →
      SoundEntries test l b n s es st'
  unfolding leaves_value leaves_sign levels placed emptied every
  step_sound l b others ih n s h v es st₁ here st' lab val (went_on s' es' c q a) =
      let w = scanned is_space (suc here.pos) s' in
      let next = scan is_space (suc here.pos) s' in
      let es'' = ih next es' st' q in
      let x : Sign = record { before = val.space; after = run is_space s' } in
      let one : Spelled (comma ∷ []) here.pos here.rest (at (suc here.pos) s') =
      record { text = c; ends = omega arith } in
      let L = leaves_label b lab.label in
      let W = leaves_value val.tree in
      let whole = spelled_then lab.spelled
      (spelled_then val.spelled (spelled_then one (spelled_then w es''.spelled))) in
      let A = length-append L (W ++ leaves_sign comma x) in
      let B = length-append W (leaves_sign comma x) in
      let C = sign_length comma x in
      let D = length-append W (octets val.space) in
      let here_is : st₁.pos ≡ n + length L = lab.spelled.ends in
      let next_is : next.pos ≡ n + length (L ++ (W ++ leaves_sign comma x)) =
      omega (arith, here_is, val.spelled.ends, w.ends) in
      record {
        tree = more lab.label val.tree x es''.tree;
        space = es''.space;
        spelled = simp append_assoc (simp append_assoc at whole);
        says = (λ i. inside_more (lab.says i)
            ((ap (λ z. node z val.tree) (sym here_is) ∙ val.says) i)
            ((ap (λ z. inside z es''.tree) (sym next_is) ∙ es''.says) i)) ∙ a;
        deep = omega (arith, val.deep, es''.deep);
        kept =
            both (every_label test b lab.label) (every test val.tree && every_entries test es''.tree) lab.kept
            (both (every test val.tree) (every_entries test es''.tree) val.kept es''.kept);
      }
  step_sound l b others ih n s h v es st₁ here st' lab val (went_out c a e) =
      let one : Spelled (closing b ∷ []) here.pos here.rest st' = record { text = c; ends = e ∙ omega arith } in
      let whole = spelled_then lab.spelled (spelled_then val.spelled one) in
      record {
        tree = last lab.label val.tree;
        space = val.space;
        spelled = simp append_assoc (simp append_assoc at whole);
        says = (λ i. inside_last (lab.says i)
            ((ap (λ z. node z val.tree) (sym lab.spelled.ends) ∙ val.says) i)) ∙ a;
        deep = val.deep;
        kept = both (every_label test b lab.label) (every test val.tree) lab.kept val.kept;
      }

  entries_sound : (l K k : ℕ) (b : Bracket) (inner : At → Got Node) → Reads test l inner → (st : At) (es : Inside b)
      (st' : At) → entries test b inner K k st ≡ got es st' → SoundEntries test l b st.pos st.rest es st'
  unfolding entries
  entries_sound l K zero b inner f st es st' q = absurd (no_got q)
  entries_sound l K (suc k) b inner f st es st' q =
      let t = then_inv (read_label test b K st) _ q in
      let u = then_inv (inner t.here) _ t.second in
      step_sound l b (λ st₃. entries test b inner K k st₃) (entries_sound l K k b inner f) st.pos st.rest t.mid
      u.mid es t.here u.here st' (label_sound test b K st.pos st.rest t.first)
      (f t.here u.mid u.here u.first)
      (go_on_inv test b _ t.mid u.mid u.here.pos u.here.rest u.second)

  -- Brackets

  nested_sound : (l K n : ℕ) (b : Bracket) (s : List ℕ) (inner : At → Got Node) → Reads test l inner → (es : Inside b)
      (here : At) → entries test b inner K K (scan is_space (suc n) s) ≡ got es here → {v : Node} {st : At} →
      nest_of b n es here ≡ got v st → SoundValue test (suc l) n (opening b ∷ s) v st
  unfolding leaves_value leaves_sign levels placed place leading trailing emptied every octets
  nested_sound l K n b s inner f es here q e =
      let w = scanned is_space (suc n) s in
      let z = scanned is_space here.pos here.rest in
      let es' = entries_sound l K K b inner f (scan is_space (suc n) s) es here q in
      let x : Sign = record { before = []; after = run is_space s } in
      let y : Sign = record { before = es'.space; after = run is_space here.rest } in
      let E = leaves_entries es'.tree in
      let one : Spelled (opening b ∷ []) n (opening b ∷ s)
      (at (suc n) s) = record { text = refl; ends = omega arith } in
      let whole = spelled_then one (spelled_then w (spelled_then es'.spelled z)) in
      let A = sign_length (opening b) x in
      let B = sign_length (closing b) y in
      let C = length-append (leaves_sign (opening b) x) (E ++ leaves_sign (closing b) y) in
      let D = length-append E (leaves_sign (closing b) y) in
      let F = length-append E (octets es'.space ++ (closing b ∷ [])) in
      let G = length-append (octets es'.space) (closing b ∷ []) in
      let start_is : (scan is_space (suc n) s).pos ≡ n + length (leaves_sign (opening b) x) = omega (arith, w.ends) in
      let size_is : length (leaves_sign (opening b) x ++ (E ++ leaves_sign (closing b) y)) -
      (0 + length (octets y.after))
      ≡ here.pos - n = omega (arith, es'.spelled.ends, start_is) in
      let says_place : ◌≡◌ {A = Place} _ _ = place_path {a = n + 0} {c = n} (omega arith) size_is in
      let says_inside : inside (n + length (leaves_sign (opening b) x)) es'.tree ≡ es =
      ap (λ z. inside z es'.tree) (sym start_is) ∙ es'.says in
      subst₂ (SoundValue test (suc l) n (opening b ∷ s)) (got_val e) (got_at e) (record {
        tree = nested b x es'.tree y;
        space = [];
        spelled = simp (append_assoc, append-nil) (simp append_assoc at whole);
        says = λ i. record {
          tree = nested b bare (says_inside i).tree bare;
          placed = item (kind_nested b) (says_place i) (says_inside i).parts;
        };
        deep = omega (arith, es'.deep);
        kept = es'.kept;
      })

  empty_sound : (l n : ℕ) (b : Bracket) (s : List ℕ) (here : At) → {u : Unit {0}} →
      word (closing b ∷ []) (scan is_space (suc n) s).pos (scan is_space (suc n) s).rest ≡ got u here →
      {v : Node} {st : At} → empty_of b n u here ≡ got v st → SoundValue test (suc l) n (opening b ∷ s) v st
  unfolding leaves_value leaves_sign levels placed place leading trailing emptied every octets
  empty_sound l n b s here q e =
      let w = scanned is_space (suc n) s in
      let z = scanned is_space here.pos here.rest in
      let c = word_inv (closing b ∷ []) (scan is_space (suc n) s).pos (scan is_space (suc n) s).rest q in
      let x : Sign = record { before = []; after = run is_space s } in
      let y : Sign = record { before = []; after = run is_space here.rest } in
      let one : Spelled (opening b ∷ []) n (opening b ∷ s)
      (at (suc n) s) = record { text = refl; ends = omega arith } in
      let whole = spelled_then one (spelled_then w (spelled_then c z)) in
      let A = sign_length (opening b) x in
      let B = sign_length (closing b) y in
      let C = length-append (leaves_sign (opening b) x) (leaves_sign (closing b) y) in
      let size_is : length (leaves_sign (opening b) x ++ leaves_sign (closing b) y) - (0 + length (octets y.after))
      ≡ here.pos - n = omega (arith, c.ends, w.ends) in
      let says_place : ◌≡◌ {A = Place} _ _ = place_path {a = n + 0} {c = n} (omega arith) size_is in
      subst₂ (SoundValue test (suc l) n (opening b ∷ s)) (got_val e) (got_at e) (record {
        tree = empty b x y;
        space = [];
        spelled = simp (append_assoc, append-nil) whole;
        says = λ i. record { tree = empty b bare bare; placed = item (kind_nested b) (says_place i) done };
        deep = omega arith;
        kept = tt;
      })

  bracketed_sound : (l K n : ℕ) (b : Bracket) (s : List ℕ) (inner : At → Got Node) → Reads test l inner → {v : Node}
      {st : At} → bracketed test inner K b n (scan is_space (suc n) s) ≡ got v st →
      SoundValue test (suc l) n (opening b ∷ s) v st
  unfolding bracketed
  bracketed_sound l K n b s inner f {v} {st} q = go (entries test b inner K K (scan is_space (suc n) s)) refl q
    where
      go : (g : Got (Inside b)) → entries test b inner K K (scan is_space (suc n) s) ≡ g →
          or_else (then g (nest_of b n))
          (then (word (closing b ∷ []) (scan is_space (suc n) s).pos (scan is_space (suc n) s).rest) (empty_of b n))
          ≡ got v st → SoundValue test (suc l) n (opening b ∷ s) v st
      go failed p h =
          let t = then_inv (word (closing b ∷ []) (scan is_space (suc n) s).pos (scan is_space (suc n) s).rest)
          (empty_of b n) h in
          empty_sound l n b s t.here t.first t.second
      go (got es here) p h = nested_sound l K n b s inner f es here p h

  -- What a value's first octet is.

  abbrev pub Leads : ℕ → Lead → Type 0
  Leads c (lead_nested b) = c ≡ opening b
  Leads c lead-string = Unit {0}
  Leads c lead-number = Unit {0}
  Leads c (lead_literal x) = Unit {0}
  Leads c lead_none = Unit {0}

  choose : (c : ℕ) (b : Bool) (x y : Lead) → (T b → Leads c x) → Leads c y → Leads c (cond b x y)
  choose c true x y f g = f tt
  choose c false x y f g = g

  pub leads : (c : ℕ) → Leads c (lead c)
  unfolding lead
  leads c =
      choose c (eqb c 123) (lead_nested curly) _ (eqb→eq c 123)
      (choose c (eqb c 91) (lead_nested square) _ (eqb→eq c 91)
      (choose c (eqb c quote) lead-string _ (λ t. tt)
      (choose c (eqb c 116) (lead_literal literal-true) _ (λ t. tt)
      (choose c (eqb c 102) (lead_literal literal-false) _ (λ t. tt)
      (choose c (eqb c 110) (lead_literal literal-null) _ (λ t. tt)
      (choose c (is_number_start c) lead-number lead_none (λ t. tt) tt))))))

  -- What a reader of objects and arrays has to be.
  abbrev Nests : ℕ → (Bracket → ℕ → At → Got Node) → Type 0
  Nests l nest =
      (b : Bracket) (n : ℕ) (s : List ℕ) (v : Node) (st : At) → nest b n (scan is_space (suc n) s) ≡ got v st →
      SoundValue test l n (opening b ∷ s) v st

  start_sound : (l K : ℕ) (nest : Bracket → ℕ → At → Got Node) → Nests l nest → (n c : ℕ) (s : List ℕ) (y : Lead) →
      Leads c y → {v : Node} {st : At} → start test nest K y n (c ∷ s) (suc n) s ≡ got v st →
      SoundValue test l n (c ∷ s) v st
  unfolding start leaves_value every
  start_sound l K nest f n c s (lead_nested b) o {v} {st} q =
      subst (λ z. SoundValue test l n (z ∷ s) v st) (sym o) (f b n s v st q)
  start_sound l K nest f n c s lead-string o q =
      leaf_sound test string (λ x. 2) l n (c ∷ s) (read_string test K n (c ∷ s)) (string_plain test)
      (λ x here e. string_sound test K n (c ∷ s) e) q
  start_sound l K nest f n c s lead-number o q =
      leaf_sound test number (λ x. 3) l n (c ∷ s) (read_num n (c ∷ s)) (number_plain test)
      (λ x here e. (num_sound n (c ∷ s) e, tt)) q
  start_sound l K nest f n c s (lead_literal x) o q =
      leaf_sound test (λ u. literal x) (λ u. kind_literal x) l n (c ∷ s) (word (letters x) n (c ∷ s))
      (λ u. literal_plain test x) (λ u here e. (word_inv (letters x) n (c ∷ s) e, tt)) q
  start_sound l K nest f n c s lead_none o q = absurd (no_got q)

  begin_sound : (l K : ℕ) (nest : Bracket → ℕ → At → Got Node) → Nests l nest →
      (n : ℕ) (s : List ℕ) {v : Node} {st : At} →
      begin test nest K n s ≡ got v st → SoundValue test l n s v st
  unfolding begin
  begin_sound l K nest f n [] q = absurd (no_got q)
  begin_sound l K nest f n (c ∷ s) q = start_sound l K nest f n c s (lead c) (leads c) q

  pub value_sound : (l K : ℕ) → Reads test l (value test l K)
  unfolding value
  value_sound zero K st v st' q =
      begin_sound zero K (λ b n st''. failed) (λ b n s v' st'' e. absurd (no_got e)) st.pos st.rest q
  value_sound (suc l) K st v st' q =
      begin_sound (suc l) K (bracketed test (value test l K) K)
      (λ b n s v' st'' e. bracketed_sound l K n b s (value test l K) (value_sound l K) e) st.pos st.rest q
