-- What the parser reads is the leaves of a tree that says so, within the levels, all its strings passing the test.
use mathlib.Core.Path.{◌≡◌, refl, sym, ap, subst₂, ◌∙◌}
use mathlib.Core.List.{List, [], ◌∷◌, ◌++◌}
use mathlib.Core.Bool.{Bool, true, false}
use Prim.Native.Nat.{ℕ, suc, ◌+◌, ◌-◌, ◌≤◌}
use native.Mathlib.Omega.{arith}
use lib.ListN.{length}
use lib.Dec.{T, eqb, eqb→eq}
use Rattle.grammar.specs.Grammar.{colon, comma, is_space, octets, Space, leaves_sign, Str, Num, Literal, Bracket}
use Rattle.grammar.specs.Grammar.{curly, square, closing, Label, Value, string, number, literal, Entries}
use Rattle.grammar.specs.Grammar.{leaves_label, leaves_value, leaves_entries}
use Rattle.grammar.specs.Places.{levels, levels_entries, kind_literal, leading, trailing, place, place_name, item}
use Rattle.grammar.specs.Places.{done, placed, emptied_label, emptied}
use Rattle.grammar.specs.Strings.{every_label, every, every_entries}
use Rattle.grammar.proofs.Parse.{At, at, Got, failed, got, then, true→T, scan, run, word, read_string, Node}
use Rattle.grammar.proofs.Parse.{Inside, Head, leaf, inside_last, inside_more, go_on_lem, read_label}
use Rattle.grammar.proofs.Scan.{no_got, got_val, got_at, then_inv, Spelled, spelled_then, spelled_nothing}
use Rattle.grammar.proofs.Scan.{scanned, word_inv}
use Rattle.grammar.proofs.Complete.{node, inside, head, place_path}
use Rattle.grammar.proofs.ReadLabels.{string_sound}

module _ (test : Str → Bool) where
  -- A value read from n on, and the space behind it.
  pub record SoundValue (l n : ℕ) (s : List ℕ) (v : Node) (st : At) : Type 0 where
    pub tree : Value
    pub space : Space
    pub spelled : Spelled (leaves_value tree ++ octets space) n s st
    pub says : node n tree ≡ v
    pub deep : levels tree ≤ l
    pub kept : T (every test tree)

  -- A value that is neither an object nor an array, of the kind k.
  pub record Plain (v : Value) (k : ℕ) : Type 0 where
    pub says : (n : ℕ) → node n v
        ≡ record { tree = v; placed = item k (record { start = n + 0; size = length (leaves_value v) - (0 + 0) }) done }
    pub deep : levels v ≡ 0

  pub leaf_sound : {A : Type 0} (f : A → Value) (k : A → ℕ) (l n : ℕ) (s : List ℕ) (g : Got A) {v : Node} {st : At} →
      ((a : A) → Plain (f a) (k a)) →
      ((a : A) (here : At) → g ≡ got a here → Spelled (leaves_value (f a)) n s here × T (every test (f a))) →
      then g (leaf n f k) ≡ got v st → SoundValue l n s v st
  leaf_sound f k l n s g p q e =
      let t = then_inv g (leaf n f k) e in
      let a = t.mid in
      let here = t.here in
      let y = q a here t.first in
      let w = scanned is_space here.pos here.rest in
      let x : here.pos - n ≡ length (leaves_value (f a)) - (0 + 0) = omega (arith, y.0.ends) in
      subst₂ (SoundValue l n s) (got_val t.second) (got_at t.second) (record {
        tree = f a;
        space = run is_space here.rest;
        spelled = spelled_then y.0 w;
        says =
            (p a).says n
            ∙ ap (λ z. record { tree = f a; placed = item (k a) z done }) (place_path (omega arith) (sym x));
        deep = omega (arith, (p a).deep);
        kept = y.1;
      })

  pub string_plain : (x : Str) → Plain (string x) 2
  unfolding leaves_value placed place leading trailing emptied levels octets
  string_plain x = record { says = λ n. refl; deep = refl }

  pub number_plain : (x : Num) → Plain (number x) 3
  unfolding leaves_value placed place leading trailing emptied levels octets
  number_plain x = record { says = λ n. refl; deep = refl }

  pub literal_plain : (x : Literal) → Plain (literal x) (kind_literal x)
  unfolding leaves_value placed place leading trailing emptied levels octets
  literal_plain x = record { says = λ n. refl; deep = refl }

  -- What stands before a value

  pub record SoundLabel (b : Bracket) (n : ℕ) (s : List ℕ) (h : Head b) (st : At) : Type 0 where
    pub label : Label b
    pub spelled : Spelled (leaves_label b label) n s st
    pub says : head b n label ≡ h
    pub kept : T (every_label test b label)

  pub label_sound : (b : Bracket) (K n : ℕ) (s : List ℕ) {h : Head b} {st : At} → read_label test b K (at n s)
      ≡ got h st →
      SoundLabel b n s h st
  unfolding read_label leaves_label leaves_sign emptied_label place_name every_label
  label_sound curly K n s q =
      let t₁ = then_inv (read_string test K n s) _ q in
      let x₁ = string_sound test K n s t₁.first in
      let st₂ = scan is_space t₁.here.pos t₁.here.rest in
      let x₂ = scanned is_space t₁.here.pos t₁.here.rest in
      let t₂ = then_inv (word (colon ∷ []) st₂.pos st₂.rest) _ t₁.second in
      let x₃ = word_inv (colon ∷ []) st₂.pos st₂.rest t₂.first in
      let x₄ = scanned is_space t₂.here.pos t₂.here.rest in
      subst₂ (SoundLabel curly n s) (got_val t₂.second) (got_at t₂.second) (record {
        label = record {
          name = t₁.mid;
          sign = record { before = run is_space t₁.here.rest; after = run is_space t₂.here.rest };
        };
        spelled = spelled_then x₁.0 (spelled_then x₂ (spelled_then x₃ x₄));
        says = refl;
        kept = x₁.1;
      })
  label_sound square K n s q =
      subst₂ (SoundLabel square n s) (got_val q) (got_at q)
      (record { label = tt; spelled = spelled_nothing; says = refl; kept = tt })

  -- Entries

  pub record SoundEntries (l : ℕ) (b : Bracket) (n : ℕ) (s : List ℕ) (es : Inside b) (st : At) : Type 0 where
    pub tree : Entries b
    pub space : Space
    pub spelled : Spelled (leaves_entries tree ++ (octets space ++ (closing b ∷ []))) n s st
    pub says : inside n tree ≡ es
    pub deep : levels_entries tree ≤ l
    pub kept : T (every_entries test tree)

  -- What a reader of values has to be.
  abbrev pub Reads : ℕ → (At → Got Node) → Type 0
  Reads l inner = (st : At) (v : Node) (st' : At) → inner st ≡ got v st' → SoundValue l st.pos st.rest v st'

  pub data Went (b : Bracket) (others : At → Got (Inside b)) (h : Head b) (v : Node) (n : ℕ) (s : List ℕ)
      (es : Inside b)
      (st : At) : Type 0 where
    went_on : (s' : List ℕ) (es' : Inside b) → comma ∷ s' ≡ s → others (scan is_space (suc n) s') ≡ got es' st →
        inside_more h v es' ≡ es → Went b others h v n s es st
    went_out : closing b ∷ st.rest ≡ s → inside_last h v ≡ es → st.pos ≡ suc n → Went b others h v n s es st

  pub go_on_inv : (b : Bracket) (others : At → Got (Inside b)) (h : Head b) (v : Node) (n : ℕ)
      (s : List ℕ) {es : Inside b}
      {st : At} → go_on_lem others h v n s ≡ got es st → Went b others h v n s es st
  unfolding go_on_lem
  go_on_inv b others h v n [] q = absurd (no_got q)
  go_on_inv b others h v n (c ∷ s) {es} {st} q = go (eqb c comma) (eqb c (closing b)) refl refl q
    where
      go : (x y : Bool) → eqb c comma ≡ x → eqb c (closing b) ≡ y →
          elim x as (λ z. Got (Inside b)) [
            | true ↦ then (others (scan is_space (suc n) s)) (λ es' st'. got (inside_more h v es') st')
            | false ↦ elim y as (λ z. Got (Inside b)) [ true ↦ got (inside_last h v) (at (suc n) s) | false ↦ failed ]
          ] ≡ got es st → Went b others h v n (c ∷ s) es st
      go true y e f k =
          let t = then_inv (others (scan is_space (suc n) s)) (λ es' st'. got (inside_more h v es') st') k in
          went_on s t.mid (rw (eqb→eq c comma (true→T (eqb c comma) e)))
          (t.first ∙ ap (got t.mid) (got_at t.second)) (got_val t.second)
      go false true e f k =
          went_out (rw (← got_at k, eqb→eq c (closing b) (true→T (eqb c (closing b)) f))) (got_val k)
          (ap (λ z. z.pos) (sym (got_at k)))
      go false false e f k = absurd (no_got k)
