-- The parser reads the leaves of every tree back as that tree without its spaces, each part at its place: by induction
-- on the tree, for whatever text follows a value.
use mathlib.Core.Path.{◌≡◌, refl, sym, ap, subst, ◌∙◌}
use mathlib.Core.List.{List, [], ◌∷◌, ◌++◌, append_assoc}
use mathlib.Core.Bool.{Bool, true, false, not}
use Prim.Native.Nat.{ℕ, zero, suc, ◌+◌, ◌-◌, ◌≤◌}
use native.Mathlib.Omega.{arith}
use lib.ListN.{length, length-append}
use lib.Dec.{T, eqb, eqb_refl}
use Rattle.grammar.specs.Grammar.{comma, is_space, octets, Space, Sign, leaves_sign, Str, leaves_str, Num, leaves_num}
use Rattle.grammar.specs.Grammar.{Literal, literal-true, literal-false, literal-null, letters, Bracket, curly}
use Rattle.grammar.specs.Grammar.{square, opening, closing, Label, Value, string, number, literal, Entries}
use Rattle.grammar.specs.Grammar.{leaves_value}
use Rattle.grammar.specs.Places.{kind_literal, Place, leading, trailing, place, place_name, item, done, placed}
use Rattle.grammar.specs.Places.{placed_entries, emptied_label, emptied, emptied_entries}
use Rattle.grammar.specs.Reader.{is_number_start}
use Rattle.grammar.proofs.Parse.{At, at, Got, failed, got, then, scan, skip, word, read_str, read_num, Lead}
use Rattle.grammar.proofs.Parse.{lead-number, lead, lead_nested, lead-string, lead_literal, lead_none, Node}
use Rattle.grammar.proofs.Parse.{Inside, Head, leaf, inside_last, inside_more, go_on_lem, read_string, read_label}
use Rattle.grammar.proofs.Parse.{entries, start, begin, value}
use Rattle.grammar.proofs.Scan.{T→true, among_all, halts, scan_octets, scan_halts, is_number_lem, space_halts}
use Rattle.grammar.proofs.Characters.{str_read}
use Rattle.grammar.proofs.Numbers.{num_read, number_head}

-- What the parser is to give for a tree whose leaves begin at octet n.

abbrev pub node : ℕ → Value → Node
node n v = record { tree = emptied v; placed = placed n v }

abbrev pub inside : {b : Bracket} → ℕ → Entries b → Inside b
inside n es = record { tree = emptied_entries es; parts = placed_entries n es }

abbrev pub head : (b : Bracket) → ℕ → Label b → Head b
head b n l = record { label = emptied_label b l; name = place_name b n l }

pub place_path : {a b c d : ℕ} → a ≡ c → b ≡ d →
    ◌≡◌ {A = Place} (record { start = a; size = b }) (record { start = c; size = d })
place_path p q i = record { start = p i; size = q i }

pub sign_length : (c : ℕ) (x : Sign) →
    length (leaves_sign c x) ≡ length (octets x.before) + suc (length (octets x.after))
unfolding leaves_sign
sign_length c x = length-append (octets x.before) (c ∷ octets x.after)

pub sign_onto : (c : ℕ) (x : Sign) (r : List ℕ) →
    leaves_sign c x ++ r ≡ octets x.before ++ (c ∷ (octets x.after ++ r))
unfolding leaves_sign
sign_onto c x r = append_assoc (octets x.before) (c ∷ octets x.after) r

-- Strings, numbers and literals

leaf_read : {A : Type 0} (f : A → Value) (k : A → ℕ) (a : A) (n size : ℕ) (r : List ℕ) →
    leaf n f k a (at (n + size) r)
    ≡ got (record { tree = f a; placed = item (k a) (record { start = n + 0; size = size - (0 + 0) }) done })
    (skip (n + size) r)
leaf_read f k a n size r =
    ap (λ p. got (record { tree = f a; placed = item (k a) p done }) (skip (n + size) r))
    (place_path (omega arith) (omega arith))

pub word_read : (cs : List ℕ) (n : ℕ) (r : List ℕ) → word cs n (cs ++ r) ≡ got tt (at (n + length cs) r)
unfolding word
word_read [] n r = ap (λ m. got tt (at m r)) (omega arith)
word_read (c ∷ cs) n r =
    rw (T→true (eqb c c) (eqb_refl c), word) (word_read cs (suc n) r ∙ ap (λ m. got tt (at m r)) (omega arith))

abbrev is_number : Lead → Bool
is_number (lead_nested b) = false
is_number lead-string = false
is_number lead-number = true
is_number (lead_literal x) = false
is_number lead_none = false

is_number_eq : (y : Lead) → T (is_number y) → y ≡ lead-number
is_number_eq (lead_nested b) t = absurd t
is_number_eq lead-string t = absurd t
is_number_eq lead-number t = refl
is_number_eq (lead_literal x) t = absurd t
is_number_eq lead_none t = absurd t

pub number_lead : (c : ℕ) → T (is_number_start c) → lead c ≡ lead-number
unfolding lead
number_lead c t =
    is_number_eq (lead c)
    (among_all (λ y. is_number (lead y)) (45 ∷ 48 ∷ 49 ∷ 50 ∷ 51 ∷ 52 ∷ 53 ∷ 54 ∷ 55 ∷ 56 ∷ 57 ∷ []) c tt t)

-- After an entry

abbrev pub go_on_at : {b : Bracket} → (At → Got (Inside b)) → Head b → Node → At → Got (Inside b)
go_on_at others h v st = go_on_lem others h v st.pos st.rest

pub go_last : {b : Bracket} (others : At → Got (Inside b)) (h : Head b) (v : Node) (m : ℕ) (w : Space) (R : List ℕ) →
    go_on_at others h v (skip m (octets w ++ (closing b ∷ R)))
    ≡ got (inside_last h v) (at (m + suc (length (octets w))) R)
unfolding scan go_on_lem
go_last {b = curly} others h v m w R =
    rw (scan_octets is_space m w) (ap (λ x. got (inside_last h v) (at x R)) (omega arith))
go_last {b = square} others h v m w R =
    rw (scan_octets is_space m w) (ap (λ x. got (inside_last h v) (at x R)) (omega arith))

pub go_more : {b : Bracket} (others : At → Got (Inside b)) (h : Head b) (v : Node) (m : ℕ) (x : Sign) (Y : List ℕ) →
    go_on_at others h v (skip m (leaves_sign comma x ++ Y))
    ≡ then (others (skip (m + length (leaves_sign comma x)) Y)) (λ es st. got (inside_more h v es) st)
unfolding scan go_on_lem
go_more others h v m x Y =
    let A = sign_length comma x in
    let e : suc (m + length (octets x.before)) + length (octets x.after) ≡ m + length (leaves_sign comma x)
    = omega arith in
    rw (sign_onto, scan_octets is_space m x.before, scan_octets is_space _ x.after Y, e)

pub sign_halts : (c : ℕ) (x : Sign) (r : List ℕ) → T (not (is_number_lem c)) → T (halts is_number_lem (leaves_sign c x ++ r))
sign_halts c x r h = rw sign_onto (space_halts x.before _ h)

pub close_halts : (b : Bracket) (w : Space) (r : List ℕ) → T (halts is_number_lem (octets w ++ (closing b ∷ r)))
close_halts curly w r = space_halts w (125 ∷ r) tt
close_halts square w r = space_halts w (93 ∷ r) tt

module _ (test : Str → Bool) where
  abbrev pub begin_at : (Bracket → ℕ → At → Got Node) → ℕ → At → Got Node
  begin_at nest K st = begin test nest K st.pos st.rest

  pub string_read : (x : Str) (k n : ℕ) (r : List ℕ) → T (test x) → length (leaves_str x) ≤ k →
      read_string test k n (leaves_str x ++ r) ≡ got x (at (n + length (leaves_str x)) r)
  unfolding read_string
  string_read x k n r t h = rw (str_read x k n r h, T→true (test x) t)

  module _ (nest : Bracket → ℕ → At → Got Node) (K n : ℕ) (r : List ℕ) where
    pub string_case : (x : Str) → T (test x) → length (leaves_str x) ≤ K →
        begin_at nest K (skip n (leaves_str x ++ r)) ≡ got (node n (string x)) (skip (n + length (leaves_str x)) r)
    unfolding scan begin start lead leaves_str leaves_value emptied placed place leading trailing octets
    string_case x t h =
        ap (λ g. then g (leaf n string (λ y. 2))) (string_read x K n r t h)
        ∙ leaf_read string (λ y. 2) x n (length (leaves_str x)) r

    literal_begin : (x : Literal) →
        begin_at nest K (skip n (letters x ++ r))
        ≡ then (word (letters x) n (letters x ++ r)) (leaf n (λ u. literal x) (λ u. kind_literal x))
    unfolding scan begin start lead
    literal_begin literal-true = refl
    literal_begin literal-false = refl
    literal_begin literal-null = refl

    pub literal_case : (x : Literal) →
        begin_at nest K (skip n (letters x ++ r)) ≡ got (node n (literal x)) (skip (n + length (letters x)) r)
    unfolding leaves_value emptied placed place leading trailing octets
    literal_case x =
        literal_begin x
        ∙ ap (λ g. then g (leaf n (λ u. literal x) (λ u. kind_literal x))) (word_read (letters x) n r)
        ∙ leaf_read (λ u. literal x) (λ u. kind_literal x) (tt {0}) n (length (letters x)) r

    number_begin : (c : ℕ) (s : List ℕ) → T (is_number_start c) →
        begin test nest K n (c ∷ s) ≡ then (read_num n (c ∷ s)) (leaf n number (λ y. 3))
    unfolding begin start
    number_begin c s t = ap (λ y. start test nest K y n (c ∷ s) (suc n) s) (number_lead c t)

    pub number_case : (x : Num) → T (halts is_number_lem r) →
        begin_at nest K (skip n (leaves_num x ++ r)) ≡ got (node n (number x)) (skip (n + length (leaves_num x)) r)
    unfolding leaves_value emptied placed place leading trailing octets
    number_case x h =
        let y = number_head x r in
        let t : T (halts is_space (leaves_num x ++ r)) =
        subst (λ z. T (halts is_space z)) (sym y.is)
        (among_all (λ c. not (is_space c)) (45 ∷ 48 ∷ 49 ∷ 50 ∷ 51 ∷ 52 ∷ 53 ∷ 54 ∷ 55 ∷ 56 ∷ 57 ∷ []) y.code tt
        y.starts) in
        ap (begin_at nest K) (scan_halts is_space n (leaves_num x ++ r) t)
        ∙ subst (λ z. begin test nest K n z ≡ then (read_num n z) (leaf n number (λ u. 3))) (sym y.is)
        (number_begin y.code y.rest y.starts)
        ∙ ap (λ g. then g (leaf n number (λ u. 3))) (num_read x n r h)
        ∙ leaf_read number (λ u. 3) x n (length (leaves_num x)) r

  -- Brackets

  pub open_begin : (nest : Bracket → ℕ → At → Got Node) (K m : ℕ) (b : Bracket) (Y : List ℕ) →
      begin_at nest K (skip m (opening b ∷ Y)) ≡ nest b m (skip (suc m) Y)
  unfolding scan begin start lead
  open_begin nest K m curly Y = refl
  open_begin nest K m square Y = refl

  pub open_read : (nest : Bracket → ℕ → At → Got Node) (K n : ℕ) (b : Bracket) (x : Sign) (Y : List ℕ) →
      begin_at nest K (skip n (leaves_sign (opening b) x ++ Y))
      ≡ nest b (n + length (octets x.before)) (skip (n + length (leaves_sign (opening b) x)) Y)
  open_read nest K n b x Y =
      let A = sign_length (opening b) x in
      let m = n + length (octets x.before) in
      let e : suc m + length (octets x.after) ≡ n + length (leaves_sign (opening b) x) = omega arith in
      ap (λ s. begin_at nest K (skip n s)) (sign_onto (opening b) x Y)
      ∙ ap (begin_at nest K) (scan_octets is_space n x.before (opening b ∷ (octets x.after ++ Y)))
      ∙ open_begin nest K m b (octets x.after ++ Y)
      ∙ ap (nest b m) (scan_octets is_space (suc m) x.after Y)
      ∙ ap (λ z. nest b m (skip z Y)) e

  -- No entry begins with the closing bracket.
  pub closed_first : (l K k m : ℕ) (b : Bracket) (R : List ℕ) →
      entries test b (value test l K) K k (at m (closing b ∷ R)) ≡ failed
  unfolding entries read_label read_string read_str word value begin start lead
  closed_first l K zero m b R = refl
  closed_first l K (suc k) m curly R = refl
  closed_first zero K (suc k) m square R = refl
  closed_first (suc l) K (suc k) m square R = refl
