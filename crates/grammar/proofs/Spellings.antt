-- Comparing spellings decides whether strings say the same: undoing the escapes of a string's spelling gives its
-- octets, and well-formed octets are equal exactly where their code points are.
use mathlib.Core.Path.{◌≡◌, refl, sym, ap, ap₂, subst, ◌∙◌}
use mathlib.Core.List.{List, [], ◌∷◌, ◌++◌, append_assoc}
use mathlib.Core.Bool.{◌&&◌}
use mathlib.Core.Option.{Option, none, some}
use mathlib.Core.Logic.{◌↔◌}
use Prim.Native.Nat.{ℕ}
use native.Mathlib.Omega.{arith}
use lib.Dec.{T, eqb, eqb→eq, eqb_refl}
use Rattle.grammar.specs.Grammar.{quote, comma, octets, leaves_sign, Char, unescaped, escape, unicode, Str}
use Rattle.grammar.specs.Grammar.{leaves_char, leaves_chars, leaves_str, Bracket, curly, square, opening, closing}
use Rattle.grammar.specs.Grammar.{Label, Value, nested, empty, string, number, literal, Entries, last, more}
use Rattle.grammar.specs.Grammar.{leaves_label, leaves_value, leaves_entries, leaves}
use Rattle.grammar.specs.Strings.{half, undone_char, undone_after, undone, says, SayAlike, HasOctets, paired}
use Rattle.grammar.specs.Strings.{every_label, every, every_entries}
use Rattle.grammar.specs.Spellings.{between, adds, next, undo_from, undo, equal, alike, has, sayable}
use Rattle.grammar.specs.Utf8.{points, encodes, utf8, utf8_after}
use Rattle.grammar.specs.Readings.{Reading}
use Rattle.grammar.proofs.Scan.{both_T}
use Rattle.grammar.proofs.Characters.{unescaped_not, escape_not}
use Rattle.grammar.proofs.Utf8Test.{both, utf8_complete}
use Rattle.grammar.proofs.Points.{encodes_points}
use Rattle.grammar.proofs.Undone.{suffix, low_step, undone_utf8}

-- Undoing a spelling

undo_char : (h : Option ℕ) (c : Char) (w : List ℕ) →
    undo_from (between h) (leaves_char c ++ w) ≡ undone_char h c ++ undo_from (between (half c)) w
unfolding leaves_char undone_char half undo_from adds next
undo_char h (unescaped o) w = rw (unescaped_not o).1
undo_char h (escape o) w = rw (escape_not o)
undo_char none (unicode a b c d) w = refl
undo_char (some g) (unicode a b c d) w = refl

undo_chars : (cs : List Char) (h : Option ℕ) → undo_from (between h) (leaves_chars cs) ≡ undone_after h cs
unfolding leaves_chars undone_after undo_from
undo_chars [] h = refl
undo_chars (c ∷ cs) h =
    undo_char h c (leaves_chars cs) ∙ ap (λ z. undone_char h c ++ z) (undo_chars cs (half c))

pub undo_spelling : (x : Str) → undo (leaves_chars x.chars) ≡ undone x
unfolding undo undone
undo_spelling x = undo_chars x.chars none

-- Equal lists

pub equal_sound : (v w : List ℕ) → T (equal v w) → v ≡ w
unfolding equal
equal_sound [] [] t = refl
equal_sound [] (d ∷ w) t = absurd t
equal_sound (c ∷ v) [] t = absurd t
equal_sound (c ∷ v) (d ∷ w) t =
    let u = both_T (eqb c d) (equal v w) t in
    ap₂ (λ x y. x ∷ y) (eqb→eq c d u.0) (equal_sound v w u.1)

pub equal_same : (v : List ℕ) → T (equal v v)
unfolding equal
equal_same [] = tt
equal_same (c ∷ v) = both (eqb c c) (equal v v) (eqb_refl c) (equal_same v)

-- Comparing

-- A string that says code points: their UTF-8 is its octets.
pub says_octets : (x : Str) → T (sayable x) → encodes (says x) ≡ undone x
unfolding sayable says
says_octets x t = encodes_points (undone x) t

pub alike_decides : (x y : Str) → T (sayable x) → T (sayable y) →
    T (alike (leaves_chars x.chars) (leaves_chars y.chars)) ↔ SayAlike x y
unfolding alike says
alike_decides x y s t = (
  (λ e. ap points (sym (undo_spelling x) ∙ equal_sound _ _ e ∙ undo_spelling y)),
  (λ e.
      let u : undo (leaves_chars x.chars) ≡ undo (leaves_chars y.chars) =
      undo_spelling x ∙ sym (says_octets x s) ∙ ap encodes e ∙ says_octets y t ∙ sym (undo_spelling y) in
      subst (λ z. T (equal (undo (leaves_chars x.chars)) z)) u (equal_same (undo (leaves_chars x.chars)))),
)

pub has_decides : (x : Str) (w : List ℕ) → T (sayable x) → T (has (leaves_chars x.chars) w) ↔ HasOctets x w
unfolding has
has_decides x w s = (
  (λ e. says_octets x s ∙ sym (undo_spelling x) ∙ equal_sound (undo (leaves_chars x.chars)) w e),
  (λ e.
      let u : undo (leaves_chars x.chars) ≡ w = undo_spelling x ∙ sym (says_octets x s) ∙ e in
      subst (λ z. T (equal (undo (leaves_chars x.chars)) z)) u (equal_same (undo (leaves_chars x.chars)))),
)

-- Every string of a reading says code points: by induction on the tree, each subtree standing somewhere in the text.

string_sayable : (x : Str) (pre post : List ℕ) → T (utf8_after [] (pre ++ (leaves_str x ++ post))) → T (paired x) →
    T (sayable x)
unfolding leaves_str paired sayable undone utf8
string_sayable x pre post t p =
    let e : pre ++ (leaves_str x ++ post) ≡ pre ++ (quote ∷ (leaves_chars x.chars ++ (quote ∷ post))) =
    ap (λ z. pre ++ (quote ∷ z)) (append_assoc (leaves_chars x.chars) (quote ∷ []) post) in
    let u = suffix pre [] quote (leaves_chars x.chars ++ (quote ∷ post)) tt (omega arith)
    (subst (λ z. T (utf8_after [] z)) e t) in
    let v : T (utf8_after [] (leaves_chars x.chars ++ (quote ∷ post))) =
    rw (low_step quote (leaves_chars x.chars ++ (quote ∷ post)) (omega arith)) at u in
    undone_utf8 x.chars [] none post tt tt v p

-- Regrouping what stands before and behind.
abbrev Standing : List ℕ → List ℕ → List ℕ → Type 0
Standing pre w post = T (utf8_after [] (pre ++ (w ++ post)))

inner : (pre a w z post : List ℕ) → Standing pre (a ++ (w ++ z)) post → Standing (pre ++ a) w (z ++ post)
inner pre a w z post t =
    subst (λ x. T (utf8_after [] x)) (simp append_assoc) t

label_sayable : (b : Bracket) (l : Label b) (pre post : List ℕ) → Standing pre (leaves_label b l) post →
    T (every_label paired b l) → T (every_label sayable b l)
unfolding leaves_label every_label
label_sayable curly l pre post t p =
    string_sayable l.name pre _
    (subst (λ z. T (utf8_after [] (pre ++ z))) (append_assoc (leaves_str l.name) _ post) t) p
label_sayable square l pre post t p = tt

mutual
  unfolding leaves_value every

  value_sayable : (v : Value) (pre post : List ℕ) → Standing pre (leaves_value v) post → T (every paired v) →
      T (every sayable v)
  value_sayable (nested b x es y) pre post t p =
      entries_sayable es (pre ++ leaves_sign (opening b) x) (leaves_sign (closing b) y ++ post)
      (inner pre (leaves_sign (opening b) x) (leaves_entries es) (leaves_sign (closing b) y) post t) p
  value_sayable (empty b x y) pre post t p = tt
  value_sayable (string x) pre post t p = string_sayable x pre post t p
  value_sayable (number x) pre post t p = tt
  value_sayable (literal x) pre post t p = tt

  entries_sayable : {b : Bracket} (es : Entries b) (pre post : List ℕ) → Standing pre (leaves_entries es) post →
      T (every_entries paired es) → T (every_entries sayable es)
  entries_sayable (last {b} l v) pre post t p =
      let q = both_T (every_label paired b l) (every paired v) p in
      let L = leaves_label b l in
      let W = leaves_value v in
      both (every_label sayable b l) (every sayable v)
      (label_sayable b l pre (W ++ post) (subst (λ z. T (utf8_after [] (pre ++ z))) (append_assoc L W post) t) q.0)
      (value_sayable v (pre ++ L) post (subst (λ z. T (utf8_after [] z)) (simp append_assoc) t) q.1)
  entries_sayable (more {b} l v x es) pre post t p =
      let q = both_T (every_label paired b l) (every paired v && every_entries paired es) p in
      let r = both_T (every paired v) (every_entries paired es) q.1 in
      let L = leaves_label b l in
      let W = leaves_value v in
      let C = leaves_sign comma x in
      let E = leaves_entries es in
      both (every_label sayable b l) (every sayable v && every_entries sayable es)
      (label_sayable b l pre ((W ++ (C ++ E)) ++ post)
      (subst (λ z. T (utf8_after [] (pre ++ z))) (append_assoc L (W ++ (C ++ E)) post) t) q.0)
      (both (every sayable v) (every_entries sayable es)
      (value_sayable v (pre ++ L) ((C ++ E) ++ post) (inner pre L W (C ++ E) post t) r.0)
      (entries_sayable es (pre ++ (L ++ (W ++ C))) post (subst (λ z. T (utf8_after [] z)) (simp append_assoc) t) r.1))

pub reading_sayable : (l : ℕ) (s : List ℕ) (r : Reading l s) → T (every sayable r.text.value)
unfolding leaves utf8
reading_sayable l s r =
    value_sayable r.text.value (octets r.text.before) (octets r.text.after)
    (subst (λ z. T (utf8_after [] z)) (sym r.reads) (utf8_complete s r.well_formed)) r.pairs
