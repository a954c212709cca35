-- Values with the same octets are the same: both have one reading, so that their parts are placed alike, and the octets
-- at each place are the same again; by induction on levels. So every value is the same as itself.
use mathlib.Core.Path.{◌≡◌, refl, sym, ap, ◌∙◌}
use mathlib.Core.List.{List, [], ◌∷◌, ◌++◌, append-nil}
use mathlib.Core.Bool.{Bool, true, false, true≢false}
use mathlib.Core.Logic.{◌↔◌, ◌⊎◌, inl, inr}
use Prim.Native.Nat.{ℕ, zero, suc, ◌-◌, ◌≤◌, ◌<◌}
use native.Mathlib.Omega.{arith}
use lib.ListN.{length, take, drop, length-append}
use lib.Seq.{take-append_seam}
use Rattle.grammar.specs.Grammar.{quote, octets, Str, leaves_chars, leaves_str, curly, square, Value, nested, empty}
use Rattle.grammar.specs.Grammar.{string, number, literal, leaves_value, Text, leaves}
use Rattle.grammar.specs.Places.{levels, kind, Placed, placed, placed_text, kind_of, parts_of}
use Rattle.grammar.specs.Strings.{says, SayAlike}
use Rattle.grammar.specs.Utf8.{points}
use Rattle.grammar.specs.Spellings.{undo, equal}
use Rattle.grammar.specs.Bounds.{Every}
use Rattle.grammar.proofs.Theorems.{placed_alike}
use Rattle.grammar.proofs.Spellings.{undo_spelling}
use Rattle.prelude.specs.Any.{any_pair}
use Rattle.meets.specs.Members.{Member, members_of, elements_of, names_of, Some, Distinct, OneForOne}
use Rattle.meets.proofs.OneForOne.{zip_length}
use Rattle.meets.proofs.Deciding.{TrueWhere, every_map}
use Rattle.meets.proofs.Numbering.{equal_where}
use Rattle.meets.proofs.Standing.{placed_kind, kind_string}
use Rattle.meets.proofs.Entries.{distinct_where}
use Rattle.same_values.specs.Same.{own, NamesDistinct, SameWith, strings, numbers, literals, arrays, objects}
use Rattle.same_values.specs.Same.{repeating, Same}
use Rattle.same_values.proofs.Relation.{Shallow, ShallowMember, value_shallow, same_is}
use Rattle.same_values.proofs.EachKind.{kind_number, kind_literal_lem}
use Rattle.same_values.proofs.Sitting.{Sits, MemberPart, member_parts, element_parts, MemberSits, sits_rows}
use Rattle.same_values.proofs.Sitting.{sits_own}
use Rattle.same_values.proofs.Trimmed.{trim, trim_leaves, untrimmed}

-- Strings with the same octets say the same.

unquoted : (w : List ℕ) → take (length (quote ∷ (w ++ (quote ∷ []))) - 2) (drop 1 (quote ∷ (w ++ (quote ∷ [])))) ≡ w
unquoted w =
    let e : length (quote ∷ (w ++ (quote ∷ []))) - 2 ≡ length w = omega (arith, length-append w (quote ∷ [])) in
    ap (λ n. take n (w ++ (quote ∷ []))) e ∙ take-append_seam w (quote ∷ [])

pub chars_alike : (x y : Str) → leaves_chars x.chars ≡ leaves_chars y.chars → SayAlike x y
unfolding says
chars_alike x y e = ap points (sym (undo_spelling x) ∙ ap undo e ∙ undo_spelling y)

pub str_alike : (x y : Str) → leaves_str x ≡ leaves_str y → SayAlike x y
unfolding leaves_str
str_alike x y e =
    chars_alike x y
    (sym (unquoted (leaves_chars x.chars)) ∙ ap (λ z. take (length z - 2) (drop 1 z)) e
    ∙ unquoted (leaves_chars y.chars))

-- Whether names are distinct can be told.

itself : (xs : List Str) → OneForOne (λ x y. x ≡ y) xs xs
itself [] = tt
itself (x ∷ xs) = (refl, itself xs)

abbrev test : Str → Str → Bool
test x y = equal (says x) (says y)

pub distinct_or : (xs : List Str) → Distinct xs ⊎ (Distinct xs → ⊥)
distinct_or xs = cases (any_pair test xs) (distinct_where (λ x y. x ≡ y) test decides xs xs (itself xs))
  where
    decides : (x y a b : Str) → x ≡ a → y ≡ b → TrueWhere (test a b) (SayAlike x y)
    decides x y a b e f =
        let t = equal_where (says a) (says b) in (
          (λ g. ap says e ∙ t.0 g ∙ sym (ap says f)),
          (λ g. t.1 (sym (ap says e) ∙ g ∙ ap says f)),
        )

    cases : (b : Bool) → (b ≡ false) ↔ Distinct xs → Distinct xs ⊎ (Distinct xs → ⊥)
    cases true w = inr (λ d. true≢false (w.1 d))
    cases false w = inl (w.0 refl)

-- Pairs in order are pairs by name.
pairs_some : {A B : Type 0} (P : A → B → Type 0) (xs : List A) (ys : List B) → OneForOne P xs ys →
    Every (λ x. Some (P x) ys) xs
pairs_some P [] [] z = tt
pairs_some P [] (y ∷ ys) z = absurd z
pairs_some P (x ∷ xs) [] z = absurd z
pairs_some P (x ∷ xs) (y ∷ ys) z = (
  inl z.0,
  every_map (λ a. Some (P a) ys) (λ a. Some (P a) (y ∷ ys)) (λ a h. inr h) xs (pairs_some P xs ys z.1),
)

-- Two trees that sit at one place, R relating what stands in them there.
module _ (u : List ℕ) (R : Value → Value → Type 0) (l : ℕ)
    (related : (c d : Value) (p : Placed) → levels c < l → Sits u c p → Sits u d p → R c d) where
  elements_related : (vs ws : List Value) (ps : List Placed) → Every (Shallow l) vs → OneForOne (Sits u) vs ps →
      OneForOne (Sits u) ws ps → OneForOne R vs ws
  elements_related [] [] [] k a b = tt
  elements_related [] (w ∷ ws) [] k a b = absurd b
  elements_related (v ∷ vs) ws [] k a b = absurd a
  elements_related [] ws (p ∷ ps) k a b = absurd a
  elements_related (v ∷ vs) [] (p ∷ ps) k a b = absurd b
  elements_related (v ∷ vs) (w ∷ ws) (p ∷ ps) k a b =
      (related v w p k.0 a.0 b.0, elements_related vs ws ps k.1 a.1 b.1)

  abbrev Pair : Member → Member → Type 0
  Pair m n = SayAlike m.name n.name × R m.value n.value

  members_related : (ms ns : List Member) (ps : List MemberPart) → Every (ShallowMember l) ms →
      OneForOne (MemberSits u) ms ps → OneForOne (MemberSits u) ns ps → OneForOne Pair ms ns
  members_related [] [] [] k a b = tt
  members_related [] (n ∷ ns) [] k a b = absurd b
  members_related (m ∷ ms) ns [] k a b = absurd a
  members_related [] ns (p ∷ ps) k a b = absurd a
  members_related (m ∷ ms) [] (p ∷ ps) k a b = absurd b
  members_related (m ∷ ms) (n ∷ ns) (p ∷ ps) k a b = (
    (
      chars_alike m.name n.name (sym a.0.spelled ∙ b.0.spelled),
      related m.value n.value p.value k.0 a.0.value b.0.value,
    ),
    members_related ms ns ps k.1 a.1 b.1,
  )

  module _ (v w : Value) (p : Placed) (low : levels v ≤ l) (a : Sits u v p) (b : Sits u w p) where
    same_kind_lem : kind v ≡ kind w
    same_kind_lem =
        sym (placed_kind v a.from) ∙ ap kind_of a.is ∙ sym (ap kind_of b.is) ∙ placed_kind w b.from

    same_own : own v ≡ own w
    same_own = sym (sits_own u v p a) ∙ sits_own u w p b

    array_related : kind v ≡ 1 → SameWith R v w
    array_related e =
        arrays e (sym same_kind_lem ∙ e)
        (elements_related (elements_of v) (elements_of w) (element_parts (parts_of p)) (value_shallow v l low).1
        (sits_rows u v p a).1 (sits_rows u w p b).1)

    object_related : kind v ≡ 0 → SameWith R v w
    object_related e = cases (distinct_or (names_of (members_of v))) (distinct_or (names_of (members_of w)))
      where
        z : OneForOne Pair (members_of v) (members_of w)
        z =
            members_related (members_of v) (members_of w) (member_parts (parts_of p)) (value_shallow v l low).0
            (sits_rows u v p a).0 (sits_rows u w p b).0

        -- Their names say the same, one for one.
        transfer : (ms ns : List Member) → OneForOne Pair ms ns → Distinct (names_of ms) → Distinct (names_of ns)
        transfer [] [] q d = tt
        transfer [] (n ∷ ns) q d = absurd q
        transfer (m ∷ ms) [] q d = absurd q
        transfer (m ∷ ms) (n ∷ ns) q d = (apart ms ns q.1 d.0, transfer ms ns q.1 d.1)
          where
            apart : (xs ys : List Member) → OneForOne Pair xs ys →
                Every (λ y. SayAlike m.name y → ⊥) (names_of xs) → Every (λ y. SayAlike n.name y → ⊥) (names_of ys)
            apart [] [] r f = tt
            apart [] (y ∷ ys) r f = absurd r
            apart (x ∷ xs) [] r f = absurd r
            apart (x ∷ xs) (y ∷ ys) r f =
                ((λ g. f.0 (q.0.0 ∙ g ∙ sym r.0.0)), apart xs ys r.1 f.1)

        cases : NamesDistinct v ⊎ (NamesDistinct v → ⊥) → NamesDistinct w ⊎ (NamesDistinct w → ⊥) → SameWith R v w
        cases (inl d) (inl g) =
            objects e (sym same_kind_lem ∙ e) d g (zip_length Pair (members_of v) (members_of w) z)
            (pairs_some Pair (members_of v) (members_of w) z)
        cases (inl d) (inr n) = absurd (n (transfer (members_of v) (members_of w) z d))
        cases (inr n) g = repeating e (sym same_kind_lem ∙ e) n same_own

  pub sits_related : (v w : Value) (p : Placed) → levels v ≤ l → Sits u v p → Sits u w p → SameWith R v w
  unfolding kind own
  sits_related (nested curly x es y) w p low a b = object_related (nested curly x es y) w p low a b refl
  sits_related (nested square x es y) w p low a b = array_related (nested square x es y) w p low a b refl
  sits_related (empty curly x y) w p low a b = object_related (empty curly x y) w p low a b refl
  sits_related (empty square x y) w p low a b = array_related (empty square x y) w p low a b refl
  sits_related (string x) w p low a b =
      let (y, e) = kind_string w (sym (same_kind_lem (string x) w p low a b)) in
      strings x y refl e (str_alike x y (same_own (string x) w p low a b ∙ ap own e))
  sits_related (number x) w p low a b =
      let (y, e) = kind_number w (sym (same_kind_lem (number x) w p low a b)) in
      numbers x y refl e (same_own (number x) w p low a b ∙ ap own e)
  sits_related (literal x) w p low a b = literals x refl (kind_literal_lem w x (sym (same_kind_lem (literal x) w p low a b)))

-- Trees that sit at one place are the same.
pub same_sits : (u : List ℕ) (l : ℕ) (v w : Value) (p : Placed) → levels v ≤ l → Sits u v p → Sits u w p → Same v w
same_sits u zero v w p h a b =
    (same_is v w).1 (sits_related u Same 0 (λ c d q i. absurd (omega arith)) v w p h a b)
same_sits u (suc l) v w p h a b =
    (same_is v w).1 (sits_related u Same (suc l) (λ c d q i. same_sits u l c d q (omega arith)) v w p h a b)

-- The text that is the value alone.
abbrev alone : Value → Text
alone v = record { before = []; value = trim v; after = [] }

alone_leaves : (v : Value) → leaves (alone v) ≡ own v
unfolding leaves octets
alone_leaves v = append-nil (leaves_value (trim v)) ∙ trim_leaves v

alone_sits : (v : Value) (u : List ℕ) (p : Placed) → own v ≡ u → placed 0 (trim v) ≡ p → Sits u (trim v) p
alone_sits v u p e f = record {
  from = 0;
  rest = [];
  leaves = record { is = sym e ∙ sym (trim_leaves v) ∙ sym (append-nil (leaves_value (trim v))) };
  is = f;
}

-- Values with the same octets are the same.
pub same_octets : (v w : Value) → own v ≡ own w → Same v w
unfolding placed_text octets
same_octets v w e =
    let both : placed 0 (trim v) ≡ placed 0 (trim w) =
    placed_alike (alone v) (alone w) (alone_leaves v ∙ e ∙ sym (alone_leaves w)) in
    (same_is v w).1
    (untrimmed Same v w
    ((same_is (trim v) (trim w)).0
    (same_sits (own v) (levels (trim v)) (trim v) (trim w) (placed 0 (trim w)) (omega arith)
    (alone_sits v (own v) (placed 0 (trim w)) refl both) (alone_sits w (own v) (placed 0 (trim w)) (sym e) refl))))

pub same_refl : (v : Value) → Same v v
same_refl v = same_octets v v refl
