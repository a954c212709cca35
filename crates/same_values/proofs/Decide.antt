-- Comparing two values where they stand decides whether they are the same: by induction on the levels, through the
-- members and elements, which stand where the reader's rows say.
use mathlib.Core.Path.{◌≡◌, refl, sym, ap, ap₂, subst, subst₂, ◌∙◌}
use mathlib.Core.List.{List, [], ◌∷◌}
use mathlib.Core.Bool.{Bool, true, false, not, ◌&&◌, cond, true≢false, false≢true}
use mathlib.Core.Logic.{◌⊎◌, inl, inr}
use Prim.Native.Nat.{ℕ, zero, suc, ◌≤◌, ◌<◌}
use native.Mathlib.Omega.{arith}
use lib.Dec.{eqb}
use lib.ListN.{length}
use borrow.Author.Tests.{eqb-true}
use Rattle.parts.specs.Parts.{part}
use Rattle.grammar.specs.Grammar.{Str, Value, string}
use Rattle.grammar.specs.Places.{levels, kind, Element}
use Rattle.grammar.specs.Places as places
use Rattle.grammar.specs.Strings.{SayAlike}
use Rattle.grammar.specs.Spellings.{equal, alike}
use Rattle.grammar.specs.Bounds.{Every}
use Rattle.grammar.specs.Reader.{as_element, members_at, elements_at}
use Rattle.grammar.proofs.Endings.{either}
use Rattle.prelude.specs.Any.{any_pair}
use Rattle.meets.specs.Members.{Member, members_of, elements_of, names_of, Some, Distinct, OneForOne}
use Rattle.meets.proofs.OneForOne.{zip_length, zip_into, zip_map_left, zip_any}
use Rattle.meets.proofs.Deciding.{TrueWhere, FalseWhere, eqb_where}
use Rattle.meets.proofs.Deciding as deciding
use Rattle.meets.proofs.Standing.{Stands, MemberStands, ElementStands, kind_string}
use Rattle.meets.proofs.Saying.{Spells, name_spells, string_spells, alike_spells}
use Rattle.meets.proofs.Numbering.{equal_where}
use Rattle.meets.proofs.Rows.{members_stand, elements_stand}
use Rattle.meets.proofs.Entries.{distinct_where}
use Rattle.same.specs.Same.{all, own_at, spelled_at, name_at, same_name, repeats, same_elements, pairs, has_pair, same_members}
use Rattle.same.specs.Same.{same_kind, same_with, same_at}
use Rattle.same_values.specs.Same.{own, NamesDistinct, ByName, SameWith, strings, numbers, literals, arrays}
use Rattle.same_values.specs.Same.{objects, repeating, Same}
use Rattle.same_values.proofs.Relation.{Shallow, ShallowMember, value_shallow, same_is}
use Rattle.same_values.proofs.EachKind.{with_kind}
use Rattle.same_values.proofs.Sitting.{own_part}
use Rattle.same_values.proofs.Octets.{same_octets}

-- Tests made of tests

module _ {P Q : Type 0} where
  both_where : (a b : Bool) → TrueWhere a P → TrueWhere b Q → TrueWhere (a && b) (P × Q)
  both_where true b w v = ((λ e. (w.0 refl, v.0 e)), (λ p. v.1 p.1))
  both_where false b w v = ((λ e. absurd (false≢true e)), (λ p. w.1 p.0))

not_where : {P : Type 0} (b : Bool) → FalseWhere b P → TrueWhere (not b) P
not_where true w = ((λ e. absurd (false≢true e)), (λ p. absurd (true≢false (w.1 p))))
not_where false w = ((λ e. w.0 refl), (λ p. refl))

-- A value's own octets stand at its place.
pub stands_own : (s : List ℕ) (v : Value) (x : Element) → ElementStands s v x → own_at s x ≡ own v
stands_own s v x h =
    ap₂ (part s) (sym h.stands.starts) (sym h.stands.sized)
    ∙ own_part s v h.stands.from h.stands.rest h.stands.leaves

value_stands : (s : List ℕ) (m : Member) (p : places.Member) → MemberStands s m p →
    ElementStands s m.value (as_element p)
value_stands s m p h = record { kinds = h.kinds; stands = h.stands }

-- Names that are distinct, by the test.
names_decided : (s : List ℕ) (ms : List Member) (ps : List places.Member) → OneForOne (MemberStands s) ms ps →
    TrueWhere (not (repeats s ps)) (Distinct (names_of ms))
unfolding repeats
names_decided s ms ps z =
    not_where (any_pair (same_name s s) ps)
    (distinct_where (λ x p. Spells (name_at s p) x) (same_name s s)
    (λ x y p q g h. alike_spells (name_at s p) x g (name_at s q) y h) (names_of ms) ps
    ((zip_map_left (λ x p. Spells (name_at s p) x) (λ (m : Member). m.name) ms ps).0
    (zip_into (MemberStands s) (λ m p. Spells (name_at s p) m.name) (name_spells s) ms ps z)))

-- Two texts, `inner` deciding of values with fewer levels.
module _ (s t : List ℕ) (inner : Element → Element → Bool) (l : ℕ)
    (decides : (c d : Value) (x y : Element) → levels c < l → ElementStands s c x → ElementStands t d y →
    TrueWhere (inner x y) (Same c d)) where
  elements_decided : (vs ws : List Value) (xs ys : List Element) → Every (Shallow l) vs →
      OneForOne (ElementStands s) vs xs → OneForOne (ElementStands t) ws ys →
      TrueWhere (same_elements inner xs ys) (OneForOne Same vs ws)
  unfolding same_elements
  elements_decided [] [] [] [] k a b = ((λ e. tt), (λ h. refl))
  elements_decided [] (w ∷ ws) [] [] k a b = absurd b
  elements_decided [] [] [] (y ∷ ys) k a b = absurd b
  elements_decided [] (w ∷ ws) [] (y ∷ ys) k a b = ((λ e. absurd (false≢true e)), (λ h. absurd h))
  elements_decided [] ws (x ∷ xs) ys k a b = absurd a
  elements_decided (v ∷ vs) ws [] ys k a b = absurd a
  elements_decided (v ∷ vs) [] (x ∷ xs) [] k a b = ((λ e. absurd (false≢true e)), (λ h. absurd h))
  elements_decided (v ∷ vs) [] (x ∷ xs) (y ∷ ys) k a b = absurd b
  elements_decided (v ∷ vs) (w ∷ ws) (x ∷ xs) [] k a b = absurd b
  elements_decided (v ∷ vs) (w ∷ ws) (x ∷ xs) (y ∷ ys) k a b =
      both_where (inner x y) (same_elements inner xs ys) (decides v w x y k.0 a.0 b.0)
      (elements_decided vs ws xs ys k.1 a.1 b.1)

  abbrev Pair : Member → Member → Type 0
  Pair m n = SayAlike m.name n.name × Same m.value n.value

  pair_decided : (m n : Member) (p q : places.Member) → levels m.value < l → MemberStands s m p →
      MemberStands t n q → TrueWhere (pairs inner s t p q) (Pair m n)
  pair_decided m n p q k a b =
      both_where (same_name s t p q) (inner (as_element p) (as_element q))
      (alike_spells (name_at s p) m.name (name_spells s m p a) (name_at t q) n.name (name_spells t n q b))
      (decides m.value n.value (as_element p) (as_element q) k (value_stands s m p a) (value_stands t n q b))

  has_decided : (m : Member) (p : places.Member) → levels m.value < l → MemberStands s m p → (ns : List Member)
      (qs : List places.Member) → OneForOne (MemberStands t) ns qs →
      TrueWhere (has_pair inner s t qs p) (Some (Pair m) ns)
  unfolding has_pair
  has_decided m p k a ns qs z =
      let r = zip_any (MemberStands t) (Pair m) (pairs inner s t p)
      (λ n q b. let d = pair_decided m n p q k a b in (d.1, d.0)) ns qs z in
      (r.1, r.0)

  all_decided : (ns : List Member) (qs : List places.Member) → OneForOne (MemberStands t) ns qs → (ms : List Member)
      (ps : List places.Member) → Every (ShallowMember l) ms → OneForOne (MemberStands s) ms ps →
      TrueWhere (all (has_pair inner s t qs) ps) (ByName Same ms ns)
  unfolding all
  all_decided ns qs z [] [] k a = ((λ e. tt), (λ h. refl))
  all_decided ns qs z [] (p ∷ ps) k a = absurd a
  all_decided ns qs z (m ∷ ms) [] k a = absurd a
  all_decided ns qs z (m ∷ ms) (p ∷ ps) k a =
      both_where (has_pair inner s t qs p) (all (has_pair inner s t qs) ps) (has_decided m p k.0 a.0 ns qs z)
      (all_decided ns qs z ms ps k.1 a.1)

  lengths_decided : (ms ns : List Member) (ps qs : List places.Member) → OneForOne (MemberStands s) ms ps →
      OneForOne (MemberStands t) ns qs → TrueWhere (eqb (length ps) (length qs)) (length ms ≡ length ns)
  lengths_decided ms ns ps qs a b =
      let x = zip_length (MemberStands s) ms ps a in
      let y = zip_length (MemberStands t) ns qs b in
      let d = eqb_where (length ps) (length qs) in
      ((λ e. x ∙ d.0 e ∙ sym y), (λ e. d.1 (sym x ∙ e ∙ y)))

  members_decided : (ms ns : List Member) (ps qs : List places.Member) → Every (ShallowMember l) ms →
      OneForOne (MemberStands s) ms ps → OneForOne (MemberStands t) ns qs →
      TrueWhere (same_members inner s t ps qs)
      ((length ms ≡ length ns) × (Distinct (names_of ms) × (Distinct (names_of ns) × ByName Same ms ns)))
  unfolding same_members
  members_decided ms ns ps qs k a b =
      both_where _ _ (lengths_decided ms ns ps qs a b) (both_where _ _ (names_decided s ms ps a)
      (both_where _ _ (names_decided t ns qs b) (all_decided ns qs b ms ps k a)))

  module _ (v w : Value) (x y : Element) (low : levels v ≤ l) (a : ElementStands s v x) (b : ElementStands t w y) where
    abbrev ps : List places.Member
    ps = members_at 12 s x.start

    abbrev qs : List places.Member
    qs = members_at 12 t y.start

    abbrev xs : List Element
    xs = elements_at 12 s x.start

    abbrev ys : List Element
    ys = elements_at 12 t y.start

    object_decided : kind v ≡ 0 → kind w ≡ 0 →
        TrueWhere (same_members inner s t ps qs)
        ((length (members_of v) ≡ length (members_of w))
        × (NamesDistinct v × (NamesDistinct w × ByName Same (members_of v) (members_of w))))
    object_decided e f =
        members_decided (members_of v) (members_of w) ps qs (value_shallow v l low).0
        (members_stand s v x.start x.size a.stands e) (members_stand t w y.start y.size b.stands f)

    array_decided : kind v ≡ 1 → kind w ≡ 1 →
        TrueWhere (same_elements inner xs ys) (OneForOne Same (elements_of v) (elements_of w))
    array_decided e f =
        elements_decided (elements_of v) (elements_of w) xs ys (value_shallow v l low).1
        (elements_stand s v x.start x.size a.stands e) (elements_stand t w y.start y.size b.stands f)

    string_decided : (c d : Str) → v ≡ string c → w ≡ string d →
        TrueWhere (alike (spelled_at s x) (spelled_at t y)) (SayAlike c d)
    string_decided c d e f =
        alike_spells (spelled_at s x) c
        (string_spells s c x.start x.size (subst (λ z. Stands s z x.start x.size) e a.stands))
        (spelled_at t y) d
        (string_spells t d y.start y.size (subst (λ z. Stands t z y.start y.size) f b.stands))

    octets_decided : TrueWhere (equal (own_at s x) (own_at t y)) (own v ≡ own w)
    octets_decided =
        subst₂ (λ p q. TrueWhere (equal (own_at s x) (own_at t y)) (p ≡ q)) (stands_own s v x a) (stands_own t w y b)
        (equal_where (own_at s x) (own_at t y))

    -- The test that belongs to a kind.
    abbrev tested : ℕ → Bool
    tested k =
        cond (eqb k 0) (same_members inner s t ps qs)
        (cond (eqb k 1) (same_elements inner xs ys) (cond (eqb k 2) (alike (spelled_at s x) (spelled_at t y)) false))

    by_kind : (k : ℕ) → x.kind ≡ k → same_kind inner s t x y ≡ tested k
    unfolding same_kind
    by_kind k e = ap tested e

    passes : x.kind ≡ y.kind → same_kind inner s t x y ≡ true → Same v w
    unfolding same_kind
    passes e =
        let P : Bool → Type 0 = λ z. z ≡ true → Same v w in
        let kv : (n : ℕ) → eqb x.kind n ≡ true → kind v ≡ n = λ n g. sym a.kinds ∙ eqb-true x.kind n g in
        let kw : (n : ℕ) → eqb x.kind n ≡ true → kind w ≡ n =
        λ n g. sym b.kinds ∙ sym e ∙ eqb-true x.kind n g in
        either P (eqb x.kind 0)
        (λ g h.
        let d = (object_decided (kv 0 g) (kw 0 g)).0 h in
        (same_is v w).1 (objects (kv 0 g) (kw 0 g) d.1.0 d.1.1.0 d.0 d.1.1.1))
        (λ _. either P (eqb x.kind 1)
        (λ g h. (same_is v w).1 (arrays (kv 1 g) (kw 1 g) ((array_decided (kv 1 g) (kw 1 g)).0 h)))
        (λ _. either P (eqb x.kind 2)
        (λ g h.
        let (c, i) = kind_string v (kv 2 g) in
        let (d, j) = kind_string w (kw 2 g) in
        (same_is v w).1 (strings c d i j ((string_decided c d i j).0 h)))
        (λ _ h. absurd (false≢true h))))

    -- The octets are the same, or the kinds are and the kind's test passes.
    abbrev Found : Type 0
    Found = (own v ≡ own w) ⊎ ((x.kind ≡ y.kind) × (same_kind inner s t x y ≡ true))

    found : SameWith Same v w → Found
    unfolding kind own
    found p = cases p (a.kinds ∙ with_kind Same v w p ∙ sym b.kinds)
      where
        cases : SameWith Same v w → x.kind ≡ y.kind → Found
        cases (strings c d e f h) k = inr (k, by_kind 2 (a.kinds ∙ ap kind e) ∙ (string_decided c d e f).1 h)
        cases (numbers c d e f h) k = inl (ap own e ∙ h ∙ sym (ap own f))
        cases (literals c e f) k = inl (ap own (e ∙ sym f))
        cases (arrays e f h) k = inr (k, by_kind 1 (a.kinds ∙ e) ∙ (array_decided e f).1 h)
        cases (objects e f d g n h) k = inr (k, by_kind 0 (a.kinds ∙ e) ∙ (object_decided e f).1 (n, (d, (g, h))))
        cases (repeating e f d h) k = inl h

    pub with_decided : TrueWhere (same_with inner s t x y) (Same v w)
    unfolding same_with
    with_decided =
        let kinds = both_where (eqb x.kind y.kind) (same_kind inner s t x y) (eqb_where x.kind y.kind)
        ((λ g. g), (λ g. g)) in
        let tests = deciding.either (equal (own_at s x) (own_at t y)) _ octets_decided kinds in (
          (λ e. elim (tests.0 e) [ inl h ↦ same_octets v w h | inr h ↦ passes h.0 h.1 ]),
          (λ h. tests.1 (found ((same_is v w).0 h))),
        )

-- The theorem.
pub same_decided : (s t : List ℕ) (l : ℕ) (v w : Value) (x y : Element) → levels v ≤ l → ElementStands s v x →
    ElementStands t w y → TrueWhere (same_at l s t x y) (Same v w)
unfolding same_at
same_decided s t zero v w x y low a b =
    with_decided s t (λ _ _. false) 0 (λ c d p q k. absurd (omega arith)) v w x y low a b
same_decided s t (suc l) v w x y low a b =
    with_decided s t (same_at l s t) (suc l) (λ c d p q k. same_decided s t l c d p q (omega arith)) v w x y low a b
