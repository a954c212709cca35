-- A tree whose leaves stand somewhere in a list of octets: its own octets are the part at its place, and its members
-- and elements sit at the places of their parts.
use mathlib.Core.Path.{◌≡◌, refl, sym, ap, ap₂, subst, subst₂, ◌∙◌}
use mathlib.Core.List.{List, [], ◌∷◌, ◌++◌, append_assoc, append-nil}
use mathlib.Core.Bool.{Bool, true, false, cond}
use mathlib.Core.Option.{none, some}
use Prim.Native.Nat.{ℕ, ◌+◌, ◌-◌}
use native.Mathlib.Omega.{arith}
use native.Mathlib.Numerals.{add-one}
use lib.Dec.{leb}
use lib.ListN.{length, take, drop, length-append, length-drop}
use lib.Seq.{take-append_seam}
use Rattle.parts.specs.Parts.{part}
use Rattle.parts.proofs.Laws.{part_fits}
use Rattle.grammar.specs.Grammar.{colon, comma, octets, leaves_sign, leaves_chars, leaves_str, leaves_num, letters, Bracket}
use Rattle.grammar.specs.Grammar.{curly, square, opening, closing, Label, Value, nested, empty, string, number, literal}
use Rattle.grammar.specs.Grammar.{Entries, last, more, leaves_label, leaves_value, leaves_entries}
use Rattle.grammar.specs.Places.{leading, trailing, place, place_name, Place, Placed, Parts, done, placed, placed_entries}
use Rattle.grammar.specs.Places.{start_of, size_of, parts_of}
use Rattle.grammar.specs.Places as places
use Rattle.grammar.proofs.Positions.{Rest, rest_along}
use Rattle.meets.specs.Members.{Member, member_of, element_of, members_in, elements_in, members_of, elements_of, OneForOne}
use Rattle.meets.proofs.Standing.{placed_start, placed_size, str_stands}
use Rattle.same_values.specs.Same.{own}

-- Two brackets, o and c, with the space on either side of each and something between them.
bracketed : (before : List ℕ) (o : ℕ) (x w y : List ℕ) (c : ℕ) (after : List ℕ) →
    (before ++ (o ∷ x)) ++ (w ++ (y ++ (c ∷ after))) ≡ before ++ ((o ∷ (x ++ (w ++ (y ++ (c ∷ []))))) ++ after)
bracketed before o x w y c after = simp append_assoc

-- A value's leaves are its own octets and the space around them.
pub leaves_own : (v : Value) → leaves_value v ≡ octets (leading v) ++ (own v ++ octets (trailing v))
unfolding leaves_value leading trailing own leaves_sign octets
leaves_own (nested b x es y) =
    bracketed (octets x.before) (opening b) (octets x.after) (leaves_entries es) (octets y.before) (closing b)
    (octets y.after)
leaves_own (empty b x y) =
    bracketed (octets x.before) (opening b) (octets x.after) [] (octets y.before) (closing b)
    (octets y.after)
leaves_own (string x) = sym (append-nil (leaves_str x))
leaves_own (number x) = sym (append-nil (leaves_num x))
leaves_own (literal x) = sym (append-nil (letters x))

-- What stands at a position is the part there.
pub part_rest : (s : List ℕ) (n : ℕ) (w r : List ℕ) → Rest s n (w ++ r) → part s n (length w) ≡ w
unfolding part
part_rest s n [] r h = cases (leb (n + 0) (length s))
  where
    cases : (b : Bool) → cond b (take 0 (drop n s)) [] ≡ []
    cases true = refl
    cases false = refl
part_rest s n (c ∷ w) r h =
    part_fits s n (length (c ∷ w)) (omega (arith, length-append w r, length-drop n s, ap length h.is))
    ∙ ap (take (length (c ∷ w))) h.is ∙ take-append_seam (c ∷ w) r

-- The own octets are the part at the place.
pub own_part : (s : List ℕ) (v : Value) (n : ℕ) (r : List ℕ) → Rest s n (leaves_value v ++ r) →
    part s (place n v).start (place n v).size ≡ own v
unfolding place
own_part s v n r h =
    let L = octets (leading v) in
    let T = octets (trailing v) in
    let e : leaves_value v ++ r ≡ L ++ (own v ++ (T ++ r)) =
    ap (λ z. z ++ r) (leaves_own v) ∙ append_assoc L (own v ++ T) r ∙ ap (λ z. L ++ z) (append_assoc (own v) T r) in
    let size : length (leaves_value v) - (length L + length T) ≡ length (own v) =
    omega (arith, ap length (leaves_own v), length-append L (own v ++ T), length-append (own v) T) in
    ap (part s (n + length L)) size
    ∙ part_rest s (n + length L) (own v) (T ++ r) (rest_along L (record { is = h.is ∙ e }))

-- A tree sits in u where it is placed.
pub record Sits (u : List ℕ) (v : Value) (p : Placed) : Type 0 where
  pub from : ℕ
  pub rest : List ℕ
  pub leaves : Rest u from (leaves_value v ++ rest)
  pub is : placed from v ≡ p

-- The parts of a placed value, as members and as elements.

pub record MemberPart : Type 0 where
  pub name : Place
  pub value : Placed

unfoldable pub member_parts : Parts → List MemberPart
member_parts done = []
member_parts (places.part none v ps) = member_parts ps
member_parts (places.part (some q) v ps) = record { name = q; value = v } ∷ member_parts ps

unfoldable pub element_parts : Parts → List Placed
element_parts done = []
element_parts (places.part none v ps) = v ∷ element_parts ps
element_parts (places.part (some q) v ps) = element_parts ps

pub record MemberSits (u : List ℕ) (m : Member) (r : MemberPart) : Type 0 where
  pub spelled : part u r.name.start r.name.size ≡ leaves_chars m.name.chars
  pub value : Sits u m.value r.value

module _ (u : List ℕ) where
  abbrev RowsSit : List Member → List Value → Parts → Type 0
  RowsSit ms vs ps = OneForOne (MemberSits u) ms (member_parts ps) × OneForOne (Sits u) vs (element_parts ps)

  sits_placed : (v : Value) (n : ℕ) (r : List ℕ) → Rest u n (leaves_value v ++ r) → Sits u v (placed n v)
  sits_placed v n r h = record { from = n; rest = r; leaves = h; is = refl }

  first_sits : (b : Bracket) (l : Label b) (v : Value) (n : ℕ) (r : List ℕ) (ps : Parts) (ms : List Member)
      (vs : List Value) → Rest u n (leaves_label b l ++ (leaves_value v ++ r)) → RowsSit ms vs ps →
      RowsSit (member_of b l v ++ ms) (element_of b l v ++ vs)
      (places.part (place_name b n l) (placed (n + length (leaves_label b l)) v) ps)
  unfolding leaves_label member_of element_of place_name member_parts element_parts
  first_sits curly l v n r ps ms vs h others =
      let w = leaves_chars l.name.chars in
      let C = leaves_sign colon l.sign in
      let L = leaves_label curly l in
      let k = n + length L in
      let name : Rest u n (leaves_str l.name ++ (C ++ (leaves_value v ++ r))) =
      record { is = h.is ∙ append_assoc (leaves_str l.name) C (leaves_value v ++ r) } in (
        (
          record {
            spelled = ap (λ m. part u m (length w)) (add-one n) ∙ str_stands u n l.name _ name;
            value = sits_placed v k r (rest_along L h);
          },
          others.0,
        ),
        others.1,
      )
  first_sits square l v n r ps ms vs h others = (others.0, (sits_placed v (n + 0) r (rest_along [] h), others.1))

  none_sit : RowsSit [] [] done
  unfolding member_parts element_parts
  none_sit = (tt, tt)

  entries_sit : {b : Bracket} (es : Entries b) (n : ℕ) (r : List ℕ) → Rest u n (leaves_entries es ++ r) →
      RowsSit (members_in es) (elements_in es) (placed_entries n es)
  unfolding leaves_value placed members_in elements_in
  entries_sit (last {b} l v) n r h =
      let L = leaves_label b l in
      subst₂ (λ ms vs. RowsSit ms vs (places.part (place_name b n l) (placed (n + length L) v) done))
      (append-nil (member_of b l v)) (append-nil (element_of b l v))
      (first_sits b l v n r done [] [] (record { is = h.is ∙ append_assoc L (leaves_value v) r }) none_sit)
  entries_sit (more {b} l v x es) n r h =
      let L = leaves_label b l in
      let W = leaves_value v in
      let C = leaves_sign comma x in
      let E = leaves_entries es in
      let e : leaves_entries (more l v x es) ++ r ≡ L ++ (W ++ (C ++ (E ++ r))) = simp append_assoc in
      let f : leaves_entries (more l v x es) ++ r ≡ (L ++ (W ++ C)) ++ (E ++ r) = simp append_assoc in
      first_sits b l v n (C ++ (E ++ r)) _ (members_in es) (elements_in es) (record { is = h.is ∙ e })
      (entries_sit es (n + length (L ++ (W ++ C))) r (rest_along (L ++ (W ++ C)) (record { is = h.is ∙ f })))

  rows_sit : (v : Value) (n : ℕ) (r : List ℕ) → Rest u n (leaves_value v ++ r) →
      RowsSit (members_of v) (elements_of v) (parts_of (placed n v))
  unfolding leaves_value placed members_of elements_of
  rows_sit (nested b x es y) n r h =
      let S = leaves_sign (opening b) x in
      let e : leaves_value (nested b x es y) ++ r ≡ S ++ (leaves_entries es ++ (leaves_sign (closing b) y ++ r)) =
      simp append_assoc in
      entries_sit es (n + length S) (leaves_sign (closing b) y ++ r) (rest_along S (record { is = h.is ∙ e }))
  rows_sit (empty b x y) n r h = none_sit
  rows_sit (string x) n r h = none_sit
  rows_sit (number x) n r h = none_sit
  rows_sit (literal x) n r h = none_sit

  -- Of a tree that sits at p.
  module _ (v : Value) (p : Placed) (h : Sits u v p) where
    pub sits_rows : RowsSit (members_of v) (elements_of v) (parts_of p)
    sits_rows =
        subst (λ q. RowsSit (members_of v) (elements_of v) (parts_of q)) h.is
        (rows_sit v h.from h.rest h.leaves)

    pub sits_own : part u (start_of p) (size_of p) ≡ own v
    sits_own =
        ap₂ (part u) (ap start_of (sym h.is) ∙ sym (placed_start v h.from))
        (ap size_of (sym h.is) ∙ sym (placed_size v h.from))
        ∙ own_part u v h.from h.rest h.leaves
