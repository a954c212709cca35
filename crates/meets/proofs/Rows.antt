-- The members and elements of a value stand, one for one, where the reader's rows say: by induction on the entries,
-- each of which has its row in `placed`, which the reader shows. From this, objects without members and the outermost
-- members of a text.
use mathlib.Core.Path.{◌≡◌, refl, sym, ap, subst, subst₂, ◌∙◌}
use mathlib.Core.List.{List, [], ◌∷◌, ◌++◌, append_assoc, append-nil}
use mathlib.Core.Bool.{Bool, true, false, ◌&&◌, cond, true≢false}
use mathlib.Core.Logic.{◌↔◌}
use Prim.Native.Nat.{ℕ, suc, ◌+◌}
use native.Mathlib.Omega.{arith}
use native.Mathlib.Numerals.{add-one}
use lib.Dec.{T}
use lib.ListN.{length}
use borrow.Author.Tests.{eq-eqb}
use Rattle.parts.specs.Parts.{part}
use Rattle.grammar.specs.Grammar.{colon, comma, is_space, octets, Sign, leaves_sign, leaves_chars, leaves_str, Bracket, curly}
use Rattle.grammar.specs.Grammar.{square, opening, closing, Label, Value, nested, empty, string, number, literal, Entries}
use Rattle.grammar.specs.Grammar.{Literal, literal-true, literal-false, literal-null, last, more, leaves_label, leaves_value}
use Rattle.grammar.specs.Grammar.{leaves_entries}
use Rattle.grammar.specs.Places.{kind, kind_nested, kind_literal, leading, place, place_name, Placed, item, Parts, done}
use Rattle.grammar.specs.Places.{placed, placed_entries, kind_of, start_of, parts_of, members, elements}
use Rattle.grammar.specs.Places as places
use Rattle.grammar.specs.Strings.{every_label, every, every_entries}
use Rattle.grammar.specs.Spellings.{sayable}
use Rattle.grammar.specs.Reader.{octet_at, step, skip_space, Answer, nothing, found, read_text, rows_at, rows_in, value_at}
use Rattle.grammar.specs.Reader.{members_at, elements_at}
use Rattle.grammar.specs.Readings.{Reading}
use Rattle.grammar.specs.Shown.{Shown, Everywhere, EverywhereIn, StringsStand, StringsStandIn}
use Rattle.grammar.proofs.Theorems.{read_sound, read_complete}
use Rattle.grammar.proofs.Parse.{At, at, scan}
use Rattle.grammar.proofs.Scan.{both_T, scan_octets}
use Rattle.grammar.proofs.Complete.{sign_onto}
use Rattle.grammar.proofs.Positions.{Rest, rest_along, rest_next, octet_cons, step_cons, skip_scan, rest_scan}
use Rattle.headers.specs.Headers.{is_nothing, unread, outermost}
use Rattle.shape.specs.Shape.{hollow}
use Rattle.meets.specs.Members.{Member, member_of, element_of, members_in, elements_in, members_of, elements_of}
use Rattle.meets.proofs.OneForOne.{OneForOne, zip_none}
use Rattle.meets.proofs.Standing.{Stands, MemberStands, ElementStands, placed_kind, placed_start}
use Rattle.meets.proofs.Standing.{stands_placed, str_stands, reading_stands}

module _ (s : List ℕ) where
  -- Members and elements stand where the rows of parts say.
  abbrev RowsStand : List Member → List Value → Parts → Type 0
  RowsStand ms vs ps = OneForOne (MemberStands s) ms (members ps) × OneForOne (ElementStands s) vs (elements ps)

  -- One entry more.
  first_stands : (b : Bracket) (l : Label b) (v : Value) (n : ℕ) (r : List ℕ) (ps : Parts) (ms : List Member)
      (vs : List Value) → Rest s n (leaves_label b l ++ (leaves_value v ++ r)) →
      Everywhere (Shown 12 s) (placed (n + length (leaves_label b l)) v) →
      StringsStand s (n + length (leaves_label b l)) v → T (every_label sayable b l) → T (every sayable v) →
      RowsStand ms vs ps →
      RowsStand (member_of b l v ++ ms) (element_of b l v ++ vs)
      (places.part (place_name b n l) (placed (n + length (leaves_label b l)) v) ps)
  unfolding leaves_label member_of element_of place_name members elements every_label
  first_stands curly l v n r ps ms vs h shows strings says saysIn others =
      let w = leaves_chars l.name.chars in
      let C = leaves_sign colon l.sign in
      let L = leaves_label curly l in
      let k = n + length L in
      let name : Rest s n (leaves_str l.name ++ (C ++ (leaves_value v ++ r))) =
      record { is = h.is ∙ append_assoc (leaves_str l.name) C (leaves_value v ++ r) } in (
        (
          record {
            spelled = ap (λ m. part s m (length w)) (add-one n) ∙ str_stands s n l.name _ name;
            sayable = says;
            kinds = placed_kind v k;
            stands = stands_placed s v k r (rest_along L h) shows strings saysIn;
          },
          others.0,
        ),
        others.1,
      )
  first_stands square l v n r ps ms vs h shows strings says saysIn others = (
    others.0,
    (
      record {
        kinds = placed_kind v (n + 0);
        stands = stands_placed s v (n + 0) r (rest_along [] h) shows strings saysIn;
      },
      others.1,
    ),
  )

  none_stand : RowsStand [] [] done
  unfolding members elements
  none_stand = (tt, tt)

  entries_stand : {b : Bracket} (es : Entries b) (n : ℕ) (r : List ℕ) → Rest s n (leaves_entries es ++ r) →
      EverywhereIn (Shown 12 s) (placed_entries n es) → StringsStandIn s n es → T (every_entries sayable es) →
      RowsStand (members_in es) (elements_in es) (placed_entries n es)
  unfolding leaves_value placed Everywhere StringsStand every members_in elements_in
  entries_stand (last {b} l v) n r h shows strings says =
      let L = leaves_label b l in
      let t = both_T (every_label sayable b l) (every sayable v) says in
      let h' : Rest s n (L ++ (leaves_value v ++ r)) = record { is = h.is ∙ append_assoc L (leaves_value v) r } in
      subst₂ (λ ms vs. RowsStand ms vs (places.part (place_name b n l) (placed (n + length L) v) done))
      (append-nil (member_of b l v)) (append-nil (element_of b l v))
      (first_stands b l v n r done [] [] h' shows.0 strings.1 t.0 t.1 none_stand)
  entries_stand (more {b} l v x es) n r h shows strings says =
      let L = leaves_label b l in
      let W = leaves_value v in
      let C = leaves_sign comma x in
      let E = leaves_entries es in
      let t = both_T (every_label sayable b l) (every sayable v && every_entries sayable es) says in
      let u = both_T (every sayable v) (every_entries sayable es) t.1 in
      let e : leaves_entries (more l v x es) ++ r ≡ L ++ (W ++ (C ++ (E ++ r))) = simp append_assoc in
      let f : leaves_entries (more l v x es) ++ r ≡ (L ++ (W ++ C)) ++ (E ++ r) = simp append_assoc in
      first_stands b l v n (C ++ (E ++ r)) _ (members_in es) (elements_in es) (record { is = h.is ∙ e }) shows.0
      strings.1 t.0 u.0
      (entries_stand es (n + length (L ++ (W ++ C))) r (rest_along (L ++ (W ++ C)) (record { is = h.is ∙ f }))
      shows.1 strings.2 u.1)

  -- Those of any value.
  rows_stand : (v : Value) (n : ℕ) (r : List ℕ) → Rest s n (leaves_value v ++ r) →
      Everywhere (Shown 12 s) (placed n v) → StringsStand s n v → T (every sayable v) →
      RowsStand (members_of v) (elements_of v) (parts_of (placed n v))
  unfolding leaves_value placed Everywhere StringsStand every members_of elements_of
  rows_stand (nested b x es y) n r h shows strings says =
      let S = leaves_sign (opening b) x in
      let e : leaves_value (nested b x es y) ++ r ≡ S ++ (leaves_entries es ++ (leaves_sign (closing b) y ++ r)) =
      simp append_assoc in
      entries_stand es (n + length S) (leaves_sign (closing b) y ++ r) (rest_along S (record { is = h.is ∙ e }))
      shows.1 strings says
  rows_stand (empty b x y) n r h shows strings says = none_stand
  rows_stand (string x) n r h shows strings says = none_stand
  rows_stand (number x) n r h shows strings says = none_stand
  rows_stand (literal x) n r h shows strings says = none_stand

  -- What the reader shows of a placed value.

  shown_members : (p : Placed) → Everywhere (Shown 12 s) p → kind_of p ≡ 0 →
      members_at 12 s (start_of p) ≡ members (parts_of p)
  unfolding Everywhere Shown
  shown_members (item k q ps) h e = h.0.1 e

  shown_elements : (p : Placed) → Everywhere (Shown 12 s) p → kind_of p ≡ 1 →
      elements_at 12 s (start_of p) ≡ elements (parts_of p)
  unfolding Everywhere Shown
  shown_elements (item k q ps) h e = h.0.2 e

module _ (s : List ℕ) (v : Value) (at size : ℕ) (h : Stands s v at size) where
  starts_there : start_of (placed h.from v) ≡ at
  starts_there = sym (placed_start v h.from) ∙ h.starts

  rows_there : RowsStand s (members_of v) (elements_of v) (parts_of (placed h.from v))
  rows_there = rows_stand s v h.from h.rest h.leaves h.shown h.strings h.sayable

  -- The members of an object stand where the reader's rows say ..
  pub members_stand : kind v ≡ 0 → OneForOne (MemberStands s) (members_of v) (members_at 12 s at)
  members_stand e =
      let rows = shown_members s (placed h.from v) h.shown (placed_kind v h.from ∙ e) in
      subst (λ ms. OneForOne (MemberStands s) (members_of v) ms) (sym rows ∙ ap (members_at 12 s) starts_there) rows_there.0

  -- .. and so do the elements of an array.
  pub elements_stand : kind v ≡ 1 → OneForOne (ElementStands s) (elements_of v) (elements_at 12 s at)
  elements_stand e =
      let rows = shown_elements s (placed h.from v) h.shown (placed_kind v h.from ∙ e) in
      subst (λ xs. OneForOne (ElementStands s) (elements_of v) xs) (sym rows ∙ ap (elements_at 12 s) starts_there)
      rows_there.1

-- An object without members is one behind whose bracket nothing but space stands.

closed_skip : (b : Bracket) (m : ℕ) (Z : List ℕ) → scan is_space m (closing b ∷ Z) ≡ at m (closing b ∷ Z)
unfolding scan
closed_skip curly m Z = refl
closed_skip square m Z = refl

empty_hollow : (s : List ℕ) (b : Bracket) (x y : Sign) (from size : ℕ) → Stands s (empty b x y) from size →
    hollow b s from ≡ true
unfolding leaves_value place leading
empty_hollow s b x y from size h =
    let m = h.from + length (octets x.before) in
    let W = octets y.after ++ h.rest in
    let Z = octets x.after ++ (octets y.before ++ (closing b ∷ W)) in
    let e : leaves_value (empty b x y) ++ h.rest ≡ octets x.before ++ (opening b ∷ Z) =
    append_assoc (leaves_sign (opening b) x) (leaves_sign (closing b) y) h.rest
    ∙ sign_onto (opening b) x (leaves_sign (closing b) y ++ h.rest)
    ∙ ap (λ z. octets x.before ++ (opening b ∷ (octets x.after ++ z))) (sign_onto (closing b) y h.rest) in
    let opens : Rest s m (opening b ∷ Z) = rest_along (octets x.before) (record { is = h.leaves.is ∙ e }) in
    let inside = rest_next opens in
    let k = suc m + length (octets x.after) + length (octets y.before) in
    let scanned : scan is_space (suc m) Z ≡ at k (closing b ∷ W) =
    scan_octets is_space (suc m) x.after (octets y.before ++ (closing b ∷ W))
    ∙ scan_octets is_space (suc m + length (octets x.after)) y.before (closing b ∷ W) ∙ closed_skip b k W in
    let closes : Rest s k (closing b ∷ W) =
    subst (λ (st : At). Rest s st.pos st.rest) scanned (rest_scan is_space inside) in
    let there : skip_space s (step s from) ≡ k =
    ap (λ n. skip_space s (step s n)) (sym h.starts) ∙ ap (skip_space s) (step_cons opens) ∙ skip_scan is_space inside
    ∙ ap (λ (st : At). st.pos) scanned in
    eq-eqb (octet_at s (skip_space s (step s from))) (closing b) (ap (octet_at s) there ∙ octet_cons closes)

member_there : (b : Bracket) (l : Label b) (v : Value) (ms : List Member) → kind_nested b ≡ 0 →
    member_of b l v ++ ms ≡ [] → ⊥
unfolding member_of
member_there curly l v ms k e = omega (arith, ap length e)
member_there square l v ms k e = omega arith

filled : {b : Bracket} (es : Entries b) → kind_nested b ≡ 0 → members_in es ≡ [] → ⊥
unfolding members_in
filled (last {b} l v) k e = member_there b l v [] k (append-nil (member_of b l v) ∙ e)
filled (more {b} l v x es) k e = member_there b l v (members_in es) k e

hollow_none : (s : List ℕ) (at : ℕ) → hollow curly s at ≡ true → members_at 12 s at ≡ []
unfolding members_at rows_in
hollow_none s at e =
    ap (λ (b : Bool). cond b [] (rows_at (value_at 12 s) curly s (length s) (skip_space s (step s at)))) e

no_literal : (x : Literal) → kind_literal x ≡ 0 → ⊥
no_literal literal-true e = omega arith
no_literal literal-false e = omega arith
no_literal literal-null e = omega arith

none_hollow : (s : List ℕ) (v : Value) (at size : ℕ) → Stands s v at size → kind v ≡ 0 → members_of v ≡ [] →
    hollow curly s at ≡ true
unfolding kind members_of
none_hollow s (nested b x es y) at size h k e = absurd (filled es k e)
none_hollow s (empty curly x y) at size h k e = empty_hollow s curly x y at size h
none_hollow s (empty square x y) at size h k e = absurd (omega arith)
none_hollow s (string x) at size h k e = absurd (omega arith)
none_hollow s (number x) at size h k e = absurd (omega arith)
none_hollow s (literal x) at size h k e = absurd (no_literal x k)

pub hollow_stands : (s : List ℕ) (v : Value) (at size : ℕ) → Stands s v at size → kind v ≡ 0 →
    (hollow curly s at ≡ true) ↔ (members_of v ≡ [])
hollow_stands s v at size h k =
    let rows = zip_none (MemberStands s) (members_of v) (members_at 12 s at) (members_stand s v at size h k) in
    ((λ e. rows.1 (hollow_none s at e)), none_hollow s v at size h k)

-- A text that the reader answers, and its outermost members.

pub unread_decides : (s : List ℕ) → (unread s ≡ false) ↔ Reading 12 s
unfolding unread
unread_decides s = (
  (λ e. cases (read_text 12 s) refl e),
  (λ r. ap is_nothing (read_complete 12 s r).0),
)
  where
    cases : (a : Answer) → read_text 12 s ≡ a → is_nothing a ≡ false → Reading 12 s
    cases nothing q e = absurd (true≢false e)
    cases (found d k) q e = read_sound 12 s d k q

pub outermost_stand : (s : List ℕ) (r : Reading 12 s) →
    OneForOne (MemberStands s) (members_of r.text.value) (outermost s)
unfolding outermost
outermost_stand s r = members_stand s r.text.value (skip_space s 0) _ (reading_stands s r) r.object
